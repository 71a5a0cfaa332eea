-- How a command of a node ends, and why.
use Rattle.std.specs.Prelude.{◌≡◌, ℕ, ◌+◌, ◌<◌, ◌≤◌, Bool, true, false, Result, Ok, Err, IfSome, is_ok, length}
use Rattle.node_store.specs.declared.error.ImportError.{ImportError}
use Rattle.node_store.specs.declared.error.ImportError.TheVariants as import
use Rattle.node_store.specs.declared.error.MountError.{MountError}
use Rattle.node_store.specs.declared.error.MountError.TheVariants as mount
use Rattle.node_laws.specs.declared.answers.answer.Cause.TheVariants.{StoreFull}
use Rattle.rm_base.specs.Count.{Rose, RoseBy}
use Rattle.rm_base.specs.Outside.{Stream}
use Rattle.rm_disk.specs.Cause.{HasCause}
use Rattle.rm_disk.specs.Told.{Told}
use Rattle.http_endpoint.specs.Link.Lines.{Net}
use Rattle.rm_node.specs.declared.error.NodeError.{NodeError}
use Rattle.rm_node.specs.declared.error.NodeError.TheVariants as node
use Rattle.rm_script.specs.Report.Exits as exits
use Rattle.rm_host.specs.declared.end.End.{End}
use Rattle.rm_host.specs.declared.end.End.TheVariants.{Usage, ReadFault, WriteFault, DiskFault, LinkFault, TooLong}
use Rattle.rm_host.specs.declared.end.End.TheVariants.{BadAddress, NotEmpty, Refused, Memory, NotAJournal}
use Rattle.rm_host.specs.declared.host.Host.{Host}

-- the exit status
abbrev pub status_of : End → ℕ
status_of Usage = exits.usage
status_of ReadFault = exits.read_fault
status_of WriteFault = exits.write_fault
status_of DiskFault = exits.disk_fault
status_of LinkFault = exits.link_fault
status_of TooLong = exits.too_long
status_of BadAddress = exits.refused
status_of NotEmpty = exits.refused
status_of (Refused cause) = exits.refused
status_of Memory = exits.memory
status_of NotAJournal = exits.not_a_journal

-- the end where a call of the node fails: one that is down has met a fault of its disk
abbrev pub node_end : NodeError → End
node_end node.Memory = Memory
node_end node.Disk = DiskFault
node_end node.Down = DiskFault
node_end (node.Refused cause) = Refused cause

-- the end where no node is mounted
abbrev pub mount_end : MountError → End
mount_end mount.Memory = Memory
mount_end mount.Disk = DiskFault
mount_end mount.NotAJournal = NotAJournal

-- the end where no node is made of a journal of the layout before
abbrev pub import_end : ImportError → End
import_end import.Memory = Memory
import_end import.Disk = DiskFault
import_end import.NotAJournal = NotAJournal
import_end (import.Full end needed) = Refused (StoreFull end needed)

-- by a fault of the disk
abbrev pub is_disk_end : End → Bool
is_disk_end DiskFault = true
is_disk_end _ = false

-- by a fault of the link
abbrev pub is_link_end : End → Bool
is_link_end LinkFault = true
is_link_end _ = false

-- by the words, or by what is read or printed
abbrev pub is_outer_end : End → Bool
is_outer_end Usage = true
is_outer_end ReadFault = true
is_outer_end WriteFault = true
is_outer_end TooLong = true
is_outer_end BadAddress = true
is_outer_end _ = false

-- by the words, or by what is read
abbrev pub is_of_input_end : End → Bool
is_of_input_end WriteFault = false
is_of_input_end e = is_outer_end e

-- by a refusal of the node
abbrev pub is_refusal : End → Bool
is_refusal (Refused cause) = true
is_refusal _ = false

-- by a call of a node that was mounted
abbrev pub is_of_call : End → Bool
is_of_call Memory = true
is_of_call DiskFault = true
is_of_call (Refused cause) = true
is_of_call _ = false

-- the disk is to blame
abbrev pub is_disk_fault : {T : Type 0} → Result T End → Bool
is_disk_fault (Ok x) = false
is_disk_fault (Err e) = is_disk_end e

-- the link is to blame
abbrev pub is_link_fault : {T : Type 0} → Result T End → Bool
is_link_fault (Ok x) = false
is_link_fault (Err e) = is_link_end e

-- the words are to blame, or what is read or printed
abbrev pub is_outer : {T : Type 0} → Result T End → Bool
is_outer (Ok x) = false
is_outer (Err e) = is_outer_end e

-- the words are to blame, or what is read
abbrev pub is_of_input : {T : Type 0} → Result T End → Bool
is_of_input (Ok x) = false
is_of_input (Err e) = is_of_input_end e

-- the node refused it
abbrev pub is_refused : {T : Type 0} → Result T End → Bool
is_refused (Ok x) = false
is_refused (Err e) = is_refusal e

-- how often calls of a host's disk have failed, and calls of its link
pub record Faults : Type 0 where
  pub disk : ℕ
  pub link : ℕ

-- by what its disk and its link tell
abbrev pub faults_of : {D L C : Type 0} → (D → Told) → (L → Net) → Host D L C → Faults
faults_of told net host = record { disk = (told host.disk).faults; link = (net host.link).faults }

-- Why something ends so: the disk's count of faults rose exactly where the disk is to blame, and the link's did where
-- the link is. Where all went well the link's never fell.
pub record Reason (old new : Faults) (broke lost ok : Bool) : Type 0 where
  pub disk : HasCause old.disk new.disk broke
  pub link : lost ≡ true → Rose old.link new.link
  pub later : ok ≡ true → old.link ≤ new.link

-- why a command ends so
abbrev pub HasReason : {T : Type 0} → Faults → Faults → Result T End → Type 0
HasReason old new result = Reason old new (is_disk_fault result) (is_link_fault result) (is_ok result)

-- what a command does to the output before the text that it answers is printed: the count of faults doesn't fall, and
-- the command ends by a fault of writing only where it rose
pub record Prints {T : Type 0} (old new : Stream) (result : Result T End) : Type 0 where
  pub later : old.faults ≤ new.faults
  pub fault : result ≡ Err WriteFault → Rose old.faults new.faults

-- more bytes than so many were taken, and there were more, where that is known
pub record WasTooLong (limit : ℕ) (old new : Stream) : Type 0 where
  pub taken : RoseBy old.taken new.taken (limit + 1)
  pub longer : IfSome old.left (λ all. limit < length all)

-- what a command that reads so many bytes at most did to its input
abbrev pub Took : {T : Type 0} → (limit : ℕ) → Stream → Stream → Result T End → Type 0
Took limit old new (Err ReadFault) = Rose old.faults new.faults
Took limit old new (Err TooLong) = WasTooLong limit old new
Took limit old new (Err Usage) = ⊥
Took limit old new (Err WriteFault) = ⊥
Took limit old new (Err BadAddress) = ⊥
Took limit old new (Err Memory) = Unit {0}
Took limit old new _ = IfSome old.left (λ all. length all ≤ limit)
