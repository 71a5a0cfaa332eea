-- What a run of a node's words comes to.
use Rattle.std.specs.Prelude.{◌≡◌, ℕ, ◌<◌, ◌==◌, ◌⊎◌, ◌↔◌, true, false, List, [], ◌∷◌, length, Result, Err, IfSome}
use Rattle.std.specs.Prelude.{Option, Some, None}
use Rattle.rm_base.specs.Count.{Rose}
use Rattle.rm_base.specs.Limits as limits
use Rattle.rm_base.specs.NumberSet.{has_number}
use Rattle.rm_base.specs.Outside.{Stream}
use Rattle.rm_disk.specs.Cause.{HasCause}
use Rattle.rm_disk.specs.Told.{Told}
use Rattle.http_endpoint.specs.Link.Lines.{Net, is_over}
use Rattle.rm_script.specs.Report.Exits as exits
use Rattle.rm_host.specs.Ends.{Faults, Prints, Took, WasTooLong, faults_of, is_of_input, is_outer}
use Rattle.rm_host.specs.Words.{Asks, HasTarget, IsCommand, IsLost}
use Rattle.rm_host.specs.declared.end.End.{End}
use Rattle.rm_host.specs.declared.end.End.TheVariants.{Usage, ReadFault, TooLong, BadAddress, Memory}
use Rattle.rm_host.specs.declared.host.Host.{Host}
use Rattle.rm_host.specs.declared.words.Command.{Command}
use Rattle.rm_host.specs.declared.words.Command.TheVariants.{Consume, Import, Send}

-- what a run tells of its outside, before it or after it
pub record Outside : Type 0 where
  pub input : Stream
  pub out : Stream
  pub faults : Faults

-- by what its input, its output, its disk and its link tell
abbrev pub outside_of : {S K D L C : Type 0} → (S → Stream) → (K → Stream) → (D → Told) → (L → Net) → S → K
    → Host D L C → Outside
outside_of seen shown told net input out host =
    record { input = seen input; out = shown out; faults = faults_of told net host }

-- how many bytes a command reads at most, where it reads any
abbrev pub most_read : Command → Option ℕ
most_read (Send to) = Some limits.payload_bytes
most_read Import = Some limits.journal_bytes
most_read _ = None

-- the words ask for a command that reads so many bytes at most, and whose address can be reached, where it has one
abbrev pub IsReading : List (List ℕ) → ℕ → Type 0
IsReading words limit =
    (command : Command) × Asks words command × HasTarget command × (most_read command ≡ Some limit)

-- each status that comes
abbrev pub statuses : List ℕ
statuses =
    exits.done ∷ exits.usage ∷ exits.read_fault ∷ exits.write_fault ∷ exits.disk_fault ∷ exits.link_fault
    ∷ exits.too_long
    ∷ exits.refused
    ∷ exits.memory
    ∷ exits.not_a_journal
    ∷ []

-- Which status comes. Usage comes exactly of words that are no command, and a command whose address can't be reached is
-- refused. A fault comes only where the count of faults of what is to blame rose, that of the disk wherever it did.
-- That the input is too long comes only where it is, and then always but for a read that failed or wanted memory.
pub record IsStatusOf (words : List (List ℕ)) (old new : Outside) (status : ℕ) : Type 0 where
  pub usage : (status ≡ exits.usage) ↔ ¬ (IsCommand words)
  pub address : IsLost words → (status ≡ exits.refused) ⊎ (status ≡ exits.memory)
  pub read : status ≡ exits.read_fault → ((limit : ℕ) × IsReading words limit)
      × Rose old.input.faults new.input.faults
  pub written : status ≡ exits.write_fault → Rose old.out.faults new.out.faults
  pub disk : HasCause old.faults.disk new.faults.disk (status == exits.disk_fault)
  pub link : status ≡ exits.link_fault → Rose old.faults.link new.faults.link
  pub long : status ≡ exits.too_long → (limit : ℕ) × IsReading words limit
      × WasTooLong limit old.input new.input
  pub short : (limit : ℕ) → IsReading words limit → IfSome old.input.left (λ bytes. limit < length bytes
      → (status ≡ exits.too_long) ⊎ ((status ≡ exits.read_fault) ⊎ (status ≡ exits.memory)))
  pub one : has_number statuses status ≡ true

-- no count of faults rose: of the input, the output, the disk, the link
pub record NoneFailed (old new : Outside) : Type 0 where
  pub input : ¬ (Rose old.input.faults new.input.faults)
  pub out : ¬ (Rose old.out.faults new.out.faults)
  pub disk : ¬ (Rose old.faults.disk new.faults.disk)
  pub link : ¬ (Rose old.faults.link new.faults.link)

-- each status that comes then
abbrev pub sound_statuses : List ℕ
sound_statuses =
    exits.done ∷ exits.usage ∷ exits.too_long ∷ exits.refused ∷ exits.memory ∷ exits.not_a_journal ∷ []

-- where no count of faults rose, it is one of these
abbrev pub IsComplete : Outside → Outside → ℕ → Type 0
IsComplete old new status = NoneFailed old new → has_number sound_statuses status ≡ true

-- a link that tells that it is sound is to blame only where no connection is left
abbrev pub IsSpent : Net → Net → ℕ → Type 0
IsSpent old new status = old.sound ≡ true → status ≡ exits.link_fault → is_over new.coming ≡ true

-- ---- inside

-- what a command does to the input: only two read it; and only one prints before its end
abbrev pub Uses : {T : Type 0} → Command → Stream → Stream → Result T End → Type 0
Uses (Send to) old new result = Took limits.payload_bytes old new result
Uses Import old new result = Took limits.journal_bytes old new result
Uses (Consume seq upto) old new result = is_of_input result ≡ false
Uses command old new result = is_outer result ≡ false

-- what comes of words, before the text is printed that is answered
pub record Obeys {T : Type 0} (words : List (List ℕ)) (old new shown printed : Stream) (result : Result T End)
    : Type 0 where
  pub usage : (result ≡ Err Usage) ↔ ¬ (IsCommand words)
  pub address : IsLost words → (result ≡ Err BadAddress) ⊎ (result ≡ Err Memory)
  pub read : result ≡ Err ReadFault → ((limit : ℕ) × IsReading words limit) × Rose old.faults new.faults
  pub prints : Prints shown printed result
  pub long : result ≡ Err TooLong → (limit : ℕ) × IsReading words limit × WasTooLong limit old new
  pub short : (limit : ℕ) → IsReading words limit → IfSome old.left (λ bytes. limit < length bytes
      → (result ≡ Err TooLong) ⊎ ((result ≡ Err ReadFault) ⊎ (result ≡ Err Memory)))

-- which status comes where a text was to be printed
abbrev pub PrintsAt : Stream → Stream → ℕ → Type 0
PrintsAt old new status =
    (status ≡ exits.done) ⊎ (((status ≡ exits.write_fault) × Rose old.faults new.faults) ⊎ (status ≡ exits.memory))
