-- What a run of a node's words does, and what it prints of that.
use Rattle.std.specs.Prelude.{◌≡◌, ℕ, Bool, true, List, Option, Result, Ok, Err, IsTrue}
use Rattle.std.specs.Io.KnownBytes.{Appends}
use Rattle.rm_base.specs.Count.{Rose}
use Rattle.rm_base.specs.Outside.{AppendsFront, Stream}
use Rattle.rm_base.specs.declared.message.Behaviour.TheVariants.{FollowingFirstGap}
use Rattle.rm_base.specs.declared.outside.SinkError.{SinkError}
use Rattle.rm_base.specs.declared.outside.SinkError.TheVariants as sink
use Rattle.rm_disk.specs.Told.{Told}
use Rattle.http_endpoint.specs.Link.Lines.{Net}
use Rattle.rm_node.specs.Asked.{Asked, Close as Closes, End as Finishes, Tick}
use Rattle.rm_script.specs.Report.Exits as exits
use Rattle.rm_host.specs.Compaction.{Compaction}
use Rattle.rm_host.specs.Consumption.{Consumption}
use Rattle.rm_host.specs.Ends.{status_of}
use Rattle.rm_host.specs.HostSteps.{Commands, Pushes}
use Rattle.rm_host.specs.Importation.{Importation, IsSpared}
use Rattle.rm_host.specs.Makings.{Making, TellsInbox}
use Rattle.rm_host.specs.SendSteps.{SendsRead}
use Rattle.rm_host.specs.ServeSteps.{Serves}
use Rattle.rm_host.specs.Texts.{line_of}
use Rattle.rm_host.specs.Words.{Asks, HasTarget, Reads, behaviour_of}
use Rattle.rm_host.specs.declared.end.End.{End}
use Rattle.rm_host.specs.declared.host.Host.{Host}
use Rattle.rm_host.specs.declared.words.Command.{Command}
use Rattle.rm_host.specs.declared.words.Command.TheVariants.{Make, Serve, Send, Push, Close, Finish, Inbox, Compact}
use Rattle.rm_host.specs.declared.words.Command.TheVariants.{Consume, Import}

-- what a run works on, as each tells it: its input, its output, its disk, its link, and the moment that its clock shows
pub record World : Type 0 where
  pub input : Stream
  pub out : Stream
  pub disk : Told
  pub link : Net
  pub shown : Option ℕ

-- by what each of them tells
abbrev pub world_of : {S K D L C : Type 0} → (S → Stream) → (K → Stream) → (D → Told) → (L → Net) → (C → Option ℕ) → S
    → K → Host D L C → World
world_of seen shown told net next input out host = record {
  input = seen input;
  out = shown out;
  disk = told host.disk;
  link = net host.link;
  shown = next host.clock;
}

-- one call of the node that was found, and what it hands out is posted
abbrev pub Calls : Bool → World → World → (ℕ → Asked) → Result (List ℕ) End → Type 0
Calls tells old new asked result =
    Commands tells old.disk new.disk old.link new.link FollowingFirstGap
    (λ x z. Pushes old.shown asked old.link new.link) result

-- what each command does to the disk and to what the link brings, how it ends, and what it prints before
abbrev pub Does : Bool → Command → World → World → Result (List ℕ) End → Type 0
Does tells (Make number address) old new result =
    Making tells old.disk new.disk old.link new.link number address result
Does tells (Serve media service) old new result =
    Commands tells old.disk new.disk old.link new.link (behaviour_of service.grant)
    (λ x z. Serves media old.shown service.port service.count old.link new.link) result
Does tells (Send to) old new result =
    SendsRead tells old.disk new.disk old.link new.link to old.shown old.input.left result
Does tells Push old new result = Calls tells old new (λ moment. Tick moment) result
Does tells (Close seq) old new result = Calls tells old new (λ moment. Closes seq) result
Does tells (Finish seq) old new result = Calls tells old new (λ moment. Finishes seq) result
Does tells (Inbox seq) old new result =
    Commands tells old.disk new.disk old.link new.link FollowingFirstGap
    (λ x z. TellsInbox seq x z old.link new.link) result
Does tells Compact old new result = Compaction tells old.disk new.disk result × (new.link ≡ old.link)
Does tells (Consume seq upto) old new result =
    Consumption tells old.disk new.disk old.out new.out seq upto result × (new.link ≡ old.link)
Does tells Import old new result =
    Importation tells old.disk new.disk old.input result × (IsTrue tells → IsSpared old.disk new.disk)
    × (new.link ≡ old.link)

-- what a command leaves alone: one alone prints before its end, and two read the input
abbrev pub Spares : Command → World → World → Type 0
Spares (Consume seq upto) old new = new.input ≡ old.input
Spares (Send to) old new = new.out ≡ old.out
Spares Import old new = new.out ≡ old.out
Spares command old new = (new.input ≡ old.input) × (new.out ≡ old.out)

-- What words do: they ask for a command whose address can be reached, where it has one, and it was done. Or they are no
-- command, or its address can't be reached, or memory was wanting for it, and nothing was done.
pub data DoesAsked (tells : Bool) (words : List (List ℕ)) (old new : World) : Result (List ℕ) End → Type 0 where
  commanded : (command : Command) (result : Result (List ℕ) End) → Asks words command → HasTarget command
      → Does tells command old new result → Spares command old new
      → DoesAsked tells words old new result
  unread : (e : End) → Reads words (Err e) → new ≡ old → DoesAsked tells words old new (Err e)

-- a text was written; or some first bytes of it, where a call failed, or where memory was wanting that its calls take
abbrev pub Writes : (wants : Bool) → Stream → Stream → List ℕ → Result (Unit {0}) SinkError → Type 0
Writes wants old new text (Ok done) = Appends old.held new.held text
Writes wants old new text (Err sink.Failed) = Rose old.faults new.faults × AppendsFront old.held new.held text
Writes wants old new text (Err sink.Memory) = (wants ≡ true) × AppendsFront old.held new.held text

-- the text of how a command ended
abbrev pub ended_text : Result (List ℕ) End → List ℕ
ended_text (Ok text) = text
ended_text (Err e) = line_of e

-- the status of a text that was to be written
abbrev pub written_status : Result (Unit {0}) SinkError → ℕ
written_status (Ok done) = exits.done
written_status (Err sink.Failed) = exits.write_fault
written_status (Err sink.Memory) = exits.memory

-- the status of how a command ended, whose text was to be written: that of an end other than the text stays
abbrev pub ended_status : Result (List ℕ) End → Result (Unit {0}) SinkError → ℕ
ended_status (Ok text) written = written_status written
ended_status (Err e) written = status_of e

-- what is printed of how a command ended, and the status
abbrev pub Tells : (wants : Bool) → Stream → Stream → Result (List ℕ) End → ℕ → Type 0
Tells wants old new result status =
    (written : Result (Unit {0}) SinkError) × Writes wants old new (ended_text result) written
    × (status ≡ ended_status result written)

-- What a run of words does, and then prints of how that ended: the output is all that this changes.
pub record IsObeyed (tells wants : Bool) (words : List (List ℕ)) (old new : World) (status : ℕ) : Type 0 where
  pub printed : Stream
  pub result : Result (List ℕ) End
  pub does : DoesAsked tells words old (record new { out = printed }) result
  pub said : Tells wants printed new.out result status
