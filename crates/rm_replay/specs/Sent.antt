-- What a report says was sent, from its lines and those of its script.
use Rattle.std.specs.Prelude.{◌≡◌, ℕ, ◌+◌, ◌==◌, ◌&&◌, Bool, true, false, if◌then◌else◌, List, [], ◌∷◌, ◌++◌, length}
use Rattle.rm_disk.specs.Image.{MayLeave}
use Rattle.rm_protocol.specs.Sent.{same_side}
use Rattle.rm_protocol.specs.Word.{history}
use Rattle.rm_protocol.specs.World.{Side, One, Two, World}
use Rattle.rm_script.specs.declared.report.line.Line.{Line}
use Rattle.rm_script.specs.declared.report.line.Outcome.{Outcome}
use Rattle.rm_script.specs.declared.report.line.Outcome.TheVariants as told
use Rattle.rm_script.specs.declared.event.Event.{Event as Said}
use Rattle.rm_script.specs.declared.event.Event.TheVariants as said
use Rattle.record_batch.specs.Sequences.Words.{Text}
use Rattle.rm_replay.specs.Headline.{KeepPair}
use Rattle.rm_replay.specs.Meaning.{side_of}
use Rattle.rm_replay.specs.Shows.{Scene}

-- a line of a script, and the report's line of it
pub record Pair : Type 0 where
  pub line : Said
  pub report : Line

-- each line that says something has the next line of the report
abbrev pub paired : List Said → List Line → List Pair
paired (said.Nothing ∷ script) report = paired script report
paired (line ∷ script) (l ∷ report) = record { line = line; report = l } ∷ paired script report
paired _ _ = []

-- how many entries the report's line has for the node
abbrev pub entries_at : Side → Line → ℕ
entries_at One l = l.entries_one
entries_at Two l = l.entries_two

-- the line is a crash of the node
abbrev pub is_crash : Side → Said → Bool
is_crash at (said.Crash node choice) = same_side (side_of node) at
is_crash at _ = false

-- how many entries the node has after its next crash; where none follows, as many as the image
abbrev pub next_entries : Side → ℕ → List Pair → ℕ
next_entries at image [] = image
next_entries at image (pair ∷ more) =
    if is_crash at pair.line then entries_at at pair.report else next_entries at image more

-- a send counts where it came out as `ok`, or as `disk` where there is one entry more after the next crash
abbrev pub counts : Outcome → ℕ → ℕ → Bool
counts told.Done now next = true
counts told.Disk now next = next == now + 1
counts _ now next = false

-- the text of a send of the node on the sequence, where it counts
abbrev pub sent_by : Side → ℕ → Said → Bool → List Text
sent_by at seq (said.Send node s text) counted =
    if same_side (side_of node) at && (s == seq) && counted then text ∷ [] else []
sent_by at seq _ counted = []

-- the texts that the node was given to send on the sequence, for an image with so many entries
abbrev pub sent_in : Side → ℕ → ℕ → List Pair → List Text
sent_in at seq image [] = []
sent_in at seq image (pair ∷ more) =
    sent_by at seq pair.line (counts pair.report.outcome (entries_at at pair.report) (next_entries at image more))
    ++ sent_in at seq image more

-- two images keep the word by all that the nodes of this world ever had, and all that each source of theirs ever
-- accepted is what the report says was sent
pub record KeepPairOfSent (w : World) (script : List Said) (report : List Line) (image_one image_two : List ℕ) : Type 0
  where
    pub pair : KeepPair w image_one image_two
    pub one : (seq : ℕ) → history pair.one.whole seq ≡ sent_in One seq (length pair.one.batches) (paired script report)
    pub two : (seq : ℕ) → history pair.two.whole seq ≡ sent_in Two seq (length pair.two.batches) (paired script report)

-- so it is for each pair of images of both disks
abbrev pub AcceptedIsSent : World → List Said → List Line → Scene → Type 0
AcceptedIsSent w script report now =
    (image_one image_two : List ℕ) → MayLeave now.drives.one.disk.past image_one
    → MayLeave now.drives.two.disk.past image_two → KeepPairOfSent w script report image_one image_two
