-- What a run of `wsrm replay` and of `wsrm soak` is, by how it ended.
use Rattle.std.specs.Prelude.{◌≡◌, ◌⊎◌, ℕ, List, take}
use Rattle.rm_base.specs.Count.{Rose}
use Rattle.rm_base.specs.Limits as limits
use Rattle.rm_base.specs.Outside.{Stream}
use Rattle.rm_protocol.specs.Delivered.{TakesNew}
use Rattle.rm_protocol.specs.Terms.{Terms}
use Rattle.rm_script.specs.Report.Exits as exits
use Rattle.rm_script.specs.declared.event.Event.{Event}
use Rattle.rm_script.specs.Script.{lines_of, IsScript, IsFirstBad}
use Rattle.rm_replay.specs.Net.{AreOfNet}
use Rattle.rm_replay.specs.Played.{Played, Ran, RanCut, Story}
use Rattle.rm_replay.specs.Shows.{Scene}
use Rattle.rm_script.specs.Soak.Soak.{soak_script}
use Rattle.rm_script.specs.Soak.Summary.{summary_of}
use Rattle.rm_command.specs.declared.end.End.{End}
use Rattle.rm_command.specs.declared.end.End.TheVariants.{Done, Usage, BadLine, ReadFault, WriteFault, TooLong}
use Rattle.rm_command.specs.declared.end.End.TheVariants.{Refused, Memory}
use Rattle.rm_command.specs.Edge.{Edge, Side, WasBegun, WasWritten}
use Rattle.rm_command.specs.Filter.{EndsFilter, IsFilterStatus}
use Rattle.rm_command.specs.Stage.{Staged}

-- the bytes are a script, all its lines were played by the protocol, this is the report, the disks keep the word by all
-- that the nodes of that run ever had, and what each source accepted is what the report says was sent; and at each
-- moment of the script a delivered message that is new is recorded by its line, and released where it closes the gap or
-- the sequence is loose
pub record IsReportOf (first now : Scene) (bytes text : List ℕ) : Type 0 where
  pub events : List Event
  pub script : IsScript (lines_of bytes) events
  pub ran : (terms : Terms) → AreOfNet terms → Ran terms events first now text
  pub takes : (terms : Terms) (count : ℕ) (s : Story) → AreOfNet terms → Played terms (take count events) s
      → TakesNew terms s.world

-- the bytes are a script of which some first lines were played, and of the next one perhaps all but some last of its
-- packets, and the disks keep the word by all that the nodes of that run ever had; or a node was not made, and no line
-- was played
pub record IsCutShortOf (first now : Scene) (bytes : List ℕ) : Type 0 where
  pub events : List Event
  pub script : IsScript (lines_of bytes) events
  pub ran : (terms : Terms) → AreOfNet terms → RanCut terms events first now

-- why replay refuses bytes: the first line that is not in the grammar; and then the stage is as it was
abbrev pub RefusesScript : {T : Type 0} → T → T → List ℕ → End → Type 0
RefusesScript old new bytes (BadLine line) = IsFirstBad (lines_of bytes) line × (new ≡ old)
RefusesScript old new bytes _ = ⊥

-- what replay did, by how it ended
abbrev pub EndsReplay : {S K T : Type 0} → End → Edge S K → Staged T → Staged T → Type 0
EndsReplay end e old new =
    EndsFilter limits.script_bytes (new ≡ old) (IsReportOf old.scene new.scene) (IsCutShortOf old.scene new.scene)
    (RefusesScript old new) end e

-- the bytes are a script
abbrev pub IsAScript : List ℕ → Type 0
IsAScript bytes = (events : List Event) × IsScript (lines_of bytes) events

-- of a script comes 0, of other bytes 3, of more bytes 8, unless the input, the output or the machine fails
abbrev pub IsReplayStatus : List ℕ → ℕ → Type 0
IsReplayStatus bytes status = IsFilterStatus limits.script_bytes exits.bad_line (IsAScript bytes) bytes status

-- the script of a number was played, and this much of the summary of its report was written
pub record PlaysSoak {K T : Type 0} (n : ℕ) (Writes : Stream → Stream → List ℕ → Type 0) (out out_after : Side K)
    (old new : Staged T) : Type 0 where
  pub report : List ℕ
  pub played : IsReportOf old.scene new.scene (soak_script n) report
  pub written : Writes out.told out_after.told (summary_of n report)

-- what soak did, by how it ended; where memory ran out before the script was played whole, nothing was written
abbrev pub EndsSoak : {K T : Type 0} → ℕ → End → Side K → Side K → Staged T → Staged T → Type 0
EndsSoak n Done out out_after old new = PlaysSoak n WasWritten out out_after old new
EndsSoak n Usage out out_after old new = ⊥
EndsSoak n (BadLine line) out out_after old new = ⊥
EndsSoak n ReadFault out out_after old new = ⊥
EndsSoak n WriteFault out out_after old new =
    Rose out.told.faults out_after.told.faults × PlaysSoak n WasBegun out out_after old new
EndsSoak n TooLong out out_after old new = ⊥
EndsSoak n (Refused fault) out out_after old new = ⊥
EndsSoak n Memory out out_after old new =
    PlaysSoak n WasBegun out out_after old new
    ⊎ ((out_after ≡ out) × ((new ≡ old) ⊎ IsCutShortOf old.scene new.scene (soak_script n)))

-- of soak comes 0, unless the output or the machine fails
abbrev pub IsSoakStatus : ℕ → Type 0
IsSoakStatus status = (status ≡ exits.done) ⊎ ((status ≡ exits.write_fault) ⊎ (status ≡ exits.memory))
