-- What a run of the relay's program is, by how it ended.
use Rattle.std.specs.Prelude.{◌≡◌, ◌⊎◌, ℕ, List}
use Rattle.rm_base.specs.Limits as limits
use Rattle.rm_protocol.specs.Terms.{Terms}
use Rattle.rm_script.specs.Report.Exits as exits
use Rattle.rm_script.specs.Script.{lines_of}
use Rattle.rm_replay.specs.Net.{AreOfNet}
use Rattle.rm_command.specs.Edge.{Edge}
use Rattle.rm_command.specs.Filter.{EndsFilter, IsFilterStatus}
use Rattle.rm_command.specs.declared.end.End.{End}
use Rattle.rm_command.specs.declared.end.End.TheVariants.{BadLine}
use Rattle.rm_relay.specs.Headline.{KeepsCut, KeepsPromiseOf}
use Rattle.rm_relay.specs.Played.{IsUnmade, Ran, RanShort}
use Rattle.rm_relay.specs.Script.{IsFirstBad, IsScript}
use Rattle.rm_relay.specs.Shows.{Scene}
use Rattle.rm_relay.specs.declared.event.Event.{Event}

-- the bytes are a script, all its lines were played, and this is the report. The promise holds by all that the nodes of
-- that run ever had
pub record IsReportOf (first now : Scene) (bytes text : List ℕ) : Type 0 where
  pub events : List Event
  pub script : IsScript (lines_of bytes) events
  pub ran : (terms : Terms) → AreOfNet terms → Ran terms events first now text
  pub keeps : (terms : Terms) (net : AreOfNet terms) → KeepsPromiseOf (ran terms net).story.world now

-- the bytes are a script of which some first lines were played, and of the next one perhaps all but some last of its
-- packets; or a node was not made, and no line was played. The promise holds by all that the nodes of that run ever had
pub record IsCutShortOf (first now : Scene) (bytes : List ℕ) : Type 0 where
  pub events : List Event
  pub script : IsScript (lines_of bytes) events
  pub ran : (terms : Terms) → AreOfNet terms → IsUnmade first now ⊎ RanShort terms events first now
  pub keeps : (terms : Terms) (net : AreOfNet terms) → KeepsCut terms events first now (ran terms net)

-- bytes are refused for the first line that is not in the grammar, and then the stage is as it was
abbrev pub RefusesScript : {T : Type 0} → T → T → List ℕ → End → Type 0
RefusesScript old new bytes (BadLine line) = IsFirstBad (lines_of bytes) line × (new ≡ old)
RefusesScript old new bytes _ = ⊥

-- what the program did, by how it ended
abbrev pub EndsRelay : {S K T : Type 0} → End → Edge S K → T → T → Scene → Scene → Type 0
EndsRelay end e old new first now =
    EndsFilter limits.script_bytes (new ≡ old) (IsReportOf first now) (IsCutShortOf first now)
    (RefusesScript old new) end e

-- the bytes are a script
abbrev pub IsAScript : List ℕ → Type 0
IsAScript bytes = (events : List Event) × IsScript (lines_of bytes) events

-- of a script comes 0, of other bytes 3, of more bytes 8, unless the input, the output or the machine fails
abbrev pub IsRelayStatus : List ℕ → ℕ → Type 0
IsRelayStatus bytes status = IsFilterStatus limits.script_bytes exits.bad_line (IsAScript bytes) bytes status
