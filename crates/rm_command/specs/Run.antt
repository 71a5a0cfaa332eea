-- What the words ask for, and what a run of them is.
use Rattle.std.specs.Prelude.{◌≡◌, ◌≢◌, ◌⊎◌, ℕ, ◌^◌, ◌<◌, List, [], ◌∷◌, Option, Some, None, codes, decimal}
use Rattle.std.specs.Prelude.{◌↔◌, IfSome}
use Rattle.rm_base.specs.Limits as limits
use Rattle.rm_base.specs.Outside.{Lasts}
use Rattle.rm_script.specs.Report.Exits as exits
use Rattle.rm_script.specs.Script.{IsScript, lines_of}
use Rattle.rm_script.specs.Soak.Soak.{soak_script}
use Rattle.rm_script.specs.declared.event.Event.{Event}
use Rattle.rm_command.specs.declared.command.Command.{Command}
use Rattle.rm_command.specs.declared.command.Command.TheVariants.{Replay, Soak, Check, Policy, Normal, Intersect}
use Rattle.rm_command.specs.declared.end.End.{End}
use Rattle.rm_command.specs.declared.end.End.TheVariants.{Usage}
use Rattle.rm_command.specs.Alternatives.{EndsIntersect, EndsNormal, IsIntersectStatus, IsNormalStatus}
use Rattle.rm_command.specs.Check.{EndsCheck, IsCheckStatus}
use Rattle.rm_command.specs.Edge.{Edge, KeepsOutput, TookWithin, WasSaid}
use Rattle.rm_command.specs.Policy.{EndsPolicy, IsPolicyStatus}
use Rattle.rm_command.specs.Replay.{EndsReplay, EndsSoak, IsReplayStatus, IsSoakStatus}
use Rattle.rm_command.specs.Stage.{Staged}
use Rattle.rm_command.specs.Texts.{line_of}

-- the one word replay
abbrev pub AsksReplay : List (List ℕ) → Type 0
AsksReplay words = words ≡ codes "replay" ∷ []

-- the word soak and a number below 2^60, in decimal digits
abbrev pub AsksSoakOf : List (List ℕ) → ℕ → Type 0
AsksSoakOf words n = (n < 2 ^ 60) × (words ≡ codes "soak" ∷ decimal n ∷ [])

-- soak, of some number
abbrev pub AsksSoak : List (List ℕ) → Type 0
AsksSoak words = (n : ℕ) × AsksSoakOf words n

-- the one word check
abbrev pub AsksCheck : List (List ℕ) → Type 0
AsksCheck words = words ≡ codes "check" ∷ []

-- the one word policy
abbrev pub AsksPolicy : List (List ℕ) → Type 0
AsksPolicy words = words ≡ codes "policy" ∷ []

-- the one word normal
abbrev pub AsksNormal : List (List ℕ) → Type 0
AsksNormal words = words ≡ codes "normal" ∷ []

-- the one word intersect
abbrev pub AsksIntersect : List (List ℕ) → Type 0
AsksIntersect words = words ≡ codes "intersect" ∷ []

-- other words, or none
abbrev pub AsksNothing : List (List ℕ) → Type 0
AsksNothing words =
    ¬ (AsksReplay words) × ¬ (AsksCheck words) × ¬ (AsksPolicy words) × ¬ (AsksNormal words) × ¬ (AsksIntersect words)
    × ¬ (AsksSoak words)

-- the command that the words ask for
abbrev pub Asks : List (List ℕ) → Option Command → Type 0
Asks words None = AsksNothing words
Asks words (Some Replay) = AsksReplay words
Asks words (Some (Soak n)) = AsksSoakOf words n
Asks words (Some Check) = AsksCheck words
Asks words (Some Policy) = AsksPolicy words
Asks words (Some Normal) = AsksNormal words
Asks words (Some Intersect) = AsksIntersect words

-- the command that has this name and no further word
abbrev pub IsNamed : List ℕ → Option Command → Type 0
IsNamed word None =
    (word ≢ codes "replay") × (word ≢ codes "check") × (word ≢ codes "policy") × (word ≢ codes "normal")
    × (word ≢ codes "intersect")
IsNamed word (Some Replay) = word ≡ codes "replay"
IsNamed word (Some (Soak n)) = ⊥
IsNamed word (Some Check) = word ≡ codes "check"
IsNamed word (Some Policy) = word ≡ codes "policy"
IsNamed word (Some Normal) = word ≡ codes "normal"
IsNamed word (Some Intersect) = word ≡ codes "intersect"

-- the status is one that comes of these bytes, by the words
pub record IsStatusOf (words : List (List ℕ)) (bytes : List ℕ) (status : ℕ) : Type 0 where
  pub replay : AsksReplay words → IsReplayStatus bytes status
  pub soak : AsksSoak words → IsSoakStatus status
  pub check : AsksCheck words → IsCheckStatus bytes status
  pub policy : AsksPolicy words → IsPolicyStatus bytes status
  pub normal : AsksNormal words → IsNormalStatus bytes status
  pub intersect : AsksIntersect words → IsIntersectStatus bytes status

-- which status comes: 2 exactly of words that are no command, and one of those that come of the bytes, where the input
-- tells them
pub record HasStatus (words : List (List ℕ)) (left : Option (List ℕ)) (status : ℕ) : Type 0 where
  pub usage : (status ≡ exits.usage) ↔ AsksNothing words
  pub bytes : IfSome left (λ bytes. IsStatusOf words bytes status)

-- the script that the words ask for: what the input has, where it tells that, or what the number makes
pub record IsAskedFor (words : List (List ℕ)) (left : Option (List ℕ)) (script : List Event) : Type 0 where
  pub replay : AsksReplay words → IfSome left (λ bytes. IsScript (lines_of bytes) script)
  pub soak : (n : ℕ) → AsksSoakOf words n → IsScript (lines_of (soak_script n)) script

-- a run of replay
pub record RunsReplay {S K T : Type 0} (end : End) (e : Edge S K) (old new : Staged T) : Type 0 where
  pub ends : EndsReplay end e old new
  pub taken : TookWithin limits.script_bytes end e.input.told e.input_after.told

-- a run of soak; nothing was read
pub record RunsSoak {S K T : Type 0} (n : ℕ) (end : End) (e : Edge S K) (old new : Staged T) : Type 0 where
  pub ends : EndsSoak n end e.out e.out_after old new
  pub unread : e.input_after ≡ e.input

-- a run of check
pub record RunsCheck {S K : Type 0} (end : End) (e : Edge S K) : Type 0 where
  pub ends : EndsCheck end e
  pub taken : TookWithin limits.envelope_bytes end e.input.told e.input_after.told

-- a run of policy
pub record RunsPolicy {S K : Type 0} (end : End) (e : Edge S K) : Type 0 where
  pub ends : EndsPolicy end e
  pub taken : TookWithin limits.envelope_bytes end e.input.told e.input_after.told

-- a run of normal
pub record RunsNormal {S K : Type 0} (end : End) (e : Edge S K) : Type 0 where
  pub ends : EndsNormal end e
  pub taken : TookWithin limits.envelope_bytes end e.input.told e.input_after.told

-- a run of intersect
pub record RunsIntersect {S K : Type 0} (end : End) (e : Edge S K) : Type 0 where
  pub ends : EndsIntersect end e
  pub taken : TookWithin limits.envelope_bytes end e.input.told e.input_after.told

-- the words are refused, and nothing was read
pub record RunsNothing {S K : Type 0} (end : End) (e : Edge S K) : Type 0 where
  pub usage : end ≡ Usage
  pub unread : e.input_after ≡ e.input
  pub said : WasSaid e.wants_memory e.out.told e.out_after.told (line_of Usage)

-- what a run did, by its words and how it ended; only replay and soak change the stage
pub record Runs {S K T : Type 0} (words : List (List ℕ)) (end : End) (e : Edge S K) (old new : Staged T)
    : Type 0 where
  pub replay : AsksReplay words → RunsReplay end e old new
  pub soak : (n : ℕ) → AsksSoakOf words n → RunsSoak n end e old new
  pub check : AsksCheck words → RunsCheck end e
  pub policy : AsksPolicy words → RunsPolicy end e
  pub normal : AsksNormal words → RunsNormal end e
  pub intersect : AsksIntersect words → RunsIntersect end e
  pub nothing : AsksNothing words → RunsNothing end e
  pub stage : ¬ (AsksReplay words ⊎ AsksSoak words) → new ≡ old
  pub input : Lasts e.input.told e.input_after.told
  pub out : KeepsOutput e.wants_memory end e.out e.out_after
