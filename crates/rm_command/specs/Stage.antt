-- What a run does to a stage, the disks of two nodes and the wire between them, and what it keeps.
use Rattle.std.specs.Prelude.{◌≡◌, ◌≢◌, ◌⊎◌, ℕ, List, take}
use Rattle.rm_disk.specs.Told.{Told}
use Rattle.rm_protocol.specs.Terms.{Terms}
use Rattle.rm_script.specs.Report.Exits as exits
use Rattle.rm_script.specs.declared.event.Event.{Event}
use Rattle.rm_replay.specs.declared.stage.Stage.{Stage}
use Rattle.rm_replay.specs.Net.{AreOfNet}
use Rattle.rm_replay.specs.Played.{IsUnmade, KeepsPlayed}
use Rattle.rm_replay.specs.Shows.{Scene, scene_of}

-- a stage, and what its disks and its wire show
pub record Staged (T : Type 0) : Type 0 where
  pub stage : T
  pub scene : Scene

-- what a stage shows, by the ghost members of its disks and of its wire
abbrev pub staged_of : {M W : Type 0} → (M → Told) → (W → List (ℕ × List ℕ)) → Stage M W → Staged (Stage M W)
staged_of told packets s = record { stage = s; scene = scene_of told packets s }

-- a script of which this holds was played, and the disks keep the word by all that its nodes ever had
abbrev pub KeepsWhole : (List Event → Type 0) → Scene → Type 0
KeepsWhole Is now =
    (script : List Event) × Is script × ((terms : Terms) → AreOfNet terms → KeepsPlayed terms script now)

-- some first lines of one were played, and the disks keep the word by all that its nodes had then; or a node was not
-- made
abbrev pub KeepsFront : (List Event → Type 0) → Scene → Scene → Type 0
KeepsFront Is first now =
    (script : List Event) × Is script
    × ((terms : Terms) → AreOfNet terms
    → IsUnmade first now ⊎ ((count : ℕ) × KeepsPlayed terms (take count script) now))

-- The headline, by the status of a run of a script of which this holds: the disks keep the word where a report was
-- made; where memory was wanting, they keep it as well, unless the stage is as it was or a node was not made; and at
-- each other status nothing changed
pub record KeepsWordAt {T : Type 0} (Is : List Event → Type 0) (status : ℕ) (old new : Staged T) : Type 0 where
  pub done : status ≡ exits.done → KeepsWhole Is new.scene
  pub unwritten : status ≡ exits.write_fault → KeepsWhole Is new.scene
  pub short : status ≡ exits.memory → (new ≡ old) ⊎ KeepsFront Is old.scene new.scene
  pub other : status ≢ exits.done → status ≢ exits.write_fault → status ≢ exits.memory → new ≡ old
