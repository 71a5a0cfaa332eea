-- The promise of a relay, by three disks.
use Rattle.std.proofs.Common.{inl, inr}
use Rattle.std.specs.Prelude.{◌≡◌, ◌≢◌, ◌⊎◌, ⊤, ℕ, List, slice_get, Option, Some}
use Rattle.rm_disk.specs.Image.{MayLeave}
use Rattle.rm_protocol.specs.Node.{records_in}
use Rattle.rm_protocol.specs.Terms.{Terms}
use Rattle.rm_script.specs.Report.Exits as exits
use Rattle.rm_replay.specs.Headline.{Image}
use Rattle.rm_relay.specs.Meaning.{Means, stepped}
use Rattle.rm_relay.specs.Played.{IsUnmade, RanShort}
use Rattle.rm_relay.specs.Shows.{Scene}
use Rattle.rm_relay.specs.declared.event.Event.{Event as Said}
use Rattle.rm_relay.specs.Word.Word.{KeepsRelay}
use Rattle.rm_relay.specs.Word.World.{Event, World}

-- three images keep the promise, by all that the nodes of this world ever had
pub record KeepRelay (w : World) (one two three : List ℕ) : Type 0 where
  pub first : Image w.one one
  pub second : Image w.two two
  pub third : Image w.three three
  pub keeps : KeepsRelay first.whole (records_in second.batches) second.whole (records_in third.batches) third.whole

-- so it is at each three images of the disks
abbrev pub KeepsPromiseOf : World → Scene → Type 0
KeepsPromiseOf w scene =
    (one two three : List ℕ) → MayLeave scene.drives.one.disk.past one → MayLeave scene.drives.two.disk.past two
    → MayLeave scene.drives.three.disk.past three → KeepRelay w one two three

-- by all that the nodes ever had in this world, or ever had once one more line was played
abbrev pub KeepsPromiseIn : Terms → World → Said → Scene → Type 0
KeepsPromiseIn terms w line scene =
    KeepsPromiseOf w scene
    ⊎ ((event : Option Event) × Means line event × KeepsPromiseOf (stepped terms w event) scene)

-- where memory was wanting: by all that the nodes ever had after the lines that were played, or after the next one
abbrev pub KeepsShort : (terms : Terms) (script : List Said) (first now : Scene) → RanShort terms script first now
    → Type 0
KeepsShort terms script first now short =
    KeepsPromiseOf short.story.world now
    ⊎ ((line : Said) × (slice_get script short.count ≡ Some line)
    × KeepsPromiseIn terms short.story.world line now)

-- and nothing is said where a node was not made
abbrev pub KeepsCut : (terms : Terms) (script : List Said) (first now : Scene)
    → IsUnmade first now ⊎ RanShort terms script first now → Type 0
KeepsCut terms script first now (inl unmade) = ⊤
KeepsCut terms script first now (inr short) = KeepsShort terms script first now short

-- by all that the nodes of some world ever had
abbrev pub KeepsPromise : Scene → Type 0
KeepsPromise scene = (w : World) × KeepsPromiseOf w scene

-- The promise, by the status of a run: it holds where a report was made; where memory was wanting, it holds as well,
-- unless the stage is as it was or a node was not made; and at each other status nothing changed.
pub record KeepsPromiseAt {T : Type 0} (status : ℕ) (old new : T) (first now : Scene) : Type 0 where
  pub done : status ≡ exits.done → KeepsPromise now
  pub unwritten : status ≡ exits.write_fault → KeepsPromise now
  pub short : status ≡ exits.memory → (new ≡ old) ⊎ (IsUnmade first now ⊎ KeepsPromise now)
  pub other : status ≢ exits.done → status ≢ exits.write_fault → status ≢ exits.memory → new ≡ old
