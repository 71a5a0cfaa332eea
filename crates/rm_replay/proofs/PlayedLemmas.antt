-- A script that was played is a run of the protocol.
use Rattle.std.proofs.Common.{◌≡◌, ◌∙◌, List, ◌∷◌, ◌++◌, Option, Some, None, refl, sym, ap, subst, inl, inr, []}
use Rattle.std.specs.Prelude.{◌⊎◌, ◌+◌, length}
use Rattle.rm_protocol.specs.Node.{Node}
use Rattle.rm_protocol.specs.Terms.{Terms}
use Rattle.rm_protocol.specs.Crashes.{KeepsAll}
use Rattle.rm_protocol.specs.World.{AreMade, Event, World, happens, run, start}
use Rattle.rm_protocol.specs.Terms.{AreTerms}
use Rattle.rm_script.specs.declared.event.Event.{Event as Said}
use Rattle.record_batch.specs.Sequences.Words.{Text}
use Rattle.node_laws.specs.OwnTerms.{OwnAreTerms}
use Rattle.rm_replay.specs.Actor.Stands.{Leaves}
use Rattle.rm_replay.specs.Headline.{KeepsPairOf}
use Rattle.rm_replay.specs.Meaning.{stepped}
use Rattle.rm_replay.specs.Net.{AreOfNet}
use Rattle.rm_replay.specs.Played.{KeepsPlayed, Played, Story, none, more, start_world, told_on}
use Rattle.rm_replay.specs.Shows.{Holds, IsLeftOfLine, Scene, address_one, address_two}
use Rattle.rm_replay.proofs.HeadlineLemmas.{pair_of}
use Rattle.rm_replay.specs.NetLemmas.{are_made, are_terms}

-- the run of two scripts, one behind the other
abbrev pub RunGoesOn : Type 0
RunGoesOn =
    (terms : Terms) (first second : List Event) (w : World)
    → run terms (first ++ second) w ≡ run terms second (run terms first w)

-- each run keeps the headline
abbrev pub RunsKeep : Type 0
RunsKeep =
    (terms : Terms) (one two : Text) → AreTerms terms → AreMade terms one two → (events : List Event)
    → KeepsAll (run terms events (start one two))

-- the world is that of a run
abbrev pub IsOfRun : Terms → World → Type 0
IsOfRun terms w = (events : List Event) × (w ≡ run terms events start_world)

run_step : RunGoesOn → (terms : Terms) (w : World) (event : Option Event) → IsOfRun terms w
    → IsOfRun terms (stepped terms w event)
run_step goes terms w None of = of
run_step goes terms w (Some event) of = (
  of.0 ++ event ∷ [],
  ap (λ (v : World). happens terms v event) of.1 ∙ sym (goes terms of.0 (event ∷ []) start_world),
)

pub run_of : RunGoesOn → (terms : Terms) (script : List Said) (s : Story) → Played terms script s
    → IsOfRun terms s.world
run_of goes terms _ _ none = ([], refl)
run_of goes terms _ _ (more lines s line event played means) =
    run_step goes terms s.world event (run_of goes terms lines s played)

-- ---- the headline

pub keeps_run : RunsKeep → OwnAreTerms → (terms : Terms) (w : World) → AreOfNet terms → (of : IsOfRun terms w)
    → KeepsAll w
keeps_run keep own terms w net of =
    subst KeepsAll (sym of.1)
    (keep terms address_one address_two (are_terms own terms net) (are_made terms net) of.0)

-- what a played script made keeps the headline
abbrev pub headline_whole : RunGoesOn → RunsKeep → OwnAreTerms → (terms : Terms) (script : List Said) (s : Story)
    → AreOfNet terms → Played terms script s → (scene : Scene) → Holds s.world scene → KeepsPairOf s.world scene
headline_whole goes keep own terms script s net played scene holds =
    pair_of s.world scene (keeps_run keep own terms s.world net (run_of goes terms script s played)) holds.one holds.two

-- and what stands where memory was wanting in a further line
pub headline_short : RunGoesOn → RunsKeep → OwnAreTerms → (terms : Terms) (script : List Said) (s : Story)
    → AreOfNet terms → Played terms script s → (line : Said) (scene : Scene) → IsLeftOfLine terms s.world line scene
    → KeepsPairOf s.world scene ⊎ KeepsPlayed terms (script ++ line ∷ []) scene
headline_short goes keep own terms script s net played line scene (inl holds) =
    inl (headline_whole goes keep own terms script s net played scene holds)
headline_short goes keep own terms script s net played line scene (inr (event, means, v, cut, holds)) =
    let after = happens terms s.world event in
    let of = run_step goes terms s.world (Some event) (run_of goes terms script s played) in
    inr (
      told_on terms (length script + 1) s line (Some event),
      more script s line (Some event) played means,
      pair_of after scene (keeps_run keep own terms after net of)
          (subst (λ (x : Node). Leaves x scene.drives.one.disk.past) cut.one holds.one)
          (subst (λ (x : Node). Leaves x scene.drives.two.disk.past) cut.two holds.two),
    )
