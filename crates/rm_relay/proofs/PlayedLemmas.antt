-- A relay's script that was played is a run of the protocol, and keeps the promise.
use Rattle.std.proofs.Common.{◌≡◌, ◌∙◌, ℕ, ◌+◌, ◌&&◌, ◌<◌, nat_le, true, arith, List, ◌∷◌, ◌++◌, Option, Some, None}
use Rattle.std.proofs.Common.{refl, sym, ap, subst, inl, inr, []}
use Rattle.std.specs.Prelude.{◌^◌}
use Rattle.std.specs.Prelude.{◌⊎◌}
use Rattle.record_batch.specs.Batch.{made}
use Rattle.record_batch.specs.Fact.{Made}
use Rattle.record_batch.specs.Format.{number32, number64, text}
use Rattle.rm_protocol.specs.Node.{Node}
use Rattle.rm_protocol.specs.Terms.{AreTerms, Terms}
use Rattle.rm_replay.specs.Actor.Stands.{Leaves}
use Rattle.node_laws.specs.OwnTerms.{OwnAreTerms}
use Rattle.rm_replay.specs.Net.{AreOfNet}
use Rattle.rm_replay.specs.NetLemmas.{are_terms}
use Rattle.rm_relay.specs.Word.Word.{AreThree, EachRelayKeepsItsWord, KeepsAll}
use Rattle.rm_relay.specs.Word.World.{Event, World, address_of, happens, run, start}
use Rattle.rm_relay.specs.declared.word.station.Station.TheVariants.{One, Two, Three}
use Rattle.rm_relay.specs.Headline.{KeepsPromiseIn, KeepsPromiseOf}
use Rattle.rm_relay.specs.Meaning.{stepped}
use Rattle.rm_relay.specs.Played.{Played, Story, none, more}
use Rattle.rm_relay.specs.Shows.{Holds, IsLeftOfLine, Scene}
use Rattle.rm_relay.specs.declared.event.Event.{Event as Said}
use Rattle.rm_relay.proofs.HeadlineLemmas.{promise_of}

-- ---- a run

run_append : (terms : Terms) (first second : List Event) (w : World)
    → run terms (first ++ second) w ≡ run terms second (run terms first w)
run_append terms [] second w = refl
run_append terms (event ∷ first) second w = run_append terms first second (happens terms w event)

-- the world is that of a run
abbrev pub IsOfRun : Terms → World → Type 0
IsOfRun terms w = (events : List Event) × (w ≡ run terms events start)

run_step : (terms : Terms) (w : World) (event : Option Event) → IsOfRun terms w → IsOfRun terms (stepped terms w event)
run_step terms w None of = of
run_step terms w (Some event) of = (
  of.0 ++ event ∷ [],
  ap (λ (v : World). happens terms v event) of.1 ∙ sym (run_append terms of.0 (event ∷ []) start),
)

run_of : (terms : Terms) (script : List Said) (s : Story) → Played terms script s → IsOfRun terms s.world
run_of terms _ _ none = ([], refl)
run_of terms _ _ (more lines s line event played means) = run_step terms s.world event (run_of terms lines s played)

-- ---- the three nodes were made

are_three : (terms : Terms) → AreOfNet terms → AreThree terms
unfolding made number32 number64 text
are_three terms net = record {
  one = record {
    number_ = let small : 1 < 2 ^ 60 = omega arith in small;
    fit = refl;
    room = subst (λ (n : ℕ). (nat_le n 4194304 && nat_le (25 + 6 + n) 268435456) ≡ true)
        (sym (net.own.size (Made 1 (address_of One) ∷ []))) refl;
  };
  two = record {
    number_ = let small : 2 < 2 ^ 60 = omega arith in small;
    fit = refl;
    room = subst (λ (n : ℕ). (nat_le n 4194304 && nat_le (25 + 6 + n) 268435456) ≡ true)
        (sym (net.own.size (Made 2 (address_of Two) ∷ []))) refl;
  };
  three = record {
    number_ = let small : 3 < 2 ^ 60 = omega arith in small;
    fit = refl;
    room = subst (λ (n : ℕ). (nat_le n 4194304 && nat_le (25 + 6 + n) 268435456) ≡ true)
        (sym (net.own.size (Made 3 (address_of Three) ∷ []))) refl;
  };
}

-- ---- the promise

keeps_run : EachRelayKeepsItsWord → OwnAreTerms → (terms : Terms) (w : World) → AreOfNet terms → IsOfRun terms w
    → KeepsAll w
keeps_run law own terms w net of =
    subst KeepsAll (sym of.1) (law terms (are_terms own terms net) (are_three terms net) of.0)

-- what a played script made keeps it
pub promise_whole : EachRelayKeepsItsWord → OwnAreTerms → (terms : Terms) (script : List Said) (s : Story)
    → AreOfNet terms → Played terms script s → (scene : Scene) → Holds s.world scene → KeepsPromiseOf s.world scene
promise_whole law own terms script s net played scene holds =
    promise_of s.world scene (keeps_run law own terms s.world net (run_of terms script s played)) holds.one holds.two
    holds.three

-- and what stands where memory was wanting in a further line
pub promise_short : EachRelayKeepsItsWord → OwnAreTerms → (terms : Terms) (script : List Said) (s : Story)
    → AreOfNet terms → Played terms script s → (line : Said) (scene : Scene) → IsLeftOfLine terms s.world line scene
    → KeepsPromiseIn terms s.world line scene
promise_short law own terms script s net played line scene (inl holds) =
    inl (promise_whole law own terms script s net played scene holds)
promise_short law own terms script s net played line scene (inr (event, means, v, cut, holds)) =
    let after = happens terms s.world event in
    let of = run_step terms s.world (Some event) (run_of terms script s played) in
    inr (
      Some event,
      means,
      promise_of after scene (keeps_run law own terms after net of)
          (subst (λ (x : Node). Leaves x scene.drives.one.disk.past) cut.one holds.one)
          (subst (λ (x : Node). Leaves x scene.drives.two.disk.past) cut.two holds.two)
          (subst (λ (x : Node). Leaves x scene.drives.three.disk.past) cut.three holds.three),
    )
