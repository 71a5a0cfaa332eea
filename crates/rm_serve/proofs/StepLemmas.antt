-- Calls of a node, one after the other.
use Rattle.std.proofs.Common.{◌≡◌, ◌∙◌, Bool, true, false, List, [], ◌∷◌, ◌++◌, refl, ap, subst}
use Rattle.std.specs.Prelude.{MatchBool}
use Rattle.node_store.specs.Stored.{Stored, grown, with_batch}
use Rattle.record_batch.specs.Fact.{Fact}
use Rattle.rm_protocol.specs.Calls.{Answer}
use Rattle.rm_protocol.specs.Terms.{Terms}
use Rattle.node_laws.specs.OwnTerms.{AreOwn}
use Rattle.rm_node.specs.Called.{Called, Does, Sleeps, answer_of}
use Rattle.rm_node.specs.Ends.{Ended, Handed, Refused, Wanted, Broke, WasDown, is_handed}
use Rattle.rm_node.specs.Keeping.{Keeping, Keeps}
use Rattle.rm_node.specs.Noded.{Noded, Runs}
use Rattle.rm_serve.specs.Steps.{IsReady, IsUp, LeavesUp, Makes, MakesAll, Place, Stays, Step, done, is_received}
use Rattle.rm_serve.specs.Steps.{makes, rests}

-- two rows of calls, one behind the other
pub then : (tells : Bool) (terms : Terms) (x y z : Place) (s t : List Step) → Makes tells terms x y s
    → Makes tells terms y z t → Makes tells terms x z (s ++ t)
then tells terms _ _ z _ t (done x) after = after
then tells terms _ _ z _ t (rests x y w steps stays first) after =
    rests x y z (steps ++ t) stays (then tells terms y w z steps t first after)
then tells terms _ _ z _ t (makes x y w step steps runs does first) after =
    makes x y z step (steps ++ t) runs does (then tells terms y w z steps t first after)

-- so it is whatever the terms
pub then-all : (tells : Bool) (x y z : Place) (s t : List Step) → MakesAll tells x y s → MakesAll tells y z t
    → MakesAll tells x z (s ++ t)
then-all tells x y z s t first after terms own = then tells terms x y z s t (first terms own) (after terms own)

-- no call
pub no-step : (tells : Bool) (x z : Place) → Stays tells x z → MakesAll tells x z []
no-step tells x z stays terms own = rests x z z [] stays (done z)

-- one call
pub one-step : (tells : Bool) (x z : Place) (step : Step) → Runs x.node
    → ((terms : Terms) → AreOwn terms → (kept : Keeping) → Keeps x.node.kept kept
    → Does tells (is_received step.asked) x.told z.told x.node z.node
    (answer_of terms x.node step.moment kept step.asked) step.ended)
    → MakesAll tells x z (step ∷ [])
one-step tells x z step runs does terms own = makes x z z step [] runs (does terms own) (done z)

ready-called : (tells connected : Bool) (x z : Place) (answer : Answer) (ended : Ended)
    → Called tells connected x.told z.told x.node z.node answer ended → x.node.stored.journal.is_down ≡ false
    → IsReady tells x → IsReady tells z
ready-called tells connected x z answer (Handed outcome reply outs) called was ready = λ t up.
    let before = ready t was in
    (with_batch before.0 answer.delta, (called.wrote.changes t).holds before.0 before.1 refl)
ready-called tells connected x z answer (Refused cause) called was ready = λ t up.
    let before = ready t was in
    let same = (called.wrote.changes t).untouched refl refl in
    (before.0, rw (called.wrote.stored, same) before.1)
ready-called tells connected x z answer Wanted called was ready = λ t up.
    let before = ready t was in
    let same = (called.wrote.changes t).untouched refl refl in
    (before.0, rw (called.wrote.stored, same) before.1)
ready-called tells connected x z answer Broke called was ready = λ t up.
    let down : z.node.stored.journal.is_down ≡ true = rw called.wrote.stored refl in
    absurd cc
ready-called tells connected x z answer WasDown called was ready = absurd called.ends

-- a node that is up is ready after a call
pub ready-up : (tells connected : Bool) (x z : Place) (answer : Answer) (ended : Ended)
    → x.node.stored.journal.is_down ≡ false
    → Does tells connected x.told z.told x.node z.node answer ended → IsReady tells x → IsReady tells z
ready-up tells connected x z answer ended up does ready =
    ready-called tells connected x z answer ended
    (subst (λ (b : Bool). MatchBool b (Sleeps x.told z.told x.node z.node ended)
    (Called tells connected x.told z.told x.node z.node answer ended)) up does) up ready

-- ---- a node that is up stays so

-- a node with records more is down or up as it was
pub grown-down : (s : Stored) (delta : List Fact) → (grown s delta).journal.is_down ≡ s.journal.is_down
grown-down s [] = refl
grown-down s (f ∷ delta) = refl

-- a call that went well leaves a node up or down as it was
pub kept-by : (down tells connected : Bool) (x z : Place) (answer : Answer) (ended : Ended)
    → MatchBool down (Sleeps x.told z.told x.node z.node ended)
    (Called tells connected x.told z.told x.node z.node answer ended)
    → is_handed ended ≡ true → z.node.stored.journal.is_down ≡ x.node.stored.journal.is_down
kept-by true tells connected x z answer ended slept h = ap (λ (n : Noded). n.stored.journal.is_down) slept.node
kept-by false tells connected x z answer (Handed outcome reply outs) called h =
    ap (λ (s : Stored). s.journal.is_down) called.wrote.stored ∙ grown-down x.node.stored answer.delta
kept-by false tells connected x z answer (Refused cause) called h = absurd cc
kept-by false tells connected x z answer Wanted called h = absurd cc
kept-by false tells connected x z answer Broke called h = absurd cc
kept-by false tells connected x z answer WasDown called h = absurd cc

-- only a node that was down answers that it is
pub was-down : (down tells connected : Bool) (x z : Place) (answer : Answer)
    → MatchBool down (Sleeps x.told z.told x.node z.node WasDown)
    (Called tells connected x.told z.told x.node z.node answer WasDown) → down ≡ true
was-down true tells connected x z answer way = refl
was-down false tells connected x z answer way = absurd way.ends

pub leaves-up : (tells connected : Bool) (x z : Place) (answer : Answer) (ended : Ended) → IsUp tells x
    → Does tells connected x.told z.told x.node z.node answer ended → LeavesUp tells z ended
leaves-up tells connected x z answer ended is does = record {
  awake = λ e.
      let down : x.node.stored.journal.is_down ≡ true =
      was-down x.node.stored.journal.is_down tells connected x z answer
      (subst (λ (d : Ended). Does tells connected x.told z.told x.node z.node answer d) e does) in
      let up : x.node.stored.journal.is_down ≡ false = is.up in
      absurd (cc (down, up));
  up = λ h. kept-by x.node.stored.journal.is_down tells connected x z answer ended does h ∙ is.up;
  ready = ready-up tells connected x z answer ended is.up does is.ready;
}
