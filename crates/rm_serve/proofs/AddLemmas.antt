-- What calls of a node leave on its disk.
use Rattle.std.proofs.Common.{◌≡◌, ◌≢◌, ◌∙◌, Bool, true, false, List, [], ◌∷◌, length, refl, ap, sym, subst, inl}
use Rattle.std.specs.List.{AllByRecursion}
use Rattle.std.specs.Prelude.{IsTrue, MatchBool}
use Rattle.node_store.specs.Has.{Holds, IsLeftBy}
use Rattle.node_store.specs.Stored.{Stored, grown, with_batch}
use Rattle.record_batch.specs.Fact.{Fact}
use Rattle.rm_disk.specs.Image.{MayLeave}
use Rattle.rm_disk.specs.ImageLemmas.{left_now}
use Rattle.rm_disk.specs.Told.{Told}
use Rattle.rm_disk.specs.Journal.Entries.{Bank}
use Rattle.rm_protocol.specs.Terms.{Terms}
use Rattle.rm_node.specs.Called.{Called, Sleeps, answer_of}
use Rattle.rm_node.specs.Ends.{Broke, Ended, Handed, Refused, Wanted, WasDown}
use Rattle.rm_node.specs.Keeping.{Keeping, Keeps}
use Rattle.rm_node.specs.Noded.{Noded}
use Rattle.rm_serve.specs.Adds.{Adds, Brings, IsSlept, Leaves, added_by, breaks_off, grown_by, no_more, one_more}
use Rattle.rm_serve.proofs.StepLemmas.{grown-down}
use Rattle.rm_serve.specs.Steps.{Makes, Place, Step, done, is_received, makes, place_of, rests}

-- ---- a node that is down

-- what holds of calls of a node that was down at a place
record StaysDown (y z : Place) (steps : List Step) : Type 0 where
  told : z.told ≡ y.told
  down : z.node.stored.journal.is_down ≡ true
  slept : AllByRecursion IsSlept steps

-- one that is down does what is said of one that is down
down-does : (down : Bool) (P Q : Type 0) → down ≡ true → MatchBool down P Q → P
down-does true P Q is does = does
down-does false P Q is does = absurd cc

-- one that is up does what is said of one that is up
up-does : (down : Bool) (P Q : Type 0) → down ≡ false → MatchBool down P Q → Q
up-does true P Q is does = absurd cc
up-does false P Q is does = does

stays-down : (tells : Bool) (terms : Terms) (y z : Place) (steps : List Step) → IsTrue tells
    → y.node.stored.journal.is_down ≡ true → Makes tells terms y z steps → StaysDown y z steps
stays-down tells terms _ _ _ t down (done x) = record { told = refl; down = down; slept = tt }
stays-down tells terms _ _ _ t down (rests x y z steps stays after) =
    let still : y.node.stored.journal.is_down ≡ true =
    ap (λ (n : Noded). n.stored.journal.is_down) stays.node ∙ down in
    let more = stays-down tells terms y z steps t still after in
    record { told = more.told ∙ stays.told t; down = more.down; slept = more.slept }
stays-down tells terms _ _ _ t down (makes x y z step steps runs does after) =
    let sleeps : Sleeps x.told y.told x.node y.node step.ended =
    down-does x.node.stored.journal.is_down _ _ down (does runs.keeping.0 runs.keeping.1) in
    let still : y.node.stored.journal.is_down ≡ true =
    ap (λ (n : Noded). n.stored.journal.is_down) sleeps.node ∙ down in
    let more = stays-down tells terms y z steps t still after in
    record { told = more.told ∙ sleeps.disk; down = more.down; slept = (sleeps.ends, more.slept) }

-- ---- one call of a node that is up

-- a node with records more has its journal in the same bank
grown-bank : (s : Stored) (delta : List Fact) → (grown s delta).journal.bank ≡ s.journal.bank
grown-bank s [] = refl
grown-bank s (f ∷ delta) = refl

-- what was left behind the first call is left behind all of them
leaves-on : (tells : Bool) (terms : Terms) (x y z : Place) (step : Step) (steps : List Step)
    (batches : List (List Fact)) (delta : List Fact)
    → y.node.stored.journal.bank ≡ x.node.stored.journal.bank
    → ((deltas : List (List Fact)) (torn : List Fact) → Adds tells terms y steps deltas torn
    → Adds tells terms x (step ∷ steps) (delta ∷ deltas) torn)
    → Leaves tells terms y z steps (with_batch batches delta) → Leaves tells terms x z (step ∷ steps) batches
leaves-on tells terms x y z step steps batches delta bank adds more = record {
  deltas = delta ∷ more.deltas;
  torn = more.torn;
  adds = adds more.deltas more.torn more.adds;
  left = λ bytes may. subst (λ (b : Bank). IsLeftBy b (grown_by (with_batch batches delta) more.deltas) more.torn bytes)
      bank (more.left bytes may);
  holds = more.holds;
}

-- the disk failed under a call
breaks : (tells : Bool) (terms : Terms) (x y z : Place) (step : Step) (steps : List Step) (kept : Keeping)
    (batches : List (List Fact))
    → IsTrue tells → Keeps x.node.kept kept → step.ended ≡ Broke → Holds batches x.told.past x.node.stored
    → Called tells (is_received step.asked) x.told y.told x.node y.node
    (answer_of terms x.node step.moment kept step.asked) Broke
    → Makes tells terms y z steps → Leaves tells terms x z (step ∷ steps) batches
breaks tells terms x y z step steps kept batches t keeps broke has called after =
    let fell : y.node.stored.journal.is_down ≡ true = ap (λ (s : Stored). s.journal.is_down) called.wrote.stored in
    let down = stays-down tells terms y z steps t fell after in
    let delta = (answer_of terms x.node step.moment kept step.asked).delta in
    record {
      deltas = [];
      torn = delta;
      adds = breaks_off x step steps kept keeps broke down.slept;
      left = λ bytes may.
          let now : MayLeave y.told.past bytes = subst (λ (d : Told). MayLeave d.past bytes) down.told may in
          ((called.wrote.changes t).moments batches has).each bytes
          (left_now y.told.past (length x.told.past) bytes now);
      holds = λ up. absurd (cc (up, down.down));
    }

-- a call that was refused, or for which memory was wanting, adds nothing
idle : (tells : Bool) (terms : Terms) (x y z : Place) (step : Step) (steps : List Step) (kept : Keeping)
    (batches : List (List Fact)) (ended : Ended)
    → IsTrue tells → x.node.stored.journal.is_down ≡ false → Keeps x.node.kept kept → step.ended ≡ ended
    → Brings tells terms x y kept step → ended ≢ Broke
    → added_by ended (answer_of terms x.node step.moment kept step.asked).delta ≡ []
    → Holds batches x.told.past x.node.stored
    → y.node.stored ≡ x.node.stored → y.told ≡ x.told
    → ((more : List (List Fact)) → y.node.stored.journal.is_down ≡ false → Holds more y.told.past y.node.stored
    → Leaves tells terms y z steps more)
    → Leaves tells terms x z (step ∷ steps) batches
idle tells terms x y z step steps kept batches ended t up keeps is goes whole none has stored told rest =
    let delta : List Fact = (answer_of terms x.node step.moment kept step.asked).delta in
    let awake : y.node.stored.journal.is_down ≡ false = ap (λ (s : Stored). s.journal.is_down) stored ∙ up in
    let unbroken : step.ended ≢ Broke = λ e. whole (sym is ∙ e) in
    leaves-on tells terms x y z step steps batches [] (ap (λ (s : Stored). s.journal.bank) stored)
    (λ deltas torn adds. subst (λ (d : List Fact). Adds tells terms x (step ∷ steps) (d ∷ deltas) torn)
    (ap (λ (e : Ended). added_by e delta) is ∙ none)
    (one_more x y step steps kept deltas torn keeps unbroken goes adds))
    (rest batches awake
    (subst (λ (d : Told). Holds batches d.past y.node.stored) (sym told)
    (subst (λ (s : Stored). Holds batches x.told.past s) (sym stored) has)))

-- one call, whatever follows it
leaves-by : (tells : Bool) (terms : Terms) (x y z : Place) (step : Step) (steps : List Step) (kept : Keeping)
    (batches : List (List Fact)) (ended : Ended)
    → IsTrue tells → x.node.stored.journal.is_down ≡ false → Keeps x.node.kept kept → step.ended ≡ ended
    → Brings tells terms x y kept step → Holds batches x.told.past x.node.stored
    → Called tells (is_received step.asked) x.told y.told x.node y.node
    (answer_of terms x.node step.moment kept step.asked) ended
    → Makes tells terms y z steps
    → ((more : List (List Fact)) → y.node.stored.journal.is_down ≡ false → Holds more y.told.past y.node.stored
    → Leaves tells terms y z steps more)
    → Leaves tells terms x z (step ∷ steps) batches
leaves-by tells terms x y z step steps kept batches (Handed outcome reply outs) t up keeps is goes has called after
    rest =
    let delta : List Fact = (answer_of terms x.node step.moment kept step.asked).delta in
    let stored : y.node.stored ≡ grown x.node.stored delta = called.wrote.stored in
    let awake : y.node.stored.journal.is_down ≡ false =
    ap (λ (s : Stored). s.journal.is_down) stored ∙ grown-down x.node.stored delta ∙ up in
    leaves-on tells terms x y z step steps batches delta
    (ap (λ (s : Stored). s.journal.bank) stored ∙ grown-bank x.node.stored delta)
    (λ deltas torn adds. subst (λ (e : Ended). Adds tells terms x (step ∷ steps) (added_by e delta ∷ deltas) torn) is
    (one_more x y step steps kept deltas torn keeps (λ e. absurd (cc (e, is))) goes adds))
    (rest (with_batch batches delta) awake ((called.wrote.changes t).holds batches has refl))
leaves-by tells terms x y z step steps kept batches (Refused cause) t up keeps is goes has called after rest =
    idle tells terms x y z step steps kept batches (Refused cause) t up keeps is goes (λ e. absurd cc) refl has
    called.wrote.stored ((called.wrote.changes t).untouched refl refl) rest
leaves-by tells terms x y z step steps kept batches Wanted t up keeps is goes has called after rest =
    idle tells terms x y z step steps kept batches Wanted t up keeps is goes (λ e. absurd cc) refl has
    called.wrote.stored ((called.wrote.changes t).untouched refl refl) rest
leaves-by tells terms x y z step steps kept batches Broke t up keeps is goes has called after rest =
    breaks tells terms x y z step steps kept batches t keeps is has called after
leaves-by tells terms x y z step steps kept batches WasDown t up keeps is goes has called after rest =
    absurd called.ends

-- two places are alike where their nodes and disks are
alike : (x y : Place) → y.node ≡ x.node → y.told ≡ x.told → y ≡ x
alike x y node told = ap (λ (n : Noded). place_of y.told n) node ∙ ap (λ (d : Told). place_of d x.node) told

-- ---- all of them

pub leaves : (tells : Bool) (terms : Terms) (x z : Place) (steps : List Step) (batches : List (List Fact))
    → IsTrue tells → x.node.stored.journal.is_down ≡ false → Holds batches x.told.past x.node.stored
    → Makes tells terms x z steps → Leaves tells terms x z steps batches
leaves tells terms _ _ _ batches t up has (done x) = record {
  deltas = [];
  torn = [];
  adds = no_more x;
  left = λ bytes may. inl (has.journal.images bytes may);
  holds = λ still. has;
}
leaves tells terms _ _ _ batches t up has (rests x y z steps stays after) =
    let same = alike x y stays.node (stays.told t) in
    subst (λ (p : Place). Leaves tells terms p z steps batches) same
    (leaves tells terms y z steps batches t
    (subst (λ (p : Place). p.node.stored.journal.is_down ≡ false) (sym same) up)
    (subst (λ (p : Place). Holds batches p.told.past p.node.stored) (sym same) has) after)
leaves tells terms _ _ _ batches t up has (makes x y z step steps runs does after) =
    let kept = runs.keeping.0 in
    leaves-by tells terms x y z step steps kept batches step.ended t up runs.keeping.1 refl
    (does kept runs.keeping.1) has
    (up-does x.node.stored.journal.is_down _ _ up (does kept runs.keeping.1)) after
    (λ more awake holds. leaves tells terms y z steps more t awake holds after)
