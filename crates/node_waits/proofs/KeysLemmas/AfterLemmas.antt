-- What a pass over the keys that records may end leaves.
use Rattle.std.proofs.Common.{◌≡◌, ℕ, ◌+◌, ◌<◌, ◌||◌, ◌&&◌, not, cond, Bool, true, false, List, [], ◌∷◌, ◌++◌, drop}
use Rattle.std.proofs.Common.{length, get_or, refl, sym, ap, ap₂, ◌∙◌}
use Rattle.std.specs.List.{flat_map}
use Rattle.std.proofs.lemmas.Bool.{false≢true}
use Rattle.std.proofs.lemmas.List.{drop_more}
use Rattle.timers.specs.declared.slots.timers.Key.{Key}
use Rattle.timers.specs.declared.keys.cells.Cell.{Cell}
use Rattle.timers.specs.Keys.Keyed.{Keyed, StandsFor, Steps}
use Rattle.timers.specs.Keys.Waits.{Wait, send_all}
use Rattle.record_batch.specs.Fact.{Fact}
use Rattle.rm_protocol.specs.Exact.{OthersWaitOn}
use Rattle.record_batch.specs.Sequences.Fits.{all_fit}
use Rattle.rm_protocol.specs.Waiting.{is_waiting}
use Rattle.node_waits.specs.declared.keys.touched.Touched.{Touched}
use Rattle.node_waits.specs.Keys.Settled.{is_kept, is_touched, is_within, settled, settled_all, settled_cells}
use Rattle.node_waits.specs.Keys.Settled.{cells_all}
use Rattle.node_waits.specs.Keys.Settled.{AreTouched, OnlyTheTouched, touched_by}
use Rattle.node_waits.proofs.KeysLemmas.AckedLemmas.{wait-on}

-- after some first of what was touched was looked at, the rest makes of what waits now what all make of what waited
pub record Looked (r : List Fact) (old now : Keyed) (waits : List Wait) (all rest : List Touched) : Type 0 where
  pub then : List Wait
  pub stands : StandsFor now then
  pub same : settled_all r rest then ≡ settled_all r all waits

pub looked-more : (r : List Fact) (old mid new : Keyed) (waits : List Wait) (all : List Touched) (i : ℕ) (t d : Touched)
    → i < length all → t ≡ get_or all i d → Looked r old mid waits all (drop i all) → Steps mid new (settled r t)
    → Looked r old new waits all (drop (i + 1) all)
looked-more r old mid new waits all i t d lt is m steps =
    let next : drop i all ≡ t ∷ drop (i + 1) all =
    drop_more all i d lt ∙ ap (λ (x : Touched). x ∷ drop (i + 1) all) (sym is) in
    record {
      then = settled r t m.then;
      stands = steps m.then m.stands;
      same = ap (λ (v : List Touched). settled_all r v m.then) (sym next) ∙ m.same;
    }

pub cells-more : (r : List Fact) (mid new : List Cell) (all : List Touched) (i : ℕ) (t d : Touched) → i < length all
    → t ≡ get_or all i d → new ≡ settled_cells r t mid
    → cells_all r (drop i all) mid ≡ cells_all r (drop (i + 1) all) new
cells-more r mid new all i t d lt is e =
    let next : drop i all ≡ t ∷ drop (i + 1) all =
    drop_more all i d lt ∙ ap (λ (x : Touched). x ∷ drop (i + 1) all) (sym is) in
    ap (λ (v : List Touched). cells_all r v mid) next ∙ ap (cells_all r (drop (i + 1) all)) (sym e)

-- a key that is kept by each of them
kept_all : List Fact → List Touched → Key → Bool
kept_all r [] k = true
kept_all r (t ∷ touched) k = is_kept r t k && kept_all r touched k

all-none : (r : List Fact) (touched : List Touched) → settled_all r touched [] ≡ []
all-none r [] = refl
all-none r (t ∷ touched) = all-none r touched

all-cons : (r : List Fact) (touched : List Touched) (w : Wait) (waits : List Wait) → settled_all r touched (w ∷ waits)
    ≡ cond (kept_all r touched w.key) (w ∷ settled_all r touched waits) (settled_all r touched waits)
unfolding kept_all
all-cons r [] w waits = refl
all-cons r (t ∷ touched) w waits =
    elim (is_kept r t w.key) as (λ b. settled_all r touched (cond b (w ∷ settled r t waits) (settled r t waits))
    ≡ cond (b && kept_all r touched w.key) (w ∷ settled_all r touched (settled r t waits))
    (settled_all r touched (settled r t waits))) [
      | true ↦ all-cons r touched w (settled r t waits)
      | false ↦ refl
    ]

waiting-kept : (r : List Fact) (touched : List Touched) (k : Key) → is_waiting r k ≡ true → kept_all r touched k ≡ true
unfolding kept_all
waiting-kept r [] k e = refl
waiting-kept r (t ∷ touched) k e =
    ap₂ (λ (a b : Bool). a && b)
    (ap (λ (b : Bool). not (is_within t k) || b) e
    ∙ elim (is_within t k) as (λ b. (not b || true) ≡ true) [ true ↦ refl | false ↦ refl ])
    (waiting-kept r touched k e)

touched-gone : (r : List Fact) (touched : List Touched) (k : Key) → is_waiting r k ≡ false
    → is_touched touched k ≡ true → kept_all r touched k ≡ false
unfolding kept_all
touched-gone r [] k e h = absurd (cc)
touched-gone r (t ∷ touched) k e h =
    elim (is_within t k) as (λ b. is_within t k ≡ b → (b || is_touched touched k) ≡ true
    → ((not b || is_waiting r k) && kept_all r touched k) ≡ false) [
      | true ↦ λ d f. ap (λ (b : Bool). b && kept_all r touched k) e
      | false ↦ λ d f. touched-gone r touched k e f
    ] refl h

-- so a key that no record may end is left out of what these may end
untouched : (touched : List Touched) (delta : List Fact) (k : Key) → AreTouched touched delta
    → is_touched touched k ≡ false → is_touched (flat_map touched_by delta) k ≡ false
untouched touched delta k h e =
    elim (is_touched (flat_map touched_by delta) k) as
    (λ b. is_touched (flat_map touched_by delta) k ≡ b → b ≡ false) [
      | true ↦ λ d. absurd (false≢true (sym e ∙ h k d))
      | false ↦ λ d. refl
    ] refl

one-key : OthersWaitOn → (r delta : List Fact) (touched : List Touched) (k : Key) → all_fit r delta ≡ true
    → AreTouched touched delta → is_waiting r k ≡ true
    → kept_all (r ++ delta) touched k ≡ is_waiting (r ++ delta) k
one-key law r delta touched k fit h w =
    elim (is_waiting (r ++ delta) k) as (λ b. is_waiting (r ++ delta) k ≡ b → kept_all (r ++ delta) touched k ≡ b) [
      | true ↦ λ e. waiting-kept (r ++ delta) touched k e
      | false ↦ λ e. elim (is_touched touched k) as
          (λ b. is_touched touched k ≡ b → kept_all (r ++ delta) touched k ≡ false) [
            | true ↦ λ d. touched-gone (r ++ delta) touched k e d
            | false ↦ λ d. absurd (false≢true (sym e ∙ wait-on law r delta k fit (untouched touched delta k h d) w))
          ] refl
    ] refl

pub only-touched : OthersWaitOn → OnlyTheTouched
only-touched law r delta touched [] fit h w = all-none (r ++ delta) touched
only-touched law r delta touched (x ∷ waits) fit h w =
    all-cons (r ++ delta) touched x waits
    ∙ ap₂ (λ (b : Bool) (v : List Wait). cond b (x ∷ v) v) (one-key law r delta touched x.key fit h w.0)
    (only-touched law r delta touched waits fit h w.1)

-- some keys and then others
pub send-both : (time : ℕ) (xs ys : List Key) (waits : List Wait)
    → send_all time (xs ++ ys) waits ≡ send_all time ys (send_all time xs waits)
send-both time [] ys waits = refl
send-both time (x ∷ xs) ys waits = send-both time xs ys _
