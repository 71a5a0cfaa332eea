-- What is gone: ranges that are one run from 1, and whether there are any numbers.
use Rattle.std.proofs.Common.{◌≡◌, ℕ, zero, suc, ◌≤◌, ◌==◌, min, max, true, false, List, [], ◌∷◌, length, refl, ap}
use Rattle.std.proofs.Common.{sym, ◌∙◌, arith}
use Rattle.std.specs.Prelude.{Bool, not, ◌&&◌, nat_le}
use Rattle.std.specs.List.{list_all}
use Rattle.std.proofs.lemmas.Bool.{and_parts, eqb-true, leb-true, false≢true}
use Rattle.std.proofs.lemmas.Bool.Decides.{nat_tests}
use Rattle.rm_sides.specs.declared.ranges.range.Range.{Range}
use Rattle.rm_sides.specs.Ranges.Changes.{with_range}
use Rattle.rm_sides.specs.Ranges.Ranges.{RisesFrom, greatest_of}
use Rattle.rm_base.specs.Message.{max_number}
use Rattle.rm_sides.specs.Destination.Incoming.{Receiving, held, is_loose}
use Rattle.rm_sides.specs.Destination.Messages.{is_empty, ranges_onto, run_to}
use Rattle.record_batch.specs.Sequences.Fits.{is_up_to, is_first_run, is_set_from, may_be_gone}
use Rattle.record_batch.specs.Sequences.SetLemmas.{is-set, set-up_to}
use Rattle.record_batch.specs.Sequences.Told.{Receives}
use Rattle.node_tables.specs.Row.Row.{takes_purged}

-- numbers that are put in leave ranges
with_range-some : (rs : List Range) (a b : ℕ) → is_empty (with_range rs a b) ≡ false
with_range-some [] a b = refl
with_range-some (r ∷ rs) a b =
    let rest : is_empty (with_range rs (min r.lower a) (max r.upper b)) ≡ false =
    with_range-some rs (min r.lower a) (max r.upper b) in
    grind (arith, nat_tests, rest)

ranges_onto-some : (rs : List Range) (ns : List ℕ) → is_empty rs ≡ false → is_empty (ranges_onto rs ns) ≡ false
ranges_onto-some rs [] h = h
ranges_onto-some rs (n ∷ ns) h = ranges_onto-some (with_range rs n n) ns (with_range-some rs n n)

-- there are no ranges exactly where there are no numbers
pub ranges_onto-empty : (ns : List ℕ) → is_empty (ranges_onto [] ns) ≡ is_empty ns
ranges_onto-empty [] = refl
ranges_onto-empty (n ∷ ns) = ranges_onto-some (with_range [] n n) ns refl

run_to-some : (u : ℕ) → 1 ≤ u → record { lower = 1; upper = u } ∷ [] ≡ run_to u
run_to-some zero h = absurd (omega arith)
run_to-some (suc u) h = refl

-- a run from 1 is the run to its greatest number
pub first_run-is : (rs : List Range) → is_first_run rs ≡ true → rs ≡ run_to (greatest_of rs)
first_run-is [] h = absurd (false≢true h)
first_run-is (r ∷ []) h =
    let parts = and_parts (r.lower == 1) (nat_le 1 r.upper) h in
    let low : r.lower ≡ 1 = eqb-true r.lower 1 parts.0 in
    ap (λ (l : ℕ). record { lower = l; upper = r.upper } ∷ []) low ∙ run_to-some r.upper (leb-true 1 r.upper parts.1)
first_run-is (r ∷ s ∷ rs) h = absurd (false≢true h)

-- the numbers of a record that an ordered sequence takes are the run to their greatest
pub purged-run : (t : Receiving) (rs : List Range) → takes_purged (Receives t) rs ≡ true → is_loose t.behaviour ≡ false
    → rs ≡ run_to (greatest_of rs)
purged-run t rs h ordered =
    let parts = and_parts (is_empty (held t)) (list_all (is_up_to max_number) rs
    && may_be_gone (is_loose t.behaviour) rs) h in
    let run = (and_parts (list_all (is_up_to max_number) rs) (may_be_gone (is_loose t.behaviour) rs) parts.1).1 in
    first_run-is rs (sym (ap (λ b. may_be_gone b rs) ordered) ∙ run)

-- of a set any numbers may be gone of a loose sequence, and 1 to some number of another one
pub gone-loose : (rs : List Range) → RisesFrom 1 rs → not (is_empty rs)
    ≡ (list_all (is_up_to max_number) rs && may_be_gone true rs)
gone-loose rs rise =
    sym (ap (λ b. b && (not (is_empty rs) && is_set_from 1 rs)) (set-up_to 1 rs (omega arith) rise)
    ∙ ap (λ b. not (is_empty rs) && b) (is-set 1 rs rise)
    ∙ with_true (not (is_empty rs)))
  where
    with_true : (b : Bool) → (b && true) ≡ b
    with_true true = refl
    with_true false = refl

pub gone-ordered : (rs : List Range) → RisesFrom 1 rs → is_first_run rs
    ≡ (list_all (is_up_to max_number) rs && may_be_gone false rs)
gone-ordered rs rise = sym (ap (λ b. b && is_first_run rs) (set-up_to 1 rs (omega arith) rise))

-- a list without items has none
pub length-empty : {A : Type 0} → (xs : List A) → (length xs == 0) ≡ is_empty xs
length-empty [] = refl
length-empty (x ∷ xs) = grind (arith, nat_tests)
