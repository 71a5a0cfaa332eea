-- Ranges that pass the test of a set are a set, and a set passes it.
use Rattle.std.proofs.Common.{◌≡◌, ℕ, ◌+◌, ◌≤◌, true, List, [], ◌∷◌, refl, arith}
use Rattle.std.specs.Prelude.{nat_le}
use Rattle.std.specs.List.{list_all}
use Rattle.std.proofs.lemmas.Bool.{and_from, and_parts, le-leb, leb-true}
use Rattle.rm_sides.specs.Ranges.Ranges.{RisesFrom}
use Rattle.rm_sides.specs.declared.ranges.range.Range.{Range}
use Rattle.rm_base.specs.Message.{max_number}
use Rattle.record_batch.specs.Sequences.Fits.{is_set_from, is_up_to}

pub set-of : (first : ℕ) (xs : List Range) → is_set_from first xs ≡ true → RisesFrom first xs
set-of first [] e = tt
set-of first (x ∷ xs) e =
    let one = and_parts (nat_le first x.lower) _ e in
    let two = and_parts (nat_le x.lower x.upper) _ one.1 in
    let three = and_parts (nat_le x.upper max_number) _ two.1 in (
      leb-true first x.lower one.0,
      leb-true x.lower x.upper two.0,
      leb-true x.upper max_number three.0,
      set-of (x.upper + 2) xs three.1,
    )

pub is-set : (first : ℕ) (xs : List Range) → RisesFrom first xs → is_set_from first xs ≡ true
is-set first [] rise = refl
is-set first (x ∷ xs) rise =
    and_from (nat_le first x.lower) _ (le-leb first x.lower rise.0)
    (and_from (nat_le x.lower x.upper) _ (le-leb x.lower x.upper rise.1)
    (and_from (nat_le x.upper max_number) _ (le-leb x.upper max_number rise.2) (is-set (x.upper + 2) xs rise.3)))

-- its numbers are message numbers
pub set-up_to : (first : ℕ) (xs : List Range) → 1 ≤ first → RisesFrom first xs
    → list_all (is_up_to max_number) xs ≡ true
set-up_to first [] from rise = refl
set-up_to first (x ∷ xs) from rise =
    and_from (is_up_to max_number x) (list_all (is_up_to max_number) xs)
    (and_from (nat_le 1 x.lower) (nat_le x.upper max_number) (le-leb 1 x.lower (omega (arith, from, rise.0)))
    (le-leb x.upper max_number rise.2))
    (set-up_to (x.upper + 2) xs (omega arith) rise.3)
