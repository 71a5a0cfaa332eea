use Rattle.std.proofs.Common.{ℕ, ◌-◌, List, slice_index, arith, rules, refl, ap, inl, inr}
use Rattle.std.proofs.lemmas.Bool.{cases_lt}
use Rattle.std.proofs.lemmas.List.{places}
use Rattle.rm_disk.specs.RangeLemmas.{within_inside, within_before, within_behind}
use Rattle.rm_disk.proofs.patch.copy_range.Goals as goal

pub returns-then-at-end : goal.returns-then-at-end
returns-then-at-end c i low = elim (cases_lt i c.args.at) [
  | inl before ↦ rw (within_before i c.args.at c.args.count before) (search (rules, places))
  | inr from ↦ elim (cases_lt i c.min-end.result) [
    | inl below ↦
        let read = ap (λ (bytes : List ℕ). slice_index bytes (i - c.args.at)) c.copy_from_slice.ensures.after in
        rw (within_inside i c.args.at c.args.count from (omega arith)) (search (rules, places))
    | inr behind ↦ rw (within_behind i c.args.at c.args.count (omega arith)) (search (rules, places))
  ]
]

pub returns-else-at-end : goal.returns-else-at-end
returns-else-at-end c i low = elim (cases_lt i c.args.at) [
  | inl before ↦ rw (within_before i c.args.at c.args.count before) refl
  | inr from ↦ rw (within_behind i c.args.at c.args.count (omega arith)) refl
]
