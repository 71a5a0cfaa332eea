use Rattle.std.proofs.Common.{◌≡◌, ℕ, ◌+◌, ◌-◌, ◌<◌, ◌≤◌, ◌++◌, ◌∷◌, [], List, length, take, set, sym, ap, ◌∙◌, arith}
use Rattle.std.proofs.lemmas.List.{take_more, take_more_set, length-take-le, get_or-take}
use Rattle.rm_base.specs.Message.{max_number}
use Rattle.rm_sides.specs.declared.ranges.range.Range.{Range}
use Rattle.rm_sides.specs.Ranges.Changes.{with_range}
use Rattle.rm_sides.specs.Ranges.Places.{range_at}
use Rattle.rm_sides.proofs.RangesLemmas.RangesLemmas.{RisesFrom-at, RisesFrom-ends}
use Rattle.rm_sides.proofs.RangesLemmas.MergeLemmas.{StartsBy-at, with_range-last, with_range-push}
use Rattle.rm_sides.proofs.ranges.merge.put_last.Goals as goal
use Rattle.rm_sides.proofs.ranges.merge.put_last.Goals.{then-kept-gt0+else-range-last, else-kept-gt0}

-- the last of the first ranges
last-is : (all : List Range) (kept : ℕ) → 0 < kept → kept ≤ length all →
    range_at (take kept all) (kept - 1) ≡ range_at all (kept - 1)
last-is all kept some le = get_or-take kept all (kept - 1) (record { lower = 0; upper = 0 }) (omega arith)

-- the first ranges, and the last of them
front-last : (all : List Range) (kept : ℕ) → 0 < kept → kept ≤ length all →
    take kept all ≡ take (kept - 1) all ++ range_at all (kept - 1) ∷ []
front-last all kept some le =
    ap (λ n. take n all) (omega arith) ∙ take_more all (kept - 1) (record { lower = 0; upper = 0 }) (omega arith)

pub overflow_add-last : goal.overflow_add-last
overflow_add-last c =
    let all = c.args.all.now in
    let e = last-is all c.args.kept c.if-kept-gt0.true (omega (arith, c.requires.within)) in
    let end : (range_at all (c.args.kept - 1)).upper ≤ max_number =
    rw (← e) (RisesFrom-at 1 (take c.args.kept all) (c.args.kept - 1) c.requires.canonical
    (omega (arith, length-take-le c.args.kept all (omega (arith, c.requires.within))))).2 in
    omega arith

pub returns-then-range-last-clause-sum : goal.returns-then-range-last-clause-sum
returns-then-range-last-clause-sum c =
    let all = c.args.all.now in
    let kept = c.args.kept in
    let i : ℕ = kept - 1 in
    let whole = front-last all kept c.if-kept-gt0.true (omega (arith, c.requires.within)) in
    let last : Range = range_at all i in
    let joined : Range = record { lower = last.lower; upper = c.max.result } in
    let starts : last.lower ≤ c.args.range.lower =
    rw (← last-is all kept c.if-kept-gt0.true (omega (arith, c.requires.within)))
    (StartsBy-at (take kept all) c.args.range.lower i c.requires.behind
    (omega (arith, length-take-le kept all (omega (arith, c.requires.within))))) in
    ap (λ n. take n (set all i joined)) (omega arith)
    ∙ take_more_set all i joined (omega (arith, c.requires.within))
    ∙ ap (λ (u : ℕ). take i all ++ record { lower = last.lower; upper = u } ∷ []) c.max.ensures
    ∙ sym (ap (λ xs. with_range xs c.args.range.lower c.args.range.upper) whole
    ∙ with_range-last 1 (take i all) last c.args.range.lower c.args.range.upper
    (rw (← whole) c.requires.canonical) starts c.if-range-last.true c.requires.a_range.1)

pub returns-clause-sum : goal.returns-clause-sum
returns-clause-sum c =
    let all = c.args.all.now in
    let kept = c.args.kept in
    let count : length (take kept all) ≡ kept = length-take-le kept all (omega (arith, c.requires.within)) in
    let before : (k : ℕ) → k < length (take kept all) →
    (range_at (take kept all) k).upper + 1 < c.args.range.lower = λ k h.
    elim c.if-kept-gt0.branch [
      | then-kept-gt0+else-range-last w ↦
          let e = last-is all kept w.if-kept-gt0.true (omega (arith, c.requires.within)) in
          let ends = RisesFrom-ends 1 (take kept all) k (kept - 1) c.requires.canonical (omega arith) (omega arith) in
          let bound : (range_at (take kept all) (kept - 1)).upper + 1 < c.args.range.lower =
          rw e (w.if-range-last.false) in
          omega arith
      | else-kept-gt0 w ↦ absurd (omega arith)
    ] in
    take_more_set all kept c.args.range c.requires.within
    ∙ sym (with_range-push (take kept all) c.args.range.lower c.args.range.upper before)
