use Rattle.std.proofs.Common.{◌≡◌, ◌∙◌, ◌-◌, ◌<◌, ◌≤◌, List, get_or, ◌&&◌, ◌++◌, ◌∷◌, ℕ, nat_le, true, not, sym, ap}
use Rattle.std.proofs.Common.{ap₂, arith, length, min, max, take, drop}
use Rattle.rm_sides.specs.declared.ranges.range.Range.{Range}
use Rattle.rm_sides.specs.Ranges.Ranges.{IsCanonical}
use Rattle.rm_sides.specs.Ranges.Changes.{covers, with_range}
use Rattle.rm_sides.specs.Ranges.Places.{IsSpan}
use Rattle.rm_sides.proofs.RangesLemmas.RangesLemmas.{read_at, RisesFrom-at}
use Rattle.rm_sides.proofs.RangesLemmas.ChangesLemmas.{RisesFrom-with_range, insert-span, covers-span, join-span}
use Rattle.rm_sides.proofs.RangesLemmas.ChangesLemmas.{with_range-covered, covers-joined, covers-first}
use Rattle.rm_sides.proofs.ranges.range.put.Goals as goal

pub put_in-requires-clause-canonical : goal.put_in-requires-clause-canonical
put_in-requires-clause-canonical c =
    let span = rw c.deref.ensures.value at c.span_of-from.ensures in
    let needs = c.requires in
    rw (insert-span _ _ _ _ _ needs.canonical needs.ordered span c.if-from-to.true)
    (RisesFrom-with_range 1 _ _ _ needs.canonical needs.from_one needs.ordered needs.within)

pub returns-then-from-to-clause-ok : goal.returns-then-from-to-clause-ok
returns-then-from-to-clause-ok c =
    let span = rw c.deref.ensures.value at c.span_of-from.ensures in
    c.in_ok-put_in.ensures.ok ∙ insert-span _ _ _ _ _ c.requires.canonical c.requires.ordered span c.if-from-to.true

pub returns-then-from-to-clause-is_new : goal.returns-then-from-to-clause-is_new
returns-then-from-to-clause-is_new c =
    let span = rw c.deref.ensures.value at c.span_of-from.ensures in
    ap not (sym (covers-span _ _ _ _ _ c.requires.canonical c.requires.ordered span c.if-from-to.true))

covered : (c : goal.Then-has_range) → covers c.args.ranges.now.items c.args.lower c.args.upper ≡ true
covered c =
    let span = rw c.deref.ensures.value at c.span_of-from.ensures in
    let within : c.span_of-from.result.0 < length c.args.ranges.now.items = omega (arith, span.rises, span.within) in
    let first = read_at _ _ _ within c.index-first.ensures in
    covers-first _ c.args.lower c.args.upper _ within
    (ap (λ (r : Range). nat_le r.lower c.args.lower && nat_le c.args.upper r.upper) (sym first)
    ∙ sym c.if-has_range.ensures)

pub returns-then-has_range-clause-ok : goal.returns-then-has_range-clause-ok
returns-then-has_range-clause-ok c =
    sym (with_range-covered _ _ _ c.requires.canonical c.requires.from_one c.requires.ordered c.requires.within
    (covered c))

pub returns-then-has_range-clause-is_new : goal.returns-then-has_range-clause-is_new
returns-then-has_range-clause-is_new c = ap not (sym (covered c))

-- the joined range in the place of those that it joins
joined : (xs : List Range) (l u from to a b : ℕ) (first last : Range) → IsCanonical xs → l ≤ u → IsSpan xs l u from to →
    from < to → first ≡ get_or xs from first → last ≡ get_or xs (to - 1) last → a ≡ min first.lower l →
    b ≡ max last.upper u → take from xs ++ record { lower = a; upper = b } ∷ drop to xs ≡ with_range xs l u
joined xs l u from to a b first last canonical ordered span some is_first is_last is_lower is_upper =
    let begins = read_at xs from first (omega (arith, span.within)) is_first in
    let ends = read_at xs (to - 1) last (omega (arith, span.within)) is_last in
    ap₂ (λ (a b : ℕ). take from xs ++ record { lower = a; upper = b } ∷ drop to xs)
    (is_lower ∙ ap (λ (r : Range). min r.lower l) begins) (is_upper ∙ ap (λ (r : Range). max r.upper u) ends)
    ∙ join-span xs l u from to canonical ordered span some

pub join-requires-clause-canonical : goal.join-requires-clause-canonical
join-requires-clause-canonical c =
    let needs = c.requires in
    let span = rw c.deref.ensures.value at c.span_of-from.ensures in
    rw (joined _ _ _ _ _ _ _ c.index-first.result.now c.index.result.now needs.canonical needs.ordered span
    (omega (arith, span.rises)) c.index-first.ensures c.index.ensures c.min.ensures c.max.ensures)
    (RisesFrom-with_range 1 _ _ _ needs.canonical needs.from_one needs.ordered needs.within)

pub join-requires-clause-from_one : goal.join-requires-clause-from_one
join-requires-clause-from_one c =
    let xs = c.args.ranges.now.items in
    let from = c.span_of-from.result.0 in
    let span = rw c.deref.ensures.value at c.span_of-from.ensures in
    let there : from < length xs = omega (arith, span.rises, span.within) in
    let first = read_at xs from c.index-first.result.now there c.index-first.ensures in
    let at = RisesFrom-at 1 xs from c.requires.canonical there in
    omega (arith, at.0, c.min.ensures, ap (λ (r : Range). r.lower) first, c.requires.from_one)

pub returns-clause-ok : goal.returns-clause-ok
returns-clause-ok c =
    let needs = c.requires in
    let span = rw c.deref.ensures.value at c.span_of-from.ensures in
    c.join.ensures.items
    ∙ joined _ _ _ _ _ _ _ c.index-first.result.now c.index.result.now needs.canonical needs.ordered span
    (omega (arith, span.rises)) c.index-first.ensures c.index.ensures c.min.ensures c.max.ensures

pub returns-clause-is_new : goal.returns-clause-is_new
returns-clause-is_new c =
    let xs = c.args.ranges.now.items in
    let from = c.span_of-from.result.0 in
    let span = rw c.deref.ensures.value at c.span_of-from.ensures in
    let some : from < c.span_of-from.result.1 = omega (arith, span.rises) in
    let first = read_at xs from c.index-first.result.now (omega (arith, span.within)) c.index-first.ensures in
    ap not (sym (covers-joined xs c.args.lower c.args.upper from c.span_of-from.result.1 c.requires.canonical
    c.requires.ordered span some
    (ap (λ (r : Range). nat_le r.lower c.args.lower && nat_le c.args.upper r.upper) (sym first)
    ∙ sym c.if-has_range.ensures)))
