use Rattle.std.proofs.Common.{◌≡◌, ◌∙◌, ◌+◌, ◌&&◌, true, false, sym, ap, drop, arith}
use Rattle.std.proofs.lemmas.Bool.{le-leb, lt-leb, and_left}
use Rattle.std.proofs.lemmas.List.{drop_more}
use Rattle.rm_sides.specs.Ranges.Changes.{covers, covers_all}
use Rattle.rm_sides.specs.Ranges.Places.{range_at}
use Rattle.rm_sides.proofs.RangesLemmas.RangesLemmas.{RisesFrom-ends}
use Rattle.rm_sides.proofs.RangesLemmas.ChangesLemmas.{covers-at_place, covers-past}
use Rattle.rm_sides.proofs.ranges.merge.has_all.Goals as goal
use Rattle.rm_sides.proofs.ranges.merge.has_all.Goals.{then-place-ranges-via-then-place-ranges}
use Rattle.rm_sides.proofs.ranges.merge.has_all.Goals.{then-place-ranges-via-else-place-ranges+then-other-ranges}

pub returns-then-place-ranges : goal.returns-then-place-ranges
returns-then-place-ranges c =
    let i = c.loop-other.other-index in
    let xs = c.args.ranges.now in
    let other = range_at c.args.others.now i in
    let place = c.next_place-place.ensures.place in
    let first : covers xs other.lower other.upper ≡ false = elim c.then-place-ranges.branch [
      | then-place-ranges-via-then-place-ranges w ↦
          covers-past xs other.lower other.upper c.next_place-place.result place (omega (arith, w.if-place-ranges.true))
      | then-place-ranges-via-else-place-ranges+then-other-ranges w ↦
          covers-at_place xs other.lower other.upper c.next_place-place.result c.requires.ranges place
          (omega (arith, w.if-place-ranges.false, place.within))
          ∙ lt-leb _ _ w.if-other-ranges.true
    ] in
    sym (sym c.loop-other.invariant.told
    ∙ ap (covers_all xs) (drop_more c.args.others.now i (record { lower = 0; upper = 0 }) c.loop-other-test.true)
    ∙ and_left (covers xs other.lower other.upper) (covers_all xs (drop (i + 1) c.args.others.now)) first)

pub loop-other-preserved : goal.loop-other-preserved
loop-other-preserved c =
    let i = c.loop-other.other-index in
    let xs = c.args.ranges.now in
    let other = range_at c.args.others.now i in
    let place = c.next_place-place.ensures.place in
    let first : covers xs other.lower other.upper ≡ true =
    covers-at_place xs other.lower other.upper c.next_place-place.result c.requires.ranges place
    (omega (arith, c.if-place-ranges.false, place.within))
    ∙ le-leb _ _ c.if-other-ranges.false in
    record {
      within = place.within;
      before = λ k h more. omega (
        arith,
        place.before k h,
        RisesFrom-ends 1 c.args.others.now i
            (i + 1) c.requires.others (omega arith) more,
      );
      told = sym (ap (λ b. b && covers_all xs (drop (i + 1) c.args.others.now)) first)
          ∙ sym (ap (covers_all xs) (drop_more c.args.others.now i
          (record { lower = 0; upper = 0 }) c.loop-other-test.true))
          ∙ c.loop-other.invariant.told;
    }
