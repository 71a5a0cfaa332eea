use Rattle.std.proofs.Common.{◌≡◌, ℕ, ◌+◌, ◌≤◌, length, ap, arith}
use Rattle.rm_sides.specs.Ranges.Ranges.{IsGreatest, greatest_of, in_ranges}
use Rattle.rm_sides.specs.Source.Outgoing.{Sequence, accepted_count}
use Rattle.rm_sides.proofs.SourceLemmas.AckedLemmas.{greatest_of-added}
use Rattle.rm_sides.proofs.source.outgoing.Outgoing.learn.Goals as goal

pub invariant_of-self-2 : goal.invariant_of-self-2
invariant_of-self-2 c =
    let old = c.self.inside.acked.ranges in
    let given = c.args.given.now.ranges in
    let new = c.unite.new.self.ranges in
    let count : ℕ = c.self.inside.dropped + length c.self.inside.accepted.facts in
    let adds = c.in_ok-is_new.ensures.adds in
    let ends = c.ends_are_right.ensures.greatest in
    let seen : count ≡ accepted_count c.args.self.now.facts
    = ap (λ (s : Sequence). accepted_count s.facts) c.self.view_is in
    let greatest : IsGreatest given (greatest_of given)
    = rw c.greatest-number.ensures.value at c.greatest-number.ensures.greatest in
    let below : greatest_of given ≤ count = omega arith in
    let used : length c.ranges-2.result.now ≡ length given = ap length c.ranges-2.ensures.ranges in
    record {
      canonical = adds.canonical;
      within = greatest_of-added old new (in_ranges given) count adds (ends old c.self.invariant.canonical)
          (ends new adds.canonical) c.self.invariant.within (λ k there. omega (arith, greatest.above k there));
      few = c.self.invariant.few;
      payloads_fit = c.self.invariant.payloads_fit;
      ranges_fit = omega (arith, c.in_ok-is_new.ensures.spare, c.self.invariant.ranges_fit, used);
    }
