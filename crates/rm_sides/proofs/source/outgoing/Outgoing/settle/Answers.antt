use Rattle.std.proofs.Common.{List, ℕ, length, ap, arith}
use Rattle.std.proofs.lemmas.List.{length-drop}
use Rattle.rm_sides.specs.Ranges.Ranges.{greatest_of}
use Rattle.rm_base.specs.Roomy.{Roomy}
use Rattle.rm_sides.proofs.SourceLemmas.AckedLemmas.{front-within}
use Rattle.rm_sides.proofs.source.outgoing.Outgoing.settle.Goals as goal

pub behind-requires : goal.behind-requires
behind-requires c =
    let acked = c.self.inside.acked.ranges in
    let few = front-within acked c.front-front.result c.front-front.ensures.front
    (c.ends_are_right.ensures.greatest acked c.self.invariant.canonical) in
    omega (
      arith,
      few,
      c.self.invariant.within,
      c.saturating_sub-more.ensures,
      ap (λ (x : Roomy (List ℕ)). length x.facts) c.replace-items.ensures.value,
    )

pub invariant_of-self : goal.invariant_of-self
invariant_of-self c =
    let acked = c.self.inside.acked.ranges in
    let few = front-within acked c.front-front.result c.front-front.ensures.front
    (c.ends_are_right.ensures.greatest acked c.self.invariant.canonical) in
    let old = ap (λ (x : Roomy (List ℕ)). length x.facts) c.replace-items.ensures.value in
    let left = ap length c.behind.ensures in
    let size = length-drop c.saturating_sub-more.result c.replace-items.result.facts in
    record {
      canonical = c.self.invariant.canonical;
      within = omega (
        arith,
        few,
        c.self.invariant.within,
        c.saturating_sub-more.ensures,
        old,
        left,
        size,
        c.max-self-inside.ensures,
      );
      few = omega (
        arith,
        few,
        c.self.invariant.within,
        c.self.invariant.few,
        c.saturating_sub-more.ensures,
        old,
        left,
        size,
        c.max-self-inside.ensures,
      );
      payloads_fit = omega arith;
      ranges_fit = omega arith;
    }
