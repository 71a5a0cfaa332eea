use Rattle.std.proofs.Common.{◌≡◌, ◌<◌, ◌≤◌, ◌∙◌, ℕ, length, take, sym, ap, subst, arith}
use Rattle.rm_base.specs.Message.{max_number}
use Rattle.rm_base.specs.declared.message.Payload.{Payload}
use Rattle.rm_sides.specs.Ranges.Changes.{with_range}
use Rattle.rm_sides.proofs.DestinationLemmas.ForgetLemmas.{has-at, numbers-next}
use Rattle.rm_sides.proofs.destination.incoming.put_first.Goals as goal

pub insert-requires-clause-from_one : goal.insert-requires-clause-from_one
insert-requires-clause-from_one c =
    let lt : c.loop-at.at < length c.args.came.now = omega (arith, c.loop-at-test.true, c.requires.within) in
    subst (λ (m : ℕ × Payload). 0 < m.0) c.index-came-at.is
    (c.requires.numbers c.index-came-at.result.0 (has-at c.args.came.now c.loop-at.at c.index-came-at.result lt
    c.index-came-at.is)).0

pub insert-requires-clause-within : goal.insert-requires-clause-within
insert-requires-clause-within c =
    let lt : c.loop-at.at < length c.args.came.now = omega (arith, c.loop-at-test.true, c.requires.within) in
    subst (λ (m : ℕ × Payload). m.0 ≤ max_number) c.index-came-at.is
    (c.requires.numbers c.index-came-at.result.0 (has-at c.args.came.now c.loop-at.at c.index-came-at.result lt
    c.index-came-at.is)).1

pub loop-at-preserved : goal.loop-at-preserved
loop-at-preserved c =
    let came = c.args.came.now in
    let at = c.loop-at.at in
    let m = c.index-came-at.result in
    let lt : at < length came = omega (arith, c.loop-at-test.true, c.requires.within) in
    record {
      put =
          subst (λ (x : ℕ × Payload). c.insert.new.self.ranges ≡ with_range c.loop-at.purged.ranges x.0 x.0)
          (sym c.index-came-at.is) c.in-Ok.ensures.ok
          ∙ ap (λ rs. with_range rs m.0 m.0) c.loop-at.invariant.put
          ∙ sym (numbers-next came at m c.args.purged.now.ranges lt c.index-came-at.is);
      spare = omega (arith, c.insert.ensures.spare, c.loop-at.invariant.spare);
    }
