use Rattle.std.proofs.Common.{rules, ◌≡◌, true, arith, refl}
use Rattle.record_batch.proofs.RangeLemmas.{set-goes_on}
use Rattle.record_batch.proofs.readers.set_of.Goals as goal

pub loop-range-preserved : goal.loop-range-preserved
loop-range-preserved c =
    let passed : c.is_from.result ≡ true = search rules in
    set-goes_on c.args.ranges.now c.loop-range.range-index c.loop-range.first c.loop-range.set.ranges
    c.insert_range.new.self.ranges _ (record { lower = 0; upper = 0 }) c.loop-range.invariant
    (omega (arith, c.loop-range-test.true)) refl (rw c.is_from.ensures at passed) c.in_ok-insert_range.ensures.ok
