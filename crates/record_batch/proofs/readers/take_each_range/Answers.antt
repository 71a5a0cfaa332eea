use Rattle.std.proofs.lemmas.Result.{err_from_is_err_and}
use Rattle.record_batch.specs.Parts.{range}
use Rattle.record_batch.proofs.Loops.{goes_on, ends, is_done}
use Rattle.record_batch.proofs.readers.take_each_range.Goals as goal

pub returns-in_err-range : goal.returns-in_err-range
returns-in_err-range c =
    let p = err_from_is_err_and c.from_residual.result c.from_residual.ensures.1 in
    rw (p.1, p.2) (ends c.in_err-range.field-0.0 range c.loop.ranges c.args.count c.loop.counter c.loop.rest.now _
    c.loop-test.true c.in_err-range.ensures c.loop.invariant)

pub loop-preserved : goal.loop-preserved
loop-preserved c =
    rw c.in_ok-push.ensures.ok (goes_on range c.loop.ranges c.args.count c.loop.counter c.loop.rest.now
    c.in_ok-range.range
    c.in_ok-range.behind.now _ c.loop-test.true c.in_ok-range.ensures c.loop.invariant)

pub returns : goal.returns
returns c = is_done range c.loop.ranges c.args.count c.loop.counter c.loop.rest.now _ c.loop-test.false c.loop.invariant
