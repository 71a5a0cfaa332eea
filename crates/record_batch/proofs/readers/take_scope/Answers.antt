use Rattle.std.proofs.lemmas.Result.{err_from_is_err_and}
use Rattle.record_batch.specs.Parts.{binding}
use Rattle.record_batch.proofs.Loops.{goes_on, ends, is_done}
use Rattle.record_batch.proofs.readers.take_scope.Goals as goal

pub returns-in_err-binding : goal.returns-in_err-binding
returns-in_err-binding c =
    let p = err_from_is_err_and c.from_residual.result c.from_residual.ensures.1 in
    rw (p.1, p.2) (ends c.in_err-binding.field-0.0 binding c.loop.scope c.args.count c.loop.counter c.loop.rest.now _
    c.loop-test.true c.in_err-binding.ensures c.loop.invariant)

pub loop-preserved : goal.loop-preserved
loop-preserved c =
    rw c.in_ok-push.ensures.ok (goes_on binding c.loop.scope c.args.count c.loop.counter c.loop.rest.now
    c.in_ok-binding.binding
    c.in_ok-binding.behind.now _ c.loop-test.true c.in_ok-binding.ensures c.loop.invariant)

pub returns : goal.returns
returns c = is_done binding c.loop.scope c.args.count c.loop.counter c.loop.rest.now _ c.loop-test.false
    c.loop.invariant
