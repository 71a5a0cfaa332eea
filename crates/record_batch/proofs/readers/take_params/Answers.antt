use Rattle.std.proofs.lemmas.Result.{err_from_is_err_and}
use Rattle.soap_document.specs.Profile.View.{element_view}
use Rattle.record_batch.specs.Parts.{param}
use Rattle.record_batch.proofs.Loops.{goes_on, ends, is_done}
use Rattle.record_batch.proofs.readers.take_params.Goals as goal

pub returns-in_err-param : goal.returns-in_err-param
returns-in_err-param c =
    let p = err_from_is_err_and c.from_residual.result c.from_residual.ensures.1 in
    rw (p.1, p.2) (ends c.in_err-param.field-0.0 param c.loop.params c.args.count c.loop.counter c.loop.rest.now _
    c.loop-test.true c.in_err-param.ensures c.loop.invariant)

pub loop-preserved : goal.loop-preserved
loop-preserved c =
    rw c.in_ok-push.ensures.ok (goes_on param c.loop.params c.args.count c.loop.counter c.loop.rest.now
    (element_view c.in_ok-param.param)
    c.in_ok-param.behind.now _ c.loop-test.true c.in_ok-param.ensures c.loop.invariant)

pub returns : goal.returns
returns c = is_done param c.loop.params c.args.count c.loop.counter c.loop.rest.now _ c.loop-test.false c.loop.invariant
