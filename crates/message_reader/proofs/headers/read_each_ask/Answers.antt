use Rattle.std.proofs.Common.{◌≡◌}
use Rattle.std.proofs.lemmas.Result.{err_from_is_err_and}
use Rattle.soap_document.specs.Profile.View.{element_view}
use Rattle.soap_writer.specs.Values.EachLaws.{each_goes_on, each_stops}
use Rattle.soap_writer.specs.Values.Outcome.{each}
use Rattle.soap_writer.specs.Values.Steps.{lent_trees}
use Rattle.message_reader.specs.Headers.{ask_of}
use Rattle.message_reader.proofs.headers.read_each_ask.Goals as goal

pub returns-in_err-read_ask : goal.returns-in_err-read_ask
returns-in_err-read_ask c =
    let p = err_from_is_err_and c.from_residual.result c.from_residual.ensures.1 in
    rw (p.1, p.2) (each_stops ask_of (λ e. element_view e.now) c.loop-block.asks c.args.found.now
    c.loop-block.block-index c.block-item.result c.in_err-read_ask.field-0.0
    (each ask_of (lent_trees c.args.found.now)) c.loop-block-test.true c.block-item.is
    c.in_err-read_ask.ensures c.loop-block.invariant)

pub loop-block-preserved : goal.loop-block-preserved
loop-block-preserved c =
    rw c.in_ok-push.ensures.ok (each_goes_on ask_of (λ e. element_view e.now) c.loop-block.asks c.args.found.now
    c.loop-block.block-index c.block-item.result c.in_ok-read_ask.field-0
    (each ask_of (lent_trees c.args.found.now)) c.loop-block-test.true c.block-item.is
    c.in_ok-read_ask.ensures c.loop-block.invariant)
