use Rattle.std.proofs.lemmas.Result.{err_from_is_err_and}
use Rattle.soap_document.specs.Profile.View.{element_view}
use Rattle.soap_writer.specs.Values.EachLaws.{each_goes_on, each_stops}
use Rattle.soap_writer.specs.Values.Outcome.{each}
use Rattle.soap_writer.specs.Values.Steps.{lent_trees}
use Rattle.wsa_headers.specs.Endpoint.{uri_of}
use Rattle.wsa_headers.proofs.read.read_addresses.Goals as goal

pub returns-in_err-read_address_of : goal.returns-in_err-read_address_of
returns-in_err-read_address_of c =
    let p = err_from_is_err_and c.from_residual.result c.from_residual.ensures.1 in
    rw (p.1, p.2) (each_stops uri_of (λ e. element_view e.now) c.loop-block.addresses c.args.blocks.now
    c.loop-block.block-index c.block-item.result c.in_err-read_address_of.field-0.0
    (each uri_of (lent_trees c.args.blocks.now)) c.loop-block-test.true c.block-item.is
    c.in_err-read_address_of.ensures c.loop-block.invariant)

pub loop-block-preserved : goal.loop-block-preserved
loop-block-preserved c =
    rw c.in_ok-push.ensures.ok (each_goes_on uri_of (λ e. element_view e.now) c.loop-block.addresses c.args.blocks.now
    c.loop-block.block-index c.block-item.result c.in_ok-read_address_of.field-0
    (each uri_of (lent_trees c.args.blocks.now)) c.loop-block-test.true c.block-item.is
    c.in_ok-read_address_of.ensures c.loop-block.invariant)
