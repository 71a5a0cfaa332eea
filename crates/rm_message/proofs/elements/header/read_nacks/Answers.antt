use Rattle.std.proofs.lemmas.Result.{err_from_is_err_and}
use Rattle.soap_document.specs.Profile.View.{element_view}
use Rattle.soap_writer.specs.Values.EachLaws.{each_goes_on, each_stops}
use Rattle.soap_writer.specs.Values.Outcome.{each}
use Rattle.soap_writer.specs.Values.Steps.{lent_trees}
use Rattle.rm_message.specs.Elements.Headers.{number_of}
use Rattle.rm_message.proofs.elements.header.read_nacks.Goals as goal

pub returns-in_err-number_within : goal.returns-in_err-number_within
returns-in_err-number_within c =
    let p = err_from_is_err_and c.from_residual.result c.from_residual.ensures.1 in
    rw (p.1, p.2) (each_stops number_of (λ e. element_view e.now) c.loop-element.numbers c.args.elements.now
    c.loop-element.element-index c.element-item.result c.in_err-number_within.field-0.0
    (each number_of (lent_trees c.args.elements.now)) c.loop-element-test.true c.element-item.is
    c.in_err-number_within.ensures c.loop-element.invariant)

pub loop-element-preserved : goal.loop-element-preserved
loop-element-preserved c =
    rw c.in_ok-push.ensures.ok (each_goes_on number_of (λ e. element_view e.now) c.loop-element.numbers
    c.args.elements.now c.loop-element.element-index c.element-item.result c.in_ok-number_within.field-0
    (each number_of (lent_trees c.args.elements.now)) c.loop-element-test.true c.element-item.is
    c.in_ok-number_within.ensures c.loop-element.invariant)
