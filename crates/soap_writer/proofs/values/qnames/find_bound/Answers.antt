use Rattle.std.proofs.Common.{◌≡◌, sym}
use Rattle.soap_document.specs.Profile.Namespaces.{bound}
use Rattle.soap_writer.specs.Values.QNames.{within}
use Rattle.soap_writer.specs.Values.Steps.{lent_trees}
use Rattle.soap_writer.proofs.ValuesLemmas.BoundLemmas.{bound_at, bound_past}
use Rattle.soap_writer.proofs.values.qnames.find_bound.Goals as goal

pub returns-in-Some : goal.returns-in-Some
returns-in-Some c =
    bound_at c.args.prefix.now c.in-Some.space.now c.args.outer.now c.args.elements.now c.loop-element.element-index
    c.element-item.result (bound c.args.prefix.now (within (lent_trees c.args.elements.now) c.args.outer.now))
    c.loop-element-test.true c.element-item.is (rw (← c.as_slice.ensures.value) (sym c.in-Some.ensures))
    c.loop-element.invariant

pub loop-element-preserved : goal.loop-element-preserved
loop-element-preserved c =
    bound_past c.args.prefix.now c.args.outer.now c.args.elements.now c.loop-element.element-index
    c.element-item.result (bound c.args.prefix.now (within (lent_trees c.args.elements.now) c.args.outer.now))
    c.loop-element-test.true c.element-item.is (rw (← c.as_slice.ensures.value) (sym c.in_default.ensures))
    c.loop-element.invariant
