use Rattle.std.proofs.Common.{◌+◌, ◌∙◌, ap, drop, sym}
use Rattle.std.proofs.Math.ListN.{drop_of_length-le}
use Rattle.soap_document.specs.Profile.View.{parts_view}
use Rattle.rm_policy.specs.Alternatives.Reading.{policies_in}
use Rattle.rm_policy.specs.Alternatives.Tree.{policies_view}
use Rattle.rm_policy.proofs.AlternativesLemmas.ReadLemmas.{behind, behind_all, behind_put, in_front, policies_from}
use Rattle.rm_policy.proofs.alternatives.tree.+reading.Goals as goal

pub read_each-loop-item-preserved : goal.read_each-loop-item-preserved
read_each-loop-item-preserved t c =
    let ps = c.loop-item.policies.items in
    let rest = policies_in (parts_view (drop (c.loop-item.item-index + 1) c.args.items.now)) in
    ap (λ l. behind (policies_view l) rest) c.in_ok-put.ensures
    ∙ behind_put c.in_ok-found.found ps rest
    ∙ ap (behind (policies_view ps)) (sym (policies_from c.args.items.now c.loop-item.item-index c.item-item.result
    c.loop-item-test.true c.item-item.is ∙ ap (λ f. in_front f rest) c.in_ok-found.ensures))
    ∙ c.loop-item.invariant

pub read_each-returns : goal.read_each-returns
read_each-returns t c =
    sym c.loop-item.invariant
    ∙ ap (λ l. behind (policies_view c.loop-item.policies.items) (policies_in (parts_view l)))
    (drop_of_length-le c.args.items.now c.loop-item-test.false)
    ∙ behind_all (policies_view c.loop-item.policies.items)
