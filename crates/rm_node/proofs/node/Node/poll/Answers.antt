use Rattle.std.proofs.Common.{ap, refl}
use Rattle.std.proofs.lemmas.Result.{err_from_is_err_and}
use Rattle.rm_node.specs.Asked.{Poll}
use Rattle.rm_node.specs.Ends.{outs_end}
use Rattle.rm_node.proofs.ComesLemmas.{poll-done}
use Rattle.rm_node.proofs.StepLemmas.{failed, plain}
use Rattle.rm_node.proofs.node.Node.poll.Goals as goal

pub step-requires-clause-may : goal.step-requires-clause-may
step-requires-clause-may g c = c.as_slice-to.ensures.is_text

pub returns-in_err-reaction : goal.returns-in_err-reaction
returns-in_err-reaction g c =
    let p = err_from_is_err_and c.from_residual.result c.from_residual.ensures.1 in
    failed _ _ _ c.args.self.now _ _ _ _ _ _ (ap outs_end p.1) p.2 c.in_err-reaction.ensures

pub returns : goal.returns
returns g c =
    let s = c.args.self.now.stored in
    plain _ _ _ c.args.self.now _ _ _ (Poll c.args.to) c.in_ok-reaction.reaction
    c.there_are_own_terms.ensures refl refl
    (λ terms kept. poll-done s.records c.args.to)
    c.in_ok-reaction.ensures
