use Rattle.std.proofs.Common.{ap, refl}
use Rattle.std.proofs.lemmas.Result.{err_from_is_err_and}
use Rattle.rm_disk.specs.Journal.JournalState.{end_of}
use Rattle.rm_node.specs.Asked.{Close}
use Rattle.rm_node.specs.Ends.{outs_end}
use Rattle.rm_node.proofs.ComesLemmas.{close-done}
use Rattle.rm_node.proofs.StepLemmas.{failed, plain}
use Rattle.rm_node.proofs.node.Node.close.Goals as goal

pub returns-in_err-reaction : goal.returns-in_err-reaction
returns-in_err-reaction g c =
    let p = err_from_is_err_and c.from_residual.result c.from_residual.ensures.1 in
    failed _ _ _ c.args.self.now _ _ _ _ _ _ (ap outs_end p.1) p.2 c.in_err-reaction.ensures

pub returns : goal.returns
returns g c =
    let s = c.args.self.now.stored in
    plain _ _ _ c.args.self.now _ _ _ (Close c.args.seq) c.in_ok-reaction.reaction
    c.there_are_own_terms.ensures refl refl
    (λ terms kept. close-done terms s.records (end_of s.journal) c.args.seq c.args.now)
    c.in_ok-reaction.ensures
