use Rattle.std.proofs.Common.{ap, refl}
use Rattle.std.proofs.lemmas.Result.{err_from_is_err_and}
use Rattle.rm_disk.specs.Journal.JournalState.{end_of}
use Rattle.rm_node.specs.Asked.{Consume}
use Rattle.rm_node.specs.Ends.{done_end}
use Rattle.rm_node.proofs.ComesLemmas.{consume-done, consume-says}
use Rattle.rm_node.proofs.StepLemmas.{failed, silent}
use Rattle.rm_node.proofs.node.Node.consume.Goals as goal

pub returns-in_err-reaction : goal.returns-in_err-reaction
returns-in_err-reaction g c =
    let p = err_from_is_err_and c.from_residual.result c.from_residual.ensures.1 in
    failed _ _ _ c.args.self.now _ _ _ _ _ _ (ap done_end p.1) p.2 c.in_err-reaction.ensures

pub returns : goal.returns
returns g c =
    let s = c.args.self.now.stored in
    silent _ _ _ c.args.self.now _ _ _ (Consume c.args.seq c.args.upto) c.in_ok-reaction.reaction
    c.there_are_own_terms.ensures refl refl
    (λ terms kept. consume-done terms s.records (end_of s.journal) c.args.seq c.args.upto)
    (λ terms kept. consume-says terms s.records (end_of s.journal) c.args.seq c.args.upto)
    c.in_ok-reaction.ensures
