use Rattle.std.proofs.Common.{List, length, ap, refl, arith}
use Rattle.std.proofs.lemmas.Result.{err_from_is_err_and}
use Rattle.record_batch.specs.Fact.{Fact}
use Rattle.record_batch.specs.Sequences.Makers.{makers}
use Rattle.node_laws.specs.Answers.Answers.{wish_seen}
use Rattle.rm_disk.specs.Journal.JournalState.{end_of}
use Rattle.rm_node.specs.Asked.{Create}
use Rattle.rm_node.specs.Ends.{made_end}
use Rattle.rm_node.proofs.ComesLemmas.{create-done, create-few}
use Rattle.rm_node.proofs.StepLemmas.{failed, plain, some_terms, was_taken}
use Rattle.rm_node.proofs.node.Node.create.Goals as goal

pub step-requires-clause-may : goal.step-requires-clause-may
step-requires-clause-may g c =
    record { to = c.as_slice-to.ensures.is_text; expires = c.requires.lapse }

pub returns-in_err-reaction-clause-steps : goal.returns-in_err-reaction-clause-steps
returns-in_err-reaction-clause-steps g c =
    let p = err_from_is_err_and c.from_residual.result c.from_residual.ensures.1 in
    failed _ _ _ c.args.self.now _ _ _ _ _ _ (ap made_end p.1) p.2 c.in_err-reaction.ensures

pub returns-clause-steps : goal.returns-clause-steps
returns-clause-steps g c =
    let s = c.args.self.now.stored in
    plain _ _ _ c.args.self.now _ _ _ (Create (wish_seen c.args.wish)) c.in_ok-reaction.reaction
    c.there_are_own_terms.ensures refl refl
    (λ terms kept. create-done terms s.records (end_of s.journal) (wish_seen c.args.wish)) c.in_ok-reaction.ensures

pub returns-clause-seq : goal.returns-clause-seq
returns-clause-seq g c =
    let own = some_terms c.there_are_own_terms.ensures in
    let steps = c.in_ok-reaction.ensures in
    let s = c.args.self.now.stored in
    let taken = was_taken _ _ _ _ c.args.self.now _ _ _ _ _
    (steps.does own.0 own.1 steps.runs.keeping.0 steps.runs.keeping.1 (Create (wish_seen c.args.wish)) refl) in
    let few = create-few own.0 s.records (end_of s.journal) (wish_seen c.args.wish) _ refl taken in
    let same = ap (λ (r : List Fact). length (makers r)) c.tables.ensures in
    omega (arith, few, same, c.len.ensures.count, c.saturating_add-seq.ensures)
