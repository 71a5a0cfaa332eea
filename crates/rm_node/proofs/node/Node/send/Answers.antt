use Rattle.std.proofs.Common.{◌≡◌, ◌+◌, List, true, ap, refl, subst, sym, ◌∙◌}
use Rattle.std.proofs.lemmas.Result.{err_from_is_err_and}
use Rattle.record_batch.specs.Fact.{Fact}
use Rattle.record_batch.specs.Sequences.Fits.{is_outgoing_side}
use Rattle.record_batch.specs.Sequences.Makers.{maker}
use Rattle.record_batch.specs.Sequences.Sources.{accepted_count}
use Rattle.rm_disk.specs.Journal.JournalState.{end_of}
use Rattle.rm_node.specs.Asked.{Send}
use Rattle.rm_node.specs.Ends.{sent_end}
use Rattle.rm_node.proofs.ComesLemmas.{send-done, send-side}
use Rattle.rm_node.proofs.StepLemmas.{failed, plain, some_terms, was_taken}
use Rattle.rm_node.proofs.node.Node.send.Goals as goal

pub returns-in_err-reaction-clause-steps : goal.returns-in_err-reaction-clause-steps
returns-in_err-reaction-clause-steps g c =
    let p = err_from_is_err_and c.from_residual.result c.from_residual.ensures.1 in
    failed _ _ _ c.args.self.now _ _ _ _ _ _ (ap sent_end p.1) p.2 c.in_err-reaction.ensures

pub returns-clause-steps : goal.returns-clause-steps
returns-clause-steps g c =
    let s = c.args.self.now.stored in
    plain _ _ _ c.args.self.now _ _ _ (Send c.args.seq c.args.payload) c.in_ok-reaction.reaction
    c.there_are_own_terms.ensures refl refl
    (λ terms kept. send-done terms s.records (end_of s.journal) c.args.seq c.args.payload) c.in_ok-reaction.ensures

pub returns-clause-number : goal.returns-clause-number
returns-clause-number g c =
    let own = some_terms c.there_are_own_terms.ensures in
    let steps = c.in_ok-reaction.ensures in
    let s = c.args.self.now.stored in
    let taken = was_taken _ _ _ _ c.args.self.now _ _ _ _ _
    (steps.does own.0 own.1 steps.runs.keeping.0 steps.runs.keeping.1 (Send c.args.seq c.args.payload) refl) in
    let side = send-side own.0 s.records (end_of s.journal) c.args.seq c.args.payload _ refl taken in
    c.next_number-number.ensures
    (subst (λ (r : List Fact). is_outgoing_side (maker r c.args.seq) ≡ true) (sym c.tables.ensures) side)
    ∙ ap (λ (r : List Fact). accepted_count r c.args.seq + 1) c.tables.ensures
