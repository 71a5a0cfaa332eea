use Rattle.std.proofs.Common.{◌∙◌, Err, ap, refl, sym, subst}
use Rattle.std.proofs.lemmas.Result.{err_from_is_err_and}
use Rattle.rm_host.specs.Doings.{DoesAsked, commanded, unread, world_of}
use Rattle.rm_host.specs.Ends.{HasReason, faults_of}
use Rattle.rm_host.specs.Runs.{Obeys}
use Rattle.rm_host.proofs.RunLemmas.{obeys, unread as unread-words, unread-reason, within}
use Rattle.rm_host.proofs.program.obey.Goals as goal

pub returns-in_err-command-clause-does : goal.returns-in_err-command-clause-does
returns-in_err-command-clause-does g c =
    let p = err_from_is_err_and c.from_residual.result c.from_residual.ensures.1 in
    let w = world_of g.S.Source.told g.K.Sink.told g.D.Disk.told g.L.Link.told g.C.Clock.next c.args.input.now
    c.args.out.now c.args.host.now in
    subst (λ r. DoesAsked g.D.Disk.tells c.args.words.now w w r) (sym (p.1 ∙ ap Err p.2))
    (unread c.in_err-command.field-0.0 c.in_err-command.ensures refl)

pub returns-in_err-command-clause-obeys : goal.returns-in_err-command-clause-obeys
returns-in_err-command-clause-obeys g c =
    let p = err_from_is_err_and c.from_residual.result c.from_residual.ensures.1 in
    let i = g.S.Source.told c.args.input.now in
    let o = g.K.Sink.told c.args.out.now in
    subst (λ r. Obeys c.args.words.now i i o o r) (sym (p.1 ∙ ap Err p.2))
    (unread-words c.args.words.now i o c.in_err-command.field-0.0 c.in_err-command.ensures)

pub returns-in_err-command-clause-reason : goal.returns-in_err-command-clause-reason
returns-in_err-command-clause-reason g c =
    let p = err_from_is_err_and c.from_residual.result c.from_residual.ensures.1 in
    let f = faults_of g.D.Disk.told g.L.Link.told c.args.host.now in
    subst (λ r. HasReason f f r) (sym (p.1 ∙ ap Err p.2))
    (unread-reason f c.args.words.now c.in_err-command.field-0.0 c.in_err-command.ensures)

pub perform-requires : goal.perform-requires
perform-requires g c = within c.args.words.now c.in_ok-command.command c.in_ok-command.ensures.0

pub returns-clause-does : goal.returns-clause-does
returns-clause-does g c =
    commanded c.in_ok-command.command c.perform.result c.in_ok-command.ensures.0 c.in_ok-command.ensures.1
    c.perform.ensures.does c.perform.ensures.spares

pub returns-clause-obeys : goal.returns-clause-obeys
returns-clause-obeys g c =
    obeys c.args.words.now c.in_ok-command.command (g.S.Source.told c.args.input.now)
    (g.S.Source.told c.perform.new.input) (g.K.Sink.told c.args.out.now) (g.K.Sink.told c.perform.new.out)
    c.perform.result c.in_ok-command.ensures.0 c.in_ok-command.ensures.1 c.perform.ensures.uses
    c.perform.ensures.prints
