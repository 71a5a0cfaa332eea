use Rattle.std.proofs.Common.{◌∙◌, [], Err, ap, refl, sym, subst}
use Rattle.std.specs.Prelude.{Result}
use Rattle.std.proofs.lemmas.Result.{err_from_is_err_and}
use Rattle.rm_node.specs.declared.error.NodeError.{NodeError}
use Rattle.rm_serve.specs.Serves.{Admitting, given, kept_out, unread}
use Rattle.rm_serve.specs.Steps.{place_of}
use Rattle.rm_serve.specs.Versions.{Enters}
use Rattle.rm_serve.specs.declared.serving.Served.{Served}
use Rattle.rm_serve.specs.declared.version.Entry.{Entry}
use Rattle.rm_serve.proofs.ServeLemmas.{keep-awake, keep-cause}
use Rattle.rm_serve.proofs.StepLemmas.{no-step}
use Rattle.rm_serve.proofs.serving.admit.Goals as goal

pub returns-in_err-bytes-clause-admits : goal.returns-in_err-bytes-clause-admits
returns-in_err-bytes-clause-admits g c =
    let talk = g.C.Source.told in
    let p = err_from_is_err_and c.from_residual.result c.from_residual.ensures.1 in
    let x = place_of (g.D.Disk.told c.args.disk.now) c.args.node.now in (
      [],
      no-step g.D.Disk.tells x x (record { node = refl; told = λ t. refl }),
      subst (λ (r : Result Served NodeError). Admitting c.args.media c.args.now (talk c.args.conn.now)
          (talk c.args.conn.now) c.args.body [] r) (sym (p.1 ∙ ap Err p.2)) (unread refl),
    )

pub returns-in-Admitted-clause-admits : goal.returns-in-Admitted-clause-admits
returns-in-Admitted-clause-admits g c =
    let a = c.answer.ensures.answers in (
      a.0,
      a.1,
      given c.in-Admitted.bytes a.0 c.answer.result
          (subst (λ (e : Entry). Enters c.args.media c.args.body e) c.in-Admitted.is c.in_ok-bytes.ensures) a.2,
    )

pub returns-in-KeptOut-clause-admits : goal.returns-in-KeptOut-clause-admits
returns-in-KeptOut-clause-admits g c =
    let x = place_of (g.D.Disk.told c.args.disk.now) c.args.node.now in (
      [],
      no-step g.D.Disk.tells x x (record { node = refl; told = λ t. refl }),
      kept_out c.in-KeptOut.refusal c.keep_out.result
          (subst (λ (e : Entry). Enters c.args.media c.args.body e) c.in-KeptOut.is c.in_ok-bytes.ensures)
          c.keep_out.ensures.keeps,
    )

pub returns-in-KeptOut-clause-down : goal.returns-in-KeptOut-clause-down
returns-in-KeptOut-clause-down g c = λ e.
    let talk = g.C.Source.told in
    absurd (keep-awake c.args.media (talk c.args.conn.now) (talk c.keep_out.new.conn) c.in-KeptOut.refusal
    c.keep_out.result c.keep_out.ensures.keeps e)

pub returns-in-KeptOut-clause-cause : goal.returns-in-KeptOut-clause-cause
returns-in-KeptOut-clause-cause g c =
    let talk = g.C.Source.told in
    keep-cause c.args.media (talk c.args.conn.now) (talk c.keep_out.new.conn) c.in-KeptOut.refusal c.keep_out.result _
    c.keep_out.ensures.keeps
