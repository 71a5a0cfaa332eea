use Rattle.std.proofs.Common.{◌∙◌, ap, Err}
use Rattle.std.proofs.lemmas.Result.{err_from_is_err_and}
use Rattle.rm_serve.proofs.PostLemmas.{take-done, take-failed, take-lost}
use Rattle.rm_serve.proofs.posting.take.Goals as goal

pub returns-in_err-outs-clause-takes : goal.returns-in_err-outs-clause-takes
returns-in_err-outs-clause-takes g c =
    let h = c.hear.ensures.reacts in
    let p = err_from_is_err_and c.from_residual.result c.from_residual.ensures.1 in (
      h.0,
      h.1,
      take-failed c.args.now c.args.bytes.now c.args.queue.now.items h.0 c.hear.result c.in_err-outs.field-0.0
          c.from_residual.result h.2 c.in_err-outs.was (p.1 ∙ ap Err p.2),
    )

pub returns-in_err-push_all-clause-takes : goal.returns-in_err-push_all-clause-takes
returns-in_err-push_all-clause-takes g c =
    let h = c.hear.ensures.reacts in
    let r = c.from_residual-in_err-push_all in
    let p = err_from_is_err_and r.result r.ensures.1 in (
      h.0,
      h.1,
      take-lost c.args.now c.args.bytes.now c.args.queue.now.items c.push_all.new.queue.items h.0 c.hear.result
          c.in_ok-outs.field-0 r.result h.2 c.in_ok-outs.was (p.1 ∙ ap Err p.2),
    )

pub returns-clause-takes : goal.returns-clause-takes
returns-clause-takes g c =
    let h = c.hear.ensures.reacts in (
      h.0,
      h.1,
      take-done c.args.now c.args.bytes.now c.args.queue.now.items c.push_all.new.queue.items h.0 c.hear.result
          c.in_ok-outs.field-0 h.2 c.in_ok-outs.was c.in_ok-push_all.ensures,
    )
