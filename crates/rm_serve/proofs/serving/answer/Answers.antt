use Rattle.std.proofs.Common.{◌∙◌, ap, Err}
use Rattle.std.proofs.lemmas.Result.{err_from_is_err_and}
use Rattle.rm_serve.proofs.ServeLemmas.{answer-done, answer-failed, answer-lost, answer-untold}
use Rattle.rm_serve.proofs.serving.answer.Goals as goal

pub returns-in_err-verdict-clause-answers : goal.returns-in_err-verdict-clause-answers
returns-in_err-verdict-clause-answers g c =
    let talk = g.C.Source.told in
    let h = c.hear.ensures.reacts in
    let p = err_from_is_err_and c.from_residual.result c.from_residual.ensures.1 in (
      h.0,
      h.1,
      answer-failed c.args.media c.args.now _ c.args.body (talk c.args.conn.now) h.0 c.hear.result
          c.in_err-verdict.field-0.0
          c.from_residual.result h.2 c.as_slice.ensures c.in_err-verdict.was (p.1 ∙ ap Err p.2),
    )

pub returns-in_err-told-clause-answers : goal.returns-in_err-told-clause-answers
returns-in_err-told-clause-answers g c =
    let talk = g.C.Source.told in
    let h = c.hear.ensures.reacts in
    let r = c.from_residual-in_err-told in
    let p = err_from_is_err_and r.result r.ensures.1 in (
      h.0,
      h.1,
      answer-untold c.args.media c.args.now _ c.args.body (talk c.args.conn.now) h.0 c.hear.result
          c.in_ok-verdict.field-0 r.result h.2 c.as_slice.ensures c.in_ok-verdict.was (p.1 ∙ ap Err p.2),
    )

pub returns-in_err-finish-clause-answers : goal.returns-in_err-finish-clause-answers
returns-in_err-finish-clause-answers g c =
    let talk = g.C.Source.told in
    let h = c.hear.ensures.reacts in
    let r = c.from_residual-in_err-finish in
    let p = err_from_is_err_and r.result r.ensures.1 in (
      h.0,
      h.1,
      answer-lost c.args.media c.args.now _ c.args.body (talk c.args.conn.now) (talk c.write_reply.new.conn) h.0
          c.hear.result c.in_ok-verdict.field-0 c.in_ok-told.told c.reply_to-reply.result c.in_err-finish.field-0.0
          r.result h.2 c.as_slice.ensures c.in_ok-verdict.was c.in_ok-told.ensures c.reply_to-reply.ensures.is
          c.in_err-finish.ensures.puts (p.1 ∙ ap Err p.2),
    )

pub returns-clause-answers : goal.returns-clause-answers
returns-clause-answers g c =
    let talk = g.C.Source.told in
    let h = c.hear.ensures.reacts in (
      h.0,
      h.1,
      answer-done c.args.media c.args.now _ c.args.body (talk c.args.conn.now) (talk c.write_reply.new.conn) h.0
          c.hear.result c.in_ok-verdict.field-0 c.in_ok-told.told c.reply_to-reply.result c.in_ok-finish.finish h.2
          c.as_slice.ensures c.in_ok-verdict.was c.in_ok-told.ensures c.reply_to-reply.ensures.is
          c.in_ok-finish.ensures.puts,
    )
