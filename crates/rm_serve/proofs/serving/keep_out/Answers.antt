use Rattle.std.proofs.Common.{◌∙◌, Err, ap}
use Rattle.std.proofs.lemmas.Result.{err_from_is_err_and}
use Rattle.rm_serve.proofs.ServeLemmas.{keep-done, keep-lost, keep-not}
use Rattle.rm_serve.proofs.serving.keep_out.Goals as goal

pub returns-in_err-reply-clause-keeps : goal.returns-in_err-reply-clause-keeps
returns-in_err-reply-clause-keeps g c =
    let p = err_from_is_err_and c.from_residual.result c.from_residual.ensures.1 in
    keep-not c.args.media (g.C.Source.told c.args.conn.now) c.args.refusal.now c.from_residual.result
    (p.1 ∙ ap Err p.2)

pub returns-in_err-finish-clause-keeps : goal.returns-in_err-finish-clause-keeps
returns-in_err-finish-clause-keeps g c =
    let talk = g.C.Source.told in
    let r = c.from_residual-in_err-finish in
    let p = err_from_is_err_and r.result r.ensures.1 in
    keep-lost c.args.media (talk c.args.conn.now) (talk c.write_reply.new.conn) c.args.refusal.now c.in_ok-reply.reply
    c.in_err-finish.field-0.0 r.result c.in_ok-reply.ensures.is c.in_err-finish.ensures.puts (p.1 ∙ ap Err p.2)

pub returns-clause-keeps : goal.returns-clause-keeps
returns-clause-keeps g c =
    let talk = g.C.Source.told in
    keep-done c.args.media (talk c.args.conn.now) (talk c.write_reply.new.conn) c.args.refusal.now c.in_ok-reply.reply
    c.in_ok-finish.finish c.new.result c.in_ok-reply.ensures.is c.new.ensures c.in_ok-finish.ensures.puts
