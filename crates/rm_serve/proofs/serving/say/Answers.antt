use Rattle.std.proofs.lemmas.Result.{err_from_is_err_and}
use Rattle.rm_answer.specs.Replies.{refusal_to}
use Rattle.rm_serve.specs.Serves.{reply_text}
use Rattle.rm_serve.proofs.ServeLemmas.{say-not}
use Rattle.rm_serve.proofs.serving.say.Goals as goal

pub returns-in_err-reply-clause-puts : goal.returns-in_err-reply-clause-puts
returns-in_err-reply-clause-puts g c =
    let p = err_from_is_err_and c.from_residual.result c.from_residual.ensures.1 in
    say-not (g.C.Source.told c.args.conn.now)
    (reply_text c.args.media (refusal_to c.args.media c.args.error)) c.from_residual.result p.0 p.1
