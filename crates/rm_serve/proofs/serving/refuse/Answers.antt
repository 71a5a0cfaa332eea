use Rattle.std.proofs.Common.{◌∙◌, Err, ap, sym}
use Rattle.std.proofs.lemmas.Result.{err_from_is_err_and}
use Rattle.rm_serve.proofs.ServeLemmas.{refuse-done, refuse-lost, refuse-not}
use Rattle.rm_serve.proofs.serving.refuse.Goals as goal

pub returns-then-is_want-clause-refuses : goal.returns-then-is_want-clause-refuses
returns-then-is_want-clause-refuses g c = refuse-not c.args.media (g.C.Source.told c.args.conn.now) c.args.error

pub returns-in_err-say-clause-refuses : goal.returns-in_err-say-clause-refuses
returns-in_err-say-clause-refuses g c =
    let talk = g.C.Source.told in
    let r = c.from_residual in
    let p = err_from_is_err_and r.result r.ensures.1 in
    refuse-lost c.args.media (talk c.args.conn.now) (talk c.say.new.conn) c.args.error c.in_err-say.field-0.0 r.result
    c.in_err-say.ensures.puts (p.1 ∙ ap Err p.2)

pub returns-clause-refuses : goal.returns-clause-refuses
returns-clause-refuses g c =
    let talk = g.C.Source.told in
    refuse-done c.args.media (talk c.args.conn.now) (talk c.say.new.conn) c.args.error c.in_ok-say.field-0 c.new.result
    (sym c.is_want.ensures ∙ c.if-is_want.false) c.in_ok-say.ensures.puts c.new.ensures
