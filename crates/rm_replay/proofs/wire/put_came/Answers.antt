use Rattle.std.proofs.Common.{◌∙◌, List, ℕ, sym, ap, subst}
use Rattle.std.proofs.lemmas.Result.{err_from_is_err_and}
use Rattle.rm_node.specs.Packets.{reply_packet}
use Rattle.rm_node.specs.declared.packets.Out.{Out}
use Rattle.rm_replay.specs.Actor.Outcomes.{packets_in}
use Rattle.rm_replay.specs.Happening.{IsPutInPart, with_all}
use Rattle.rm_replay.proofs.PutLemmas.{put_behind, put_none, with_all_append}
use Rattle.rm_replay.proofs.wire.put_came.Goals as goal

pub returns-in_err-put_reply-clause-err : goal.returns-in_err-put_reply-clause-err
returns-in_err-put_reply-clause-err g c =
    let p = err_from_is_err_and c.from_residual.result c.from_residual.ensures.1 in
    rw p.1 (put_none (g.W.Wire.packets c.args.wire.now) c.args.to (packets_in c.args.came)
    (g.W.Wire.packets c.put_reply.new.wire) c.in_err-put_reply.ensures.err)

pub returns-in_err-put_all-clause-err : goal.returns-in_err-put_all-clause-err
returns-in_err-put_all-clause-err g c =
    let p = err_from_is_err_and c.from_residual-in_err-put_all.result c.from_residual-in_err-put_all.ensures.1 in
    let part = subst (λ (outs : List Out). IsPutInPart (g.W.Wire.packets c.put_reply.new.wire) c.args.to outs
    (g.W.Wire.packets c.put_all.new.wire)) c.as_slice.ensures c.in_err-put_all.ensures.err in
    rw p.1 (put_behind (g.W.Wire.packets c.args.wire.now) (g.W.Wire.packets c.put_reply.new.wire)
    (g.W.Wire.packets c.put_all.new.wire) c.args.to (reply_packet c.args.came.reply) c.args.came.outs
    c.in_ok-put_reply.ensures.ok part)

pub returns-clause-ok : goal.returns-clause-ok
returns-clause-ok g c =
    let reply = reply_packet c.args.came.reply in
    c.in_ok-put_all.ensures.ok
    ∙ ap (λ (outs : List Out). with_all (g.W.Wire.packets c.put_reply.new.wire) c.args.to outs) c.as_slice.ensures
    ∙ ap (λ (packets : List (ℕ × List ℕ)). with_all packets c.args.to c.args.came.outs) c.in_ok-put_reply.ensures.ok
    ∙ sym (with_all_append (g.W.Wire.packets c.args.wire.now) c.args.to reply c.args.came.outs)
