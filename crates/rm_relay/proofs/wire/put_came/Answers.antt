use Rattle.std.proofs.Common.{◌∙◌, ◌++◌, List, map, sym, ap, subst}
use Rattle.std.proofs.lemmas.List.{map-append}
use Rattle.std.proofs.lemmas.Result.{err_from_is_err_and}
use Rattle.rm_node.specs.Packets.{reply_packet}
use Rattle.rm_node.specs.declared.packets.Out.{Out}
use Rattle.rm_relay.specs.Putting.{Going, IsPutInPart, Net, going_of, goings_of, net_of, with_all}
use Rattle.rm_relay.proofs.PutLemmas.{put_behind, put_none, with_all_append}
use Rattle.rm_relay.proofs.wire.put_came.Goals as goal

pub returns-in_err-put_reply-clause-err : goal.returns-in_err-put_reply-clause-err
returns-in_err-put_reply-clause-err g c =
    let p = err_from_is_err_and c.from_residual.result c.from_residual.ensures.1 in
    rw p.1 (put_none (net_of g.W.Wire.packets c.args.wire.now c.args.senders.now.items)
    (net_of g.W.Wire.packets c.put_reply.new.wire c.put_reply.new.senders.items) c.args.from
    (goings_of c.args.back c.args.came) c.in_err-put_reply.ensures.err)

pub returns-in_err-put_all-clause-err : goal.returns-in_err-put_all-clause-err
returns-in_err-put_all-clause-err g c =
    let p = err_from_is_err_and c.from_residual-in_err-put_all.result c.from_residual-in_err-put_all.ensures.1 in
    let go = going_of c.args.back in
    let reply = reply_packet c.args.came.reply in
    let first = net_of g.W.Wire.packets c.args.wire.now c.args.senders.now.items in
    let mid = net_of g.W.Wire.packets c.put_reply.new.wire c.put_reply.new.senders.items in
    let new = net_of g.W.Wire.packets c.put_all.new.wire c.put_all.new.senders.items in
    let part = subst (λ (outs : List Out). IsPutInPart mid c.args.from (map go outs) new) c.as_slice.ensures
    c.in_err-put_all.ensures.err in
    rw p.1 (subst (λ (goings : List Going). IsPutInPart first c.args.from goings new)
    (sym (map-append go reply c.args.came.outs))
    (put_behind first mid new c.args.from (map go reply) (map go c.args.came.outs) c.in_ok-put_reply.ensures.ok
    part))

pub returns-clause-ok : goal.returns-clause-ok
returns-clause-ok g c =
    let go = going_of c.args.back in
    let reply = reply_packet c.args.came.reply in
    let first = net_of g.W.Wire.packets c.args.wire.now c.args.senders.now.items in
    let mid = net_of g.W.Wire.packets c.put_reply.new.wire c.put_reply.new.senders.items in
    c.in_ok-put_all.ensures.ok
    ∙ ap (λ (outs : List Out). with_all mid c.args.from (map go outs)) c.as_slice.ensures
    ∙ ap (λ (n : Net). with_all n c.args.from (map go c.args.came.outs)) c.in_ok-put_reply.ensures.ok
    ∙ sym (with_all_append first c.args.from (map go reply) (map go c.args.came.outs))
    ∙ ap (λ (goings : List Going). with_all first c.args.from goings) (sym (map-append go reply c.args.came.outs))
