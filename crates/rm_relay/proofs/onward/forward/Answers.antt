use Rattle.std.proofs.Common.{◌∙◌, ap, refl, sym}
use Rattle.std.specs.Option.{option_copied}
use Rattle.std.proofs.lemmas.Result.{err_from_is_err_and}
use Rattle.std.specs.Prelude.{Err}
use Rattle.rm_node.specs.declared.error.NodeError.TheVariants as error
use Rattle.rm_relay.specs.Word.Ends.{next_item}
use Rattle.rm_relay.proofs.OnwardLemmas.{forwards_failed, forwards_none, forwards_sent, forwards_unsent, next_here}
use Rattle.rm_relay.proofs.onward.forward.Goals as goal

pub returns-in_default-find_next : goal.returns-in_default-find_next
returns-in_default-find_next g c into out ends =
    let r = c.args.node.now.stored.records in
    let item = option_copied c.find_next.result in
    let next = next_here r _ _ _ _ into out item c.tables.ensures c.tables-2.ensures c.in-Some.ensures.found ends
    c.find_next.ensures in
    forwards_none g.D.Disk.tells (g.D.Disk.told c.args.disk.now) c.args.node.now out (next_item r into out)
    (next.0 ∙ ap option_copied c.in_default-find_next.is)

pub returns-then-is_down : goal.returns-then-is_down
returns-then-is_down g c into out ends =
    let r = c.args.node.now.stored.records in
    let item = option_copied c.find_next.result in
    let next = next_here r _ _ _ _ into out item c.tables.ensures c.tables-2.ensures c.in-Some.ensures.found ends
    c.find_next.ensures in
    forwards_unsent g.D.Disk.tells (g.D.Disk.told c.args.disk.now) c.args.node.now out (next_item r into out)
    c.in-Some-find_next.payload.now error.Down (Err error.Down) (next.0 ∙ ap option_copied c.in-Some-find_next.is)
    (sym c.is_down.ensures ∙ c.if-is_down.true) refl

pub returns-in_err-bytes : goal.returns-in_err-bytes
returns-in_err-bytes g c into out ends =
    let r = c.args.node.now.stored.records in
    let item = option_copied c.find_next.result in
    let next = next_here r _ _ _ _ into out item c.tables.ensures c.tables-2.ensures c.in-Some.ensures.found ends
    c.find_next.ensures in
    let p = err_from_is_err_and c.from_residual.result c.from_residual.ensures.1 in
    forwards_unsent g.D.Disk.tells (g.D.Disk.told c.args.disk.now) c.args.node.now out (next_item r into out)
    c.in-Some-find_next.payload.now p.0 c.from_residual.result (next.0 ∙ ap option_copied c.in-Some-find_next.is)
    (rw p.2 (sym c.is_down.ensures ∙ c.if-is_down.false)) p.1

pub returns-in_err-sent : goal.returns-in_err-sent
returns-in_err-sent g c into out ends =
    let r = c.args.node.now.stored.records in
    let item = option_copied c.find_next.result in
    let next = next_here r _ _ _ _ into out item c.tables.ensures c.tables-2.ensures c.in-Some.ensures.found ends
    c.find_next.ensures in
    let f = c.from_residual-in_err-sent in
    let p = err_from_is_err_and f.result f.ensures.1 in
    forwards_failed g.D.Disk.tells (g.D.Disk.told c.args.disk.now) (g.D.Disk.told c.send.new.disk) c.args.node.now
    c.send.new.self c.in-Some.ends.out out (next_item r into out) c.in-Some-find_next.payload.now c.in_ok-bytes.bytes
    p.0 f.result (next.0 ∙ ap option_copied c.in-Some-find_next.is) next.1 c.in_ok-bytes.ensures
    (rw p.2 c.in_err-sent.ensures.steps) p.1

pub returns : goal.returns
returns g c into out ends =
    let r = c.args.node.now.stored.records in
    let item = option_copied c.find_next.result in
    let next = next_here r _ _ _ _ into out item c.tables.ensures c.tables-2.ensures c.in-Some.ensures.found ends
    c.find_next.ensures in
    forwards_sent g.D.Disk.tells (g.D.Disk.told c.args.disk.now) (g.D.Disk.told c.send.new.disk) c.args.node.now
    c.send.new.self c.in-Some.ends.out out (next_item r into out) c.in-Some-find_next.payload.now c.in_ok-bytes.bytes
    c.in_ok-sent.sent.outs (next.0 ∙ ap option_copied c.in-Some-find_next.is) next.1 c.in_ok-bytes.ensures
    c.in_ok-sent.ensures.steps
