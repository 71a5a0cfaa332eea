use Rattle.std.proofs.Common.{◌≡◌, ◌∙◌, [], Err, Ok, ap, false, refl, subst, sym, true}
use Rattle.std.proofs.lemmas.Result.{err_from_is_err_and}
use Rattle.node_tables.specs.Reads.{outgoing_in}
use Rattle.rm_serve.specs.Steps.{place_of}
use Rattle.rm_host.proofs.RowLemmas.{no-step}
use Rattle.rm_host.specs.Sequences.{is_open}
use Rattle.rm_host.proofs.SendLemmas.{open-ended, shut}
use Rattle.rm_host.proofs.send.send_if_open.Goals as goal

pub returns-then-not-is_open-clause-sends : goal.returns-then-not-is_open-clause-sends
returns-then-not-is_open-clause-sends g c =
    let told = g.D.Disk.told in
    let x = place_of (told c.args.host.now.disk) c.args.node.now in (
      [],
      no-step g.D.Disk.tells x x (record { node = refl; told = λ t. refl }),
      shut x x c.args.seq c.args.payload (g.C.Clock.next c.args.host.now.clock) (g.L.Link.told c.args.host.now.link)
          (subst (λ r. is_open (outgoing_in r c.args.seq) ≡ false) c.tables.ensures
          (sym c.is_open.ensures ∙ c.if-not-is_open.true)),
    )

pub returns-in_err-send_on-clause-sends : goal.returns-in_err-send_on-clause-sends
returns-in_err-send_on-clause-sends g c =
    let told = g.D.Disk.told in
    let net = g.L.Link.told in
    let p = err_from_is_err_and c.from_residual.result c.from_residual.ensures.1 in
    let x = place_of (told c.args.host.now.disk) c.args.node.now in
    let z = place_of (told c.send_on.new.host.disk) c.send_on.new.node in
    let on = c.in_err-send_on.ensures.sends in (
      on.0,
      on.1,
      open-ended x z c.args.seq c.args.payload (g.C.Clock.next c.args.host.now.clock) (net c.args.host.now.link)
          (net c.send_on.new.host.link) on.0
          (Err c.in_err-send_on.field-0.0) c.from_residual.result
          (subst (λ r. is_open (outgoing_in r c.args.seq) ≡ true) c.tables.ensures
          (sym c.is_open.ensures ∙ c.if-not-is_open.false))
          on.2 (p.1 ∙ ap Err p.2),
    )

pub returns-clause-sends : goal.returns-clause-sends
returns-clause-sends g c =
    let told = g.D.Disk.told in
    let net = g.L.Link.told in
    let x = place_of (told c.args.host.now.disk) c.args.node.now in
    let z = place_of (told c.send_on.new.host.disk) c.send_on.new.node in
    let on = c.in_ok-send_on.ensures.sends in (
      on.0,
      on.1,
      open-ended x z c.args.seq c.args.payload (g.C.Clock.next c.args.host.now.clock) (net c.args.host.now.link)
          (net c.send_on.new.host.link) on.0
          (Ok c.in_ok-send_on.field-0) (Ok tt)
          (subst (λ r. is_open (outgoing_in r c.args.seq) ≡ true) c.tables.ensures
          (sym c.is_open.ensures ∙ c.if-not-is_open.false))
          on.2 refl,
    )
