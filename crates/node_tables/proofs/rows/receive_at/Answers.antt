use Rattle.std.proofs.Common.{ap, ◌∙◌, ◌+◌, refl, arith}
use Rattle.record_batch.specs.Fact.{Received}
use Rattle.node_tables.specs.Kept.{row_at, tolds}
use Rattle.node_tables.specs.Row.Row.{is_sender}
use Rattle.node_tables.proofs.RoomLemmas.{received-kind, same-spare, spares-spent}
use Rattle.node_tables.proofs.StepLemmas.{rows-stepped, takes-received}
use Rattle.node_tables.proofs.rows.receive_at.Goals as goal

pub returns-clause-ok : goal.returns-clause-ok
returns-clause-ok c =
    let rows = c.args.rows.now.items in
    let k = c.args.k in
    rows-stepped rows k c.index_mut-row.result.now c.receive.new.self (Received (k + 1) c.args.number c.args.payload)
    (omega (arith, c.requires.within)) c.index_mut-row.ensures.value refl
    (takes-received (row_at (tolds rows) k).side (k + 1) c.args.number c.args.payload ∙ c.requires.takes)
    c.in_ok-receive.ensures.ticket c.in_ok-receive.ensures.side

pub returns-clause-room : goal.returns-clause-room
returns-clause-room c =
    spares-spent c.args.rows.now.items c.args.k c.index_mut-row.result.now c.receive.new.self
    (Received (c.args.k + 1) c.args.number c.args.payload) c.index_mut-row.ensures.value
    (same-spare c.index_mut-row.result.now c.receive.new.self _
    (ap is_sender c.in_ok-receive.ensures.side ∙ received-kind _ c.args.number c.args.payload)
    c.in_ok-receive.ensures.room)
