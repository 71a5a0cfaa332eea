use Rattle.std.proofs.Common.{◌≡◌, ap, ◌∙◌, ◌+◌, refl, arith, subst, true}
use Rattle.record_batch.specs.Fact.{Acked}
use Rattle.record_batch.specs.Sequences.Told.{Told}
use Rattle.node_tables.specs.Row.Row.{takes_acked}
use Rattle.node_tables.specs.Kept.{row_at, tolds}
use Rattle.node_tables.specs.Row.Row.{is_sender}
use Rattle.node_tables.proofs.RoomLemmas.{acked-kind, same-spare, spares-spent}
use Rattle.node_tables.proofs.StepLemmas.{rows-stepped, row-at, takes-acked}
use Rattle.node_tables.proofs.rows.learn_at.Goals as goal

pub learn-requires : goal.learn-requires
learn-requires c =
    let rows = c.args.rows.now.items in
    let k = c.args.k in
    subst (λ (t : Told). takes_acked t.side c.args.numbers.now.ranges ≡ true)
    (row-at rows k c.index_mut-row.result.now (omega (arith, c.requires.within)) c.index_mut-row.ensures.value)
    (takes-acked (row_at (tolds rows) k).side (k + 1) c.args.numbers.now.ranges c.requires.takes)

pub returns-clause-ok : goal.returns-clause-ok
returns-clause-ok c =
    let rows = c.args.rows.now.items in
    let k = c.args.k in
    rows-stepped rows k c.index_mut-row.result.now c.learn.new.self (Acked (k + 1) c.args.numbers.now.ranges)
    (omega (arith, c.requires.within)) c.index_mut-row.ensures.value refl c.requires.takes
    c.in_ok-learn.ensures.ticket c.in_ok-learn.ensures.side

pub returns-clause-room : goal.returns-clause-room
returns-clause-room c =
    spares-spent c.args.rows.now.items c.args.k c.index_mut-row.result.now c.learn.new.self
    (Acked (c.args.k + 1) c.args.numbers.now.ranges) c.index_mut-row.ensures.value
    (same-spare c.index_mut-row.result.now c.learn.new.self _
    (ap is_sender c.in_ok-learn.ensures.side ∙ acked-kind _ c.args.numbers.now.ranges) c.in_ok-learn.ensures.room)
