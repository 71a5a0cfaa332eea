use Rattle.std.proofs.Common.{◌≡◌, ap, ◌∙◌, arith, subst, true}
use Rattle.std.proofs.lemmas.Result.{err_from_is_err_and}
use Rattle.record_batch.specs.Fact.{fact_of}
use Rattle.node_tables.specs.Row.Row.{is_sender, takes}
use Rattle.record_batch.specs.Sequences.Told.{Told}
use Rattle.node_tables.proofs.RoomLemmas.{same-spare, spares-same, step-kind, told-same}
use Rattle.node_tables.proofs.StepLemmas.{row-at, rows-step}
use Rattle.node_tables.proofs.rows.pass_at.Goals as goal

pub pass_row-requires : goal.pass_row-requires
pass_row-requires c =
    let rows = c.args.rows.now.items in
    let k = c.args.k in
    record {
      takes = subst (λ (t : Told). takes t.side (fact_of c.args.given.now) ≡ true)
          (row-at rows k c.index_mut.result.now (omega (arith, c.requires.within)) c.index_mut.ensures.value)
          c.requires.takes;
      passing = c.requires.passing;
    }

pub returns-clause-ok : goal.returns-clause-ok
returns-clause-ok c =
    rows-step c.args.rows.now.items c.args.k c.index_mut.result.now c.pass_row.new.row (fact_of c.args.given.now)
    (omega (arith, c.requires.within)) c.index_mut.ensures.value c.requires.named c.requires.takes
    c.in_ok-pass_row.ensures.told

pub returns-clause-room : goal.returns-clause-room
returns-clause-room c has =
    let row = c.index_mut.result.now in
    spares-same c.args.rows.now.items c.args.k row c.pass_row.new.row c.index_mut.ensures.value
    (same-spare row c.pass_row.new.row row.room
    (ap (λ (t : Told). is_sender t.side) c.in_ok-pass_row.ensures.told
    ∙ step-kind row.told.side (fact_of c.args.given.now)) (c.in_ok-pass_row.ensures.room has))

pub returns-in_err-pass_row-clause-err : goal.returns-in_err-pass_row-clause-err
returns-in_err-pass_row-clause-err c =
    let p = err_from_is_err_and c.from_residual.result c.from_residual.ensures.1 in
    rw p.1 (told-same c.args.rows.now.items c.args.k c.index_mut.result.now c.pass_row.new.row c.index_mut.ensures.value
    c.in_err-pass_row.ensures.err)
