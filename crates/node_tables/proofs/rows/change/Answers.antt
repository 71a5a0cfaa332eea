use Rattle.std.proofs.Common.{◌≡◌, ap, ◌∙◌, ◌+◌, ◌-◌, ◌<◌, ◌≤◌, length, sym, subst, arith, true, ℕ}
use Rattle.record_batch.specs.Fact.{fact_of}
use Rattle.node_tables.specs.Row.Row.{is_sender, takes}
use Rattle.record_batch.specs.Sequences.Told.{Told, names}
use Rattle.node_tables.specs.Kept.{row_at, tolds}
use Rattle.node_tables.proofs.RoomLemmas.{same-spare, spares-same, step-kind}
use Rattle.node_tables.proofs.StepLemmas.{each_after-none, rows-step}
use Rattle.node_tables.proofs.rows.change.Goals as goal

pub returns-then-seq-eq0-clause-rows : goal.returns-then-seq-eq0-clause-rows
returns-then-seq-eq0-clause-rows c =
    let f = fact_of c.args.given.now in
    let none : names f ≤ 0 = omega (arith, c.named_by-seq.ensures, c.if-seq-eq0.true) in
    sym (each_after-none 0 (tolds c.args.rows.now.items) f none)

pub returns-clause-rows : goal.returns-clause-rows
returns-clause-rows c =
    let rows = c.args.rows.now.items in
    let f = fact_of c.args.given.now in
    let s = c.named_by-seq.result in
    let is : s ≡ names f = c.named_by-seq.ensures in
    let some : 0 < names f = omega (arith, is, c.if-seq-eq0.false) in
    let at : names f ≡ s - 1 + 1 = omega (arith, is, some) in
    let within : s - 1 < length rows = omega (arith, is, some, c.requires.within) in
    let taken = subst (λ (n : ℕ). takes (row_at (tolds rows) (n - 1)).side f ≡ true) (sym is) (c.requires.takes some) in
    rows-step rows (s - 1) c.index_mut.result.now c.step_row.new.row f within c.index_mut.ensures.value at taken
    c.step_row.ensures.told

pub returns-clause-spares : goal.returns-clause-spares
returns-clause-spares c =
    let row = c.index_mut.result.now in
    spares-same c.args.rows.now.items (c.named_by-seq.result - 1) row c.step_row.new.row c.index_mut.ensures.value
    (same-spare row c.step_row.new.row row.room
    (ap (λ (t : Told). is_sender t.side) c.step_row.ensures.told ∙ step-kind row.told.side (fact_of c.args.given.now))
    c.step_row.ensures.room)
