use Rattle.std.proofs.Common.{◌≡◌, ◌≤◌, ◌∙◌, List, length, map, min, refl, sym, ap, arith}
use Rattle.std.specs.Prelude.{sum_by}
use Rattle.std.proofs.Math.Nat.{min-eq_left}
use Rattle.std.proofs.lemmas.List.{length-map}
use Rattle.record_batch.specs.Fact.{fact_of}
use Rattle.node_tables.specs.Row.Row.{Seen}
use Rattle.record_batch.specs.Sequences.Sources.{all_unacked}
use Rattle.node_tables.specs.Kept.{Tabled, fact_at, tolds}
use Rattle.node_tables.specs.Reads.{waiting}
use Rattle.node_tables.proofs.WaitLemmas.{waits, waits-few}
use Rattle.node_tables.proofs.tables.Tables.unacked.Goals as goal

pub returns : goal.returns
returns c =
    let r = c.args.self.now.records in
    let noted : length r ≡ length c.self.inside.notes.items =
    ap (λ (t : Tabled). length t.records) (sym c.self.view_is)
    ∙ length-map c.self.inside.notes.items
    (fact_at (map fact_of c.self.inside.kept.items) (tolds c.self.inside.rows.items)) in
    let counted : length r ≡ length c.as_slice-records.result.now =
    noted ∙ sym (ap length c.as_slice-records.ensures.value) in
    let few : all_unacked r ≤ 18446744073709551615 = omega (arith, waits-few r, counted) in
    c.waiting_in.ensures
    ∙ ap (λ n. min n 18446744073709551615)
    (ap (λ (rs : List Seen). sum_by (λ (s : Seen). waiting s.told.side) rs) c.as_slice.ensures.value
    ∙ waits _ c.self.inside.rows.items c.self.invariant.holds refl
    ∙ ap (λ (t : Tabled). all_unacked t.records) c.self.view_is)
    ∙ min-eq_left few
