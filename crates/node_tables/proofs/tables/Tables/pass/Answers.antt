use Rattle.std.proofs.Common.{◌≡◌, ◌∙◌, ◌-◌, true, List, [], ◌∷◌, ◌++◌, sym, ap}
use Rattle.std.proofs.Common.{ap₂, map, subst, arith}
use Rattle.std.specs.List.{flat_map}
use Rattle.std.proofs.lemmas.Bool.{false≢true}
use Rattle.std.proofs.lemmas.List.{length-map}
use Rattle.std.proofs.lemmas.Result.{err_from_is_err_and}
use Rattle.record_batch.specs.Fact.{fact_of}
use Rattle.record_batch.specs.Sequences.Fits.{fits}
use Rattle.record_batch.specs.Sequences.Told.{Told, names}
use Rattle.node_tables.specs.Row.Row.{Seen, takes}
use Rattle.node_tables.specs.declared.note.Note.{Note}
use Rattle.node_tables.specs.Kept.{Tabled, records_of, row_at, tolds}
use Rattle.node_tables.specs.Room.{NodeRoom, spares_ahead, starts_of}
use Rattle.node_tables.proofs.RoomLemmas.{has-room, ready-whole}
use Rattle.node_tables.proofs.RowsLemmas.{row-taken}
use Rattle.node_tables.proofs.TellLemmas.{passes, passing-plain, stays}
use Rattle.node_tables.proofs.tables.Tables.pass.Goals as goal

pub pass_at-requires : goal.pass_at-requires
pass_at-requires c =
    let f = fact_of c.args.given in
    let fit = subst (λ (t : Tabled). fits t.records f ≡ true) (sym c.self.view_is) c.requires.fit in
    let plain = passing-plain f c.requires.passing in
    let taken = row-taken _ f c.self.invariant.holds plain.named fit in
    let rows = c.self.inside.rows.items in
    let at : c.named_by.result - 1 ≡ names f - 1 = ap (λ n. n - 1) c.named_by.ensures in
    record {
      within = omega (arith, taken.one, taken.within, c.named_by.ensures, length-map rows (λ (r : Seen). r.told));
      named = omega (arith, taken.one, c.named_by.ensures);
      takes = ap (λ k. takes (row_at (tolds rows) k).side f) at ∙ taken.takes_;
      passing = c.requires.passing;
    }

pub invariant_of-self-2 : goal.invariant_of-self-2
invariant_of-self-2 c =
    let f = fact_of c.args.given in
    let fit = subst (λ (t : Tabled). fits t.records f ≡ true) (sym c.self.view_is) c.requires.fit in
    let noted = c.push_reserved.ensures.items
    ∙ ap (λ (ns : List Note). ns ++ c.passed_note.result ∷ []) c.reserve.ensures.items in
    record {
      holds = (passes _ f c.passed_note.result _ _ c.self.invariant.holds fit c.requires.passing
          c.passed_note.ensures.fact c.passed_note.ensures.held c.passed_note.ensures.place
          c.in_ok-pass_at.ensures.ok noted).0;
      places = record {
        kept_ = omega arith;
        rows_ = omega arith;
        notes_ = omega arith;
        origins_ = omega arith;
        named_ = omega arith;
      };
      begun_ = c.self.invariant.begun_;
      mark_ = tt;
    }

pub returns-clause-ok : goal.returns-clause-ok
returns-clause-ok c =
    let f = fact_of c.args.given in
    let fit = subst (λ (t : Tabled). fits t.records f ≡ true) (sym c.self.view_is) c.requires.fit in
    let noted = c.push_reserved.ensures.items
    ∙ ap (λ (ns : List Note). ns ++ c.passed_note.result ∷ []) c.reserve.ensures.items in
    (passes _ f c.passed_note.result _ _ c.self.invariant.holds fit c.requires.passing
    c.passed_note.ensures.fact c.passed_note.ensures.held c.passed_note.ensures.place
    c.in_ok-pass_at.ensures.ok noted).1
    ∙ ap (λ (t : Tabled). t.records ++ f ∷ []) c.self.view_is

pub invariant_of-self-in_err-pass_at : goal.invariant_of-self-in_err-pass_at
invariant_of-self-in_err-pass_at c =
    record {
      holds = stays _ _ _ c.self.invariant.holds c.in_err-pass_at.ensures.err c.reserve.ensures.items;
      places = record {
        kept_ = omega arith;
        rows_ = omega arith;
        notes_ = omega arith;
        origins_ = omega arith;
        named_ = omega arith;
      };
      begun_ = c.self.invariant.begun_;
      mark_ = tt;
    }

pub returns-in_err-pass_at-clause-err : goal.returns-in_err-pass_at-clause-err
returns-in_err-pass_at-clause-err c =
    let p = err_from_is_err_and c.from_residual-in_err-pass_at.result c.from_residual-in_err-pass_at.ensures.1 in
    rw p.1 (ap₂ (λ (rows : List Told) (notes : List Note). records_of (map fact_of c.self.inside.kept.items) rows notes)
    c.in_err-pass_at.ensures.err c.reserve.ensures.items ∙ ap (λ (t : Tabled). t.records) c.self.view_is)

pub returns-in_err-pass_at-clause-ready : goal.returns-in_err-pass_at-clause-ready
returns-in_err-pass_at-clause-ready c more h =
    absurd (false≢true (c.in_err-pass_at.ensures.ready (has-room c.args.self.now (fact_of c.args.given) more h)))

pub returns-clause-next : goal.returns-clause-next
returns-clause-next c more h =
    let f = fact_of c.args.given in
    let plain = passing-plain f c.requires.passing in
    let is = ap (λ (t : Tabled). t.room) c.self.view_is in
    ready-whole c.args.self.now _ f more h
    (omega (arith, ap (λ (x : NodeRoom). x.slots) is, c.saturating_sub-self-inside.ensures))
    (ap (λ (x : NodeRoom). x.ahead) is ∙ h.ahead ∙ ap (λ ss. ss ++ flat_map starts_of more) plain.starts_)
    (ap (λ xs. xs ++ spares_ahead c.self.inside.ahead.items)
    (c.in_ok-pass_at.ensures.room (has-room c.args.self.now f more h))
    ∙ ap (λ (x : NodeRoom). x.rows) is)
