use Rattle.std.proofs.Common.{◌≡◌, ◌∙◌, ◌-◌, true, List, [], ◌∷◌, ◌++◌, length, map, sym, ap}
use Rattle.std.proofs.Common.{subst, arith}
use Rattle.std.proofs.lemmas.List.{length-map, map-append}
use Rattle.std.proofs.lemmas.Result.{err_from_is_err_and}
use Rattle.record_batch.specs.declared.record.Record.{Record}
use Rattle.record_batch.specs.Fact.{fact_of}
use Rattle.record_batch.specs.Sequences.Makers.{makers_of}
use Rattle.record_batch.specs.Sequences.Fits.{fits}
use Rattle.record_batch.specs.Sequences.Told.{Told, begun, each_after, names}
use Rattle.node_tables.specs.Row.Row.{Seen, takes}
use Rattle.node_tables.specs.declared.note.Note.{Note}
use Rattle.node_tables.specs.declared.note.Note.TheVariants as note
use Rattle.node_tables.specs.declared.note.Origin.{Origin}
use Rattle.node_tables.specs.declared.note.Named.{Named}
use Rattle.node_tables.specs.Kept.{Holds, Tabled, names_for, origins_for, records_in, row_at, table_in, tolds}
use Rattle.std.specs.List.{flat_map}
use Rattle.std.proofs.lemmas.Bool.{false≢true}
use Rattle.node_tables.specs.Room.{NodeRoom, spares, spares_ahead, starts, starts_of}
use Rattle.node_tables.proofs.RoomLemmas.{one-place, ready-whole}
use Rattle.node_tables.proofs.CountLemmas.{last-drawn, made-few, timed}
use Rattle.node_tables.proofs.TellLemmas.{Grown, keeps, names-there, rows-origins, takes-there, untouched}
use Rattle.node_tables.proofs.tables.Tables.keep.Goals as goal

pub name-requires : goal.name-requires
name-requires c =
    let f = fact_of c.args.given in
    let fit = subst (λ (t : Tabled). fits t.records f ≡ true) (sym c.self.view_is) c.requires.fit in
    let rows = c.self.inside.rows.items in
    let few = made-few _ f c.self.invariant.holds fit in
    record {
      room = omega (arith, c.in_ok-make_room.ensures.named_room);
      places = omega (
        arith,
        few,
        c.len-len.ensures,
        ap length c.make_room.ensures.rows,
        length-map rows (λ (r : Seen). r.told),
      );
    }

pub change-requires : goal.change-requires
change-requires c =
    let f = fact_of c.args.given in
    let fit = subst (λ (t : Tabled). fits t.records f ≡ true) (sym c.self.view_is) c.requires.fit in
    let rows = c.self.inside.rows.items in
    record {
      within = omega (
        arith,
        names-there _ f c.self.invariant.holds fit,
        ap length c.make_room.ensures.rows,
        length-map rows (λ (r : Seen). r.told),
      );
      takes = λ some. subst (λ (xs : List Seen). takes (row_at (tolds xs) (names f - 1)).side f ≡ true)
          (sym c.make_room.ensures.rows) (takes-there _ f c.self.invariant.holds fit some);
      whole = c.requires.whole;
    }

pub begin-requires : goal.begin-requires
begin-requires c =
    let f = fact_of c.args.given in
    let fit = subst (λ (t : Tabled). fits t.records f ≡ true) (sym c.self.view_is) c.requires.fit in
    record {
      room = omega (arith, c.in_ok-make_room.ensures.rows_room, c.change.ensures.room, c.change.ensures.len);
      timed = timed _ f fit;
      begun = c.self.invariant.begun_;
    }

pub invariant_of-self : goal.invariant_of-self
invariant_of-self c =
    record {
      holds =
          subst Holds (sym (untouched _ _ _ _ _ _ _ _ _ _ _ _ c.make_room.ensures.kept c.make_room.ensures.rows
          c.make_room.ensures.notes c.make_room.ensures.origins c.make_room.ensures.named)) c.self.invariant.holds;
      places = record {
        kept_ = omega arith;
        rows_ = omega arith;
        notes_ = omega arith;
        origins_ = omega arith;
        named_ = omega arith;
      };
      begun_ = c.self.invariant.begun_;
      mark_ = tt;
    }

pub returns-in_err-make_room-clause-err : goal.returns-in_err-make_room-clause-err
returns-in_err-make_room-clause-err c =
    let p = err_from_is_err_and c.from_residual.result c.from_residual.ensures.1 in
    rw p.1 (ap records_in (untouched _ _ _ _ _ _ _ _ _ _ c.self.inside.number c.self.inside.drawn
    c.make_room.ensures.kept c.make_room.ensures.rows c.make_room.ensures.notes c.make_room.ensures.origins
    c.make_room.ensures.named) ∙ ap (λ (t : Tabled). t.records) c.self.view_is)

grown : (c : goal.After-push_reserved-2)
    → Grown (table_in c.self.inside.kept.items c.self.inside.rows.items c.self.inside.notes.items
    c.self.inside.origins.items c.self.inside.named.items c.self.inside.number c.self.inside.drawn)
    (table_in c.push_reserved-2.new.self.items c.begin.new.rows.items c.push_reserved.new.self.items
    c.trace.new.origins.items c.name.new.named.items c.number_after-number.result c.drawn_after-drawn.result)
    (fact_of c.args.given)
grown c =
    let f = fact_of c.args.given in
    let fit = subst (λ (t : Tabled). fits t.records f ≡ true) (sym c.self.view_is) c.requires.fit in
    let kept = c.self.inside.kept.items in
    let rows = c.self.inside.rows.items in
    let notes = c.self.inside.notes.items in
    let origins = c.self.inside.origins.items in
    let named = c.self.inside.named.items in
    let at : c.len-place.result ≡ length (map fact_of kept) =
    omega (arith, c.len-place.ensures, ap length c.make_room.ensures.kept, length-map kept fact_of) in
    let count : c.len-len.result ≡ length origins =
    omega (
      arith,
      c.len-len.ensures,
      ap length c.make_room.ensures.rows,
      length-map rows (λ (r : Seen). r.told),
      rows-origins _ c.self.invariant.holds,
    ) in
    keeps _ _ f c.requires.whole c.self.invariant.holds fit
    (ap (map fact_of) (c.push_reserved-2.ensures.items
    ∙ ap (λ (xs : List Record). xs ++ c.args.given ∷ []) c.make_room.ensures.kept)
    ∙ map-append fact_of kept (c.args.given ∷ []))
    (c.begin.ensures.rows ∙ ap (λ (ts : List Told). ts ++ map begun (makers_of f)) (c.change.ensures.rows
    ∙ ap (λ (xs : List Seen). each_after 0 (tolds xs) f) c.make_room.ensures.rows))
    (c.push_reserved.ensures.items
    ∙ ap (λ (ns : List Note). ns ++ note.Kept c.len-place.result ∷ []) c.make_room.ensures.notes
    ∙ ap (λ n. notes ++ note.Kept n ∷ []) at)
    (c.trace.ensures.items
    ∙ ap (λ (os : List Origin). os ++ origins_for c.len-place.result f) c.make_room.ensures.origins
    ∙ ap (λ n. origins ++ origins_for n f) at)
    (c.name.ensures.items
    ∙ ap (λ (ms : List Named). ms ++ names_for c.len-len.result c.len-place.result f) c.make_room.ensures.named
    ∙ ap (λ k. named ++ names_for k c.len-place.result f) count
    ∙ ap (λ n. named ++ names_for (length origins) n f) at)
    c.number_after-number.ensures
    (c.drawn_after-drawn.ensures ∙ last-drawn _ f c.self.inside.drawn c.self.invariant.holds.drawn_ fit)

pub invariant_of-self-2 : goal.invariant_of-self-2
invariant_of-self-2 c = record {
  holds = (grown c).0;
  places = record {
    kept_ = omega arith;
    rows_ = omega arith;
    notes_ = omega arith;
    origins_ = omega arith;
    named_ = omega arith;
  };
  begun_ = c.begin.ensures.begun;
  mark_ = tt;
}

pub returns-clause-ok : goal.returns-clause-ok
returns-clause-ok c =
    (grown c).1 ∙ ap (λ (t : Tabled). t.records ++ fact_of c.args.given ∷ []) c.self.view_is

pub returns-clause-next : goal.returns-clause-next
returns-clause-next c more h =
    let f = fact_of c.args.given in
    let is = ap (λ (t : Tabled). t.room) c.self.view_is in
    let later : starts c.self.inside.ahead.items ≡ starts_of f ++ flat_map starts_of more =
    ap (λ (x : NodeRoom). x.ahead) is ∙ h.ahead in
    ready-whole c.args.self.now _ f more h
    (omega (arith, ap (λ (x : NodeRoom). x.slots) is, c.saturating_sub-self-inside.ensures))
    (c.begin.ensures.next (flat_map starts_of more) later)
    (c.begin.ensures.spares (flat_map starts_of more) later
    ∙ ap (λ xs. xs ++ spares_ahead c.self.inside.ahead.items)
    (c.change.ensures.spares ∙ ap spares c.make_room.ensures.rows)
    ∙ ap (λ (x : NodeRoom). x.rows) is)

pub returns-in_err-make_room-clause-ready : goal.returns-in_err-make_room-clause-ready
returns-in_err-make_room-clause-ready c more h =
    absurd (false≢true (c.in_err-make_room.ensures.ready
    (one-place c.args.self.now c.self.inside.rows.items c.self.inside.ahead.items c.self.inside.slots _
    (fact_of c.args.given) more h (sym (ap (λ (t : Tabled). t.room) c.self.view_is)) c.self.invariant.places)))
