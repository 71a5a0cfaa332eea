use Rattle.std.proofs.Common.{◌≡◌, ◌∙◌, ◌+◌, ◌-◌, ◌<◌, true, List, [], ◌∷◌, ◌++◌, length, refl, sym, ap}
use Rattle.std.proofs.Common.{subst, arith}
use Rattle.std.proofs.lemmas.List.{length-map}
use Rattle.record_batch.specs.Fact.{Received}
use Rattle.record_batch.specs.Sequences.Fits.{fits}
use Rattle.node_tables.specs.Row.Row.{Seen}
use Rattle.node_tables.specs.declared.note.Note.{Note}
use Rattle.node_tables.specs.declared.note.Note.TheVariants as note
use Rattle.node_tables.specs.Kept.{Tabled, row_at, tolds}
use Rattle.std.proofs.lemmas.Bool.{false≢true}
use Rattle.node_tables.proofs.RoomLemmas.{message-room, room_with, row-next}
use Rattle.node_tables.proofs.RowsLemmas.{row-taken}
use Rattle.node_tables.proofs.StepLemmas.{takes-received}
use Rattle.node_tables.proofs.TellLemmas.{receives, stays}
use Rattle.node_tables.proofs.tables.Tables.receive.Goals as goal

pub receive_at-requires : goal.receive_at-requires
receive_at-requires c =
    let s = c.args.seq in
    let f = Received s c.args.number c.args.payload in
    let fit = subst (λ (t : Tabled). fits t.records f ≡ true) (sym c.self.view_is) c.requires in
    let taken = row-taken _ f c.self.invariant.holds refl fit in
    let rows = c.self.inside.rows.items in
    record {
      within = omega (arith, taken.one, taken.within, length-map rows (λ (r : Seen). r.told));
      takes = sym (takes-received (row_at (tolds rows) (s - 1)).side s c.args.number c.args.payload) ∙ taken.takes_;
    }

pub invariant_of-self-2 : goal.invariant_of-self-2
invariant_of-self-2 c =
    let s = c.args.seq in
    let f = Received s c.args.number c.args.payload in
    let fit = subst (λ (t : Tabled). fits t.records f ≡ true) (sym c.self.view_is) c.requires in
    let noted = c.push_reserved.ensures.items
    ∙ ap (λ (ns : List Note). ns ++ note.Received (s - 1) c.args.number c.in_ok-is_first.is_first ∷ [])
    c.reserve.ensures.items in
    record {
      holds = (receives _ s c.args.number c.args.payload c.in_ok-is_first.is_first _ _ c.self.invariant.holds fit
          c.in_ok-is_first.ensures.first
          c.in_ok-is_first.ensures.ok noted).0;
      places = record {
        kept_ = omega arith;
        rows_ = omega arith;
        notes_ = omega arith;
        origins_ = omega arith;
        named_ = omega arith;
      };
      begun_ = c.self.invariant.begun_;
      mark_ = tt;
    }

pub returns-clause-ok : goal.returns-clause-ok
returns-clause-ok c =
    let s = c.args.seq in
    let f = Received s c.args.number c.args.payload in
    let fit = subst (λ (t : Tabled). fits t.records f ≡ true) (sym c.self.view_is) c.requires in
    let noted = c.push_reserved.ensures.items
    ∙ ap (λ (ns : List Note). ns ++ note.Received (s - 1) c.args.number c.in_ok-is_first.is_first ∷ [])
    c.reserve.ensures.items in
    (receives _ s c.args.number c.args.payload c.in_ok-is_first.is_first _ _ c.self.invariant.holds fit
    c.in_ok-is_first.ensures.first
    c.in_ok-is_first.ensures.ok noted).1
    ∙ ap (λ (t : Tabled). t.records ++ f ∷ []) c.self.view_is

pub invariant_of-self-in_err-is_first : goal.invariant_of-self-in_err-is_first
invariant_of-self-in_err-is_first c =
    record {
      holds = stays _ _ _ c.self.invariant.holds c.in_err-is_first.ensures.err c.reserve.ensures.items;
      places = record {
        kept_ = omega arith;
        rows_ = omega arith;
        notes_ = omega arith;
        origins_ = omega arith;
        named_ = omega arith;
      };
      begun_ = c.self.invariant.begun_;
      mark_ = tt;
    }

pub returns-in_err-is_first-clause-ready : goal.returns-in_err-is_first-clause-ready
returns-in_err-is_first-clause-ready c more h =
    let s = c.args.seq in
    let f = Received s c.args.number c.args.payload in
    let fit = subst (λ (t : Tabled). fits t.records f ≡ true) (sym c.self.view_is) c.requires in
    let taken = row-taken _ f c.self.invariant.holds refl fit in
    let rows = c.self.inside.rows.items in
    let ahead = c.self.inside.ahead.items in
    let slots = c.self.inside.slots in
    let is : c.args.self.now.room ≡ room_with slots rows ahead = sym (ap (λ (t : Tabled). t.room) c.self.view_is) in
    let at : s ≡ s - 1 + 1 = omega (arith, taken.one) in
    let lt : s - 1 < length rows = omega (arith, taken.one, taken.within, length-map rows (λ (r : Seen). r.told)) in
    absurd (false≢true (c.in_err-is_first.ensures.ready
    (message-room c.args.self.now rows ahead slots s c.args.number c.args.payload more (s - 1) h is at lt
    (sym (takes-received (row_at (tolds rows) (s - 1)).side s c.args.number c.args.payload) ∙ taken.takes_))))

pub returns-clause-next : goal.returns-clause-next
returns-clause-next c more h =
    let s = c.args.seq in
    let f = Received s c.args.number c.args.payload in
    let fit = subst (λ (t : Tabled). fits t.records f ≡ true) (sym c.self.view_is) c.requires in
    let taken = row-taken _ f c.self.invariant.holds refl fit in
    let rows = c.self.inside.rows.items in
    let ahead = c.self.inside.ahead.items in
    let slots = c.self.inside.slots in
    let is : c.args.self.now.room ≡ room_with slots rows ahead = sym (ap (λ (t : Tabled). t.room) c.self.view_is) in
    let at : s ≡ s - 1 + 1 = omega (arith, taken.one) in
    let lt : s - 1 < length rows = omega (arith, taken.one, taken.within, length-map rows (λ (r : Seen). r.told)) in
    row-next c.args.self.now _ rows c.receive_at.new.rows.items ahead slots c.saturating_sub-self-inside.result f more
    (s - 1) h is refl at lt (omega (arith, c.saturating_sub-self-inside.ensures)) c.in_ok-is_first.ensures.room
