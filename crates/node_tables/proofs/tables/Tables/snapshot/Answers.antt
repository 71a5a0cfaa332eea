use Rattle.std.proofs.Common.{◌∙◌, length, map, refl, sym, ap, subst, arith}
use Rattle.std.proofs.lemmas.List.{length-map}
use Rattle.node_tables.specs.Row.Row.{Seen}
use Rattle.record_batch.specs.Fact.{fact_of}
use Rattle.node_tables.specs.Copies.{MayBeCopied}
use Rattle.node_tables.specs.Kept.{tolds}
use Rattle.node_tables.specs.Room.{AreBegun}
use Rattle.node_tables.proofs.CopyLemmas.{may_be_copied}
use Rattle.node_tables.proofs.CompactLemmas.{recorded, recorded_so, short_so}
use Rattle.node_tables.proofs.CountLemmas.{rows-few}
use Rattle.node_tables.proofs.TellLemmas.{stays}
use Rattle.node_tables.proofs.tables.Tables.snapshot.Goals as goal

pub shorter-requires : goal.shorter-requires
shorter-requires c = record {
  few = omega (
    arith,
    ap length c.deref-2.ensures.value,
    length-map c.self.inside.rows.items (λ (r : Seen). r.told),
    rows-few _ c.self.invariant.holds,
  );
  recorded = recorded_so _ _ _ _ _ _ (ap (λ l. map fact_of l) c.deref.ensures.value)
      (ap tolds c.deref-2.ensures.value) c.deref-3.ensures.value (recorded _ c.self.invariant.holds);
}

pub copies_of-requires-clause-rows : goal.copies_of-requires-clause-rows
copies_of-requires-clause-rows c =
    subst (λ l. MayBeCopied (tolds l)) (sym c.deref-5.ensures.value) (may_be_copied _ c.self.invariant.holds)

pub invariant_of-self : goal.invariant_of-self
invariant_of-self c =
    record {
      holds = stays _ _ _ c.self.invariant.holds c.release_all.ensures.told refl;
      places = record {
        kept_ = omega arith;
        rows_ = omega arith;
        notes_ = omega arith;
        origins_ = omega arith;
        named_ = omega arith;
      };
      begun_ = subst AreBegun (sym c.clear.ensures.items) tt;
      mark_ = short_so _ _ _ _ _ _ _ (sym (ap (λ l. map fact_of l) c.deref.ensures.value))
          (c.release_all.ensures.told ∙ sym (ap tolds c.deref-2.ensures.value)) (sym c.deref-3.ensures.value)
          c.in_ok-short.ensures;
    }
