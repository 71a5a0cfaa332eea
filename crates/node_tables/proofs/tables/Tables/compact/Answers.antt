use Rattle.std.proofs.Common.{◌≡◌, ◌∙◌, true, map, ap, subst, arith}
use Rattle.record_batch.specs.Fact.{fact_of}
use Rattle.record_batch.specs.Snapshot.Snapshot.{snapshot}
use Rattle.node_tables.specs.Kept.{IsMarked, Table, Tabled, all_forgotten, records_of, table_in}
use Rattle.node_tables.proofs.CompactLemmas.{compacted, records-left, renoted}
use Rattle.node_tables.proofs.tables.Tables.compact.Goals as goal

pub invariant_of-self : goal.invariant_of-self
invariant_of-self c =
    let x = c.self.inside in
    let t : Table = table_in x.kept.items x.rows.items x.notes.items x.origins.items x.named.items x.number x.drawn in
    let marked : x.marked ≡ true = ap (λ (v : Tabled). v.is_marked) c.self.view_is ∙ c.requires in
    let short : IsMarked t true x.short.items = subst (λ b. IsMarked t b x.short.items) marked c.self.invariant.mark_ in
    let notes : c.swap.new.x.items ≡ x.short.items = ap (λ v. v.items) c.swap.ensures.x_after in
    record {
      holds = renoted t (all_forgotten t.rows) _ x.short.items c.swap.new.x.items c.forget_all.ensures.told notes
          (compacted c.union_has_both.ensures c.ends_are_right.ensures c.same_numbers_same_ranges.ensures t
          x.short.items c.self.invariant.holds short);
      places = record {
        kept_ = omega arith;
        rows_ = omega arith;
        notes_ = omega arith;
        origins_ = omega arith;
        named_ = omega arith;
      };
      begun_ = c.self.invariant.begun_;
      mark_ = tt;
    }

pub returns-clause-records : goal.returns-clause-records
returns-clause-records c =
    let x = c.self.inside in
    let t : Table = table_in x.kept.items x.rows.items x.notes.items x.origins.items x.named.items x.number x.drawn in
    let marked : x.marked ≡ true = ap (λ (v : Tabled). v.is_marked) c.self.view_is ∙ c.requires in
    let short : IsMarked t true x.short.items = subst (λ b. IsMarked t b x.short.items) marked c.self.invariant.mark_ in
    let notes : c.swap.new.x.items ≡ x.short.items = ap (λ v. v.items) c.swap.ensures.x_after in
    ap (λ l. records_of (map fact_of x.kept.items) l c.swap.new.x.items) c.forget_all.ensures.told
    ∙ ap (λ l. records_of (map fact_of x.kept.items) (all_forgotten t.rows) l) notes
    ∙ records-left t x.short.items short
    ∙ ap (λ (v : Tabled). snapshot v.records) c.self.view_is
