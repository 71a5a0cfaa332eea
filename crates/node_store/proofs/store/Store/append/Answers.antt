use Rattle.std.proofs.Common.{◌≡◌, ◌∙◌, map, sym, subst, arith}
use Rattle.std.specs.Vec.{vec_len}
use Rattle.std.proofs.lemmas.Bool.{eqb-true}
use Rattle.node_laws.specs.Sizes.Room.{HasRoom}
use Rattle.record_batch.specs.Fact.{fact_of}
use Rattle.rm_disk.specs.Journal.JournalState.{end_of}
use Rattle.node_store.specs.Stored.{Stored}
use Rattle.node_store.proofs.CommitLemmas.{empty_changes, none_of, serving_after}
use Rattle.node_store.proofs.store.Store.append.Goals as goal

pub returns-then-is_empty-clause-changes : goal.returns-then-is_empty-clause-changes
returns-then-is_empty-clause-changes g c tells =
    let z : vec_len c.args.batch ≡ 0 = eqb-true _ _ (sym c.is_empty.ensures ∙ c.if-is_empty.true) in
    empty_changes _ c.args.self.now _ (none_of fact_of c.args.batch.items (omega (arith, z)))

pub invariant_of-self : goal.invariant_of-self
invariant_of-self g c =
    let d = map fact_of c.args.batch.items in
    let room = subst (λ (s : Stored). HasRoom (end_of s.journal) d) (sym c.self.view_is) c.requires.room in
    serving_after c.a_byte_for_each_number.ensures c.self.inside.journal c.commit.new.journal
    c.self.inside.tables.records c.commit.new.tables.records d _ _ c.self.invariant room c.commit.ensures.stored
