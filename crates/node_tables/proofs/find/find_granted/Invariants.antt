use Rattle.std.proofs.Common.{◌≡◌, drop, map}
use Rattle.record_batch.specs.Fact.{fact_of}
use Rattle.record_batch.specs.Sequences.Find.{find_from, is_granted}
use Rattle.node_tables.specs.Kept.{maker_at}
use Rattle.node_tables.proofs.find.find_granted.Given as goal

abbrev pub invariant-loop-origin : goal.invariant-loop-origin
invariant-loop-origin l = record {
  count : l.seq ≡ l.origin-index;
  told : find_from (is_granted l.message_id) l.origin-index
      (map (maker_at (map fact_of l.kept)) (drop l.origin-index l.origins))
      ≡ find_from (is_granted l.message_id) 0 (map (maker_at (map fact_of l.kept)) l.origins);
}
