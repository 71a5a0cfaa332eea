use Rattle.std.proofs.Common.{◌≡◌, map, take}
use Rattle.std.specs.Prelude.{vec_len, vec_capacity}
use Rattle.record_batch.specs.Fact.{fact_of}
use Rattle.node_tables.specs.Kept.{tolds}
use Rattle.node_tables.specs.Room.{AreBegun, AreEnough, all_spares, starts}
use Rattle.node_tables.proofs.claims.claim_all.Given as goal

abbrev pub invariant-loop-given : goal.invariant-loop-given
invariant-loop-given l = record {
  told : tolds l.rows.items ≡ tolds l.fn.rows.items;
  starts_ : starts l.ahead.items ≡ starts l.fn.ahead.items;
  begun : AreBegun l.ahead.items;
  len : vec_len l.rows ≡ vec_len l.fn.rows;
  capacity : vec_capacity l.rows ≡ vec_capacity l.fn.rows;
  enough : AreEnough (all_spares l.rows.items l.ahead.items) (map fact_of (take l.given-index l.batch));
}
