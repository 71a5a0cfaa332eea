use Rattle.std.proofs.Common.{◌≡◌}
use Rattle.std.specs.Prelude.{vec_len, vec_capacity}
use Rattle.node_tables.specs.Kept.{tolds}
use Rattle.node_tables.proofs.ForgetLemmas.{forgot_to}
use Rattle.node_tables.proofs.rows.forget_all.Given as goal

abbrev pub invariant-loop-k : goal.invariant-loop-k
invariant-loop-k l = record {
  told : tolds l.rows.items ≡ forgot_to l.k (tolds l.fn.rows.items);
  len : vec_len l.rows ≡ vec_len l.fn.rows;
  capacity : vec_capacity l.rows ≡ vec_capacity l.fn.rows;
}
