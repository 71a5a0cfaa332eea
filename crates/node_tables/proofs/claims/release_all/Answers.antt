use Rattle.std.proofs.Common.{◌∙◌}
use Rattle.node_tables.proofs.RoomLemmas.{told-same}
use Rattle.node_tables.proofs.claims.release_all.Goals as goal

pub loop-k-preserved : goal.loop-k-preserved
loop-k-preserved c = record {
  told =
      told-same c.loop-k.rows.items c.loop-k.k c.index_mut.result.now c.release.new.self c.index_mut.ensures.value
      c.release.ensures.told ∙ c.loop-k.invariant.told;
  len = c.loop-k.invariant.len;
  capacity = c.loop-k.invariant.capacity;
}
