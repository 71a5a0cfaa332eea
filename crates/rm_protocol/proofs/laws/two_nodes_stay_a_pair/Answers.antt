use Rattle.rm_protocol.proofs.PairLemmas.{stays-a-pair}
use Rattle.rm_protocol.proofs.laws.two_nodes_stay_a_pair.Goals as goal

pub returns : goal.returns
returns c = stays-a-pair (record {
  keeps = c.a_snapshot_keeps_all.ensures;
  fits = c.a_snapshot_fits.ensures;
  proper = c.a_snapshot_is_proper.ensures;
})
