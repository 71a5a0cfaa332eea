use Rattle.rm_protocol.proofs.LineLemmas.{stays-consumed}
use Rattle.rm_protocol.proofs.laws.what_was_consumed_stays.Goals as goal

pub returns : goal.returns
returns c = stays-consumed (record {
  keeps = c.a_snapshot_keeps_all.ensures;
  fits = c.a_snapshot_fits.ensures;
  proper = c.a_snapshot_is_proper.ensures;
})
