use Rattle.rm_protocol.proofs.RunLemmas.{happens-IsSound}
use Rattle.rm_protocol.proofs.laws.every_step_keeps_the_agreement.Goals as goal

pub returns : goal.returns
returns c = happens-IsSound (record {
  keeps = c.a_snapshot_keeps_all.ensures;
  fits = c.a_snapshot_fits.ensures;
  proper = c.a_snapshot_is_proper.ensures;
})
