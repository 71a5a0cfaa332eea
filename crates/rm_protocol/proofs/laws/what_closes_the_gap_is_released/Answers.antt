use Rattle.rm_protocol.proofs.NewLemmas.{gap-closed}
use Rattle.rm_protocol.proofs.laws.what_closes_the_gap_is_released.Goals as goal

pub returns : goal.returns
returns c = gap-closed
