use Rattle.rm_protocol.proofs.NewLemmas.{loose-released}
use Rattle.rm_protocol.proofs.laws.what_comes_on_a_loose_sequence_is_released.Goals as goal

pub returns : goal.returns
returns c = loose-released
