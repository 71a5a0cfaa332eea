use Rattle.rm_replay.specs.NetLemmas.{nets}
use Rattle.rm_replay.proofs.laws.there_are_nets.Goals as goal

pub returns : goal.returns
returns c = nets c.room_goes_by_the_bytes.ensures c.there_are_own_terms.ensures
