use Rattle.node_waits.proofs.KeysLemmas.RoomLemmas.{one-more}
use Rattle.node_waits.proofs.keys.laws.one_more_has_room.Goals as goal

pub returns : goal.returns
returns c cells keys key o h n k = one-more cells keys key o h n k
