use Rattle.node_laws.proofs.Room.{room-for-keys}
use Rattle.node_laws.proofs.laws.a_node_has_room_for_its_keys.Goals as goal

pub returns : goal.returns
returns c = room-for-keys c.range_is_added.ensures c.what_is_acknowledged_was_accepted.ensures
