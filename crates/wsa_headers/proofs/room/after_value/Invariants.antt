use Rattle.std.proofs.Common.{◌≡◌, drop}
use Rattle.wsa_headers.specs.Room.{value_room}
use Rattle.wsa_headers.proofs.room.after_value.Given as goal

-- what is left behind those so far
abbrev pub invariant-loop-byte : goal.invariant-loop-byte
invariant-loop-byte l = value_room (drop l.byte-index l.value) l.left ≡ value_room l.value l.room
