use Rattle.std.proofs.Common.{◌≡◌, drop}
use Rattle.wsa_headers.specs.Room.{text_room}
use Rattle.wsa_headers.proofs.room.after_text.Given as goal

-- what is left behind those so far
abbrev pub invariant-loop-byte : goal.invariant-loop-byte
invariant-loop-byte l = text_room (drop l.byte-index l.text) l.left ≡ text_room l.text l.room
