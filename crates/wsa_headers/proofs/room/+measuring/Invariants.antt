use Rattle.std.proofs.Common.{◌≡◌, drop}
use Rattle.soap_document.specs.Profile.View.{parts_view}
use Rattle.wsa_headers.specs.Room.{parts_room}
use Rattle.wsa_headers.proofs.room.+measuring.Given as goal

-- what is left behind those so far
abbrev pub invariant-after_parts-loop-item : goal.invariant-after_parts-loop-item
invariant-after_parts-loop-item l =
    parts_room (parts_view (drop l.item-index l.items)) l.left ≡ parts_room (parts_view l.items) l.room
