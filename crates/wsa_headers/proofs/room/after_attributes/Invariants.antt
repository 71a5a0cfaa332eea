use Rattle.std.proofs.Common.{◌≡◌, ◌≤◌, drop}
use Rattle.soap_document.specs.Profile.View.{attrs_view}
use Rattle.wsa_headers.specs.Room.{attributes_room}
use Rattle.wsa_headers.proofs.room.after_attributes.Given as goal

-- what is left behind those so far, and how many they are at most
abbrev pub invariant-loop-item : goal.invariant-loop-item
invariant-loop-item l = record {
  counted : l.number ≤ l.item-index;
  same : attributes_room l.number (attrs_view (drop l.item-index l.items)) l.left
      ≡ attributes_room 0 (attrs_view l.items) l.room;
}
