use Rattle.std.proofs.Common.{◌≡◌, drop, map}
use Rattle.soap_document.specs.Profile.View.{element_view}
use Rattle.wsa_headers.specs.Room.{elements_room}
use Rattle.wsa_headers.proofs.room.after_elements.Given as goal

-- what is left behind those so far
abbrev pub invariant-loop-element : goal.invariant-loop-element
invariant-loop-element l =
    elements_room (map element_view (drop l.element-index l.elements)) l.left
    ≡ elements_room (map element_view l.elements) l.room
