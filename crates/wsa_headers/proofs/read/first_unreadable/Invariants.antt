use Rattle.std.proofs.Common.{◌≡◌, drop, map}
use Rattle.soap_document.specs.Profile.View.{element_view}
use Rattle.wsa_headers.specs.Addressing.{unreadable}
use Rattle.wsa_headers.proofs.read.first_unreadable.Given as goal

-- it is none of those so far
abbrev pub invariant-loop-block : goal.invariant-loop-block
invariant-loop-block l =
    unreadable (map element_view (drop l.block-index l.headers)) ≡ unreadable (map element_view l.headers)
