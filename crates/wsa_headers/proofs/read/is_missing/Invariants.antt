use Rattle.std.proofs.Common.{◌≡◌, drop, map}
use Rattle.soap_document.specs.Profile.View.{element_view}
use Rattle.wsa_headers.specs.Addressing.{is_missing}
use Rattle.wsa_headers.proofs.read.is_missing.Given as goal

-- those that are left decide
abbrev pub invariant-loop-block : goal.invariant-loop-block
invariant-loop-block l =
    is_missing l.local (map element_view (drop l.block-index l.headers)) ≡ is_missing l.local
    (map element_view l.headers)
