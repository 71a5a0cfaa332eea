use Rattle.std.proofs.Common.{◌≡◌, ◌++◌, drop, map}
use Rattle.soap_document.specs.Profile.View.{element_view}
use Rattle.wsa_headers.specs.Addressing.{params_of}
use Rattle.wsa_headers.proofs.read.read_message_params.Given as goal

-- those so far, and those of what is left
abbrev pub invariant-loop-block : goal.invariant-loop-block
invariant-loop-block l =
    l.params ++ params_of (map element_view (drop l.block-index l.headers)) ≡ params_of (map element_view l.headers)
