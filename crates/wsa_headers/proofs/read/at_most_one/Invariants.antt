use Rattle.std.proofs.Common.{◌≡◌, ◌++◌, drop, map}
use Rattle.soap_document.specs.Profile.View.{element_view}
use Rattle.soap_writer.specs.Values.Steps.{listed}
use Rattle.wsa_headers.specs.Addressing.{blocks_named}
use Rattle.wsa_headers.proofs.read.at_most_one.Given as goal

-- the one so far, and those of what is left
abbrev pub invariant-loop-block : goal.invariant-loop-block
invariant-loop-block l =
    listed l.found ++ blocks_named l.local (map element_view (drop l.block-index l.headers))
    ≡ blocks_named l.local (map element_view l.headers)
