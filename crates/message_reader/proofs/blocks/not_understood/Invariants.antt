use Rattle.std.proofs.Common.{◌≡◌, ◌++◌, drop, map}
use Rattle.soap_document.specs.Profile.View.{element_view}
use Rattle.message_reader.specs.Blocks.{not_understood}
use Rattle.message_reader.proofs.blocks.not_understood.Given as goal

-- those so far, and those of what is left
abbrev pub invariant-loop-block : goal.invariant-loop-block
invariant-loop-block l =
    l.names ++ not_understood l.soap (map element_view (drop l.block-index l.headers))
    ≡ not_understood l.soap (map element_view l.headers)
