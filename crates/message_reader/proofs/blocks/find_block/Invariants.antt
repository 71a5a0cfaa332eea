use Rattle.std.proofs.Common.{◌≡◌, ◌++◌, drop, map}
use Rattle.soap_document.specs.Profile.View.{element_view}
use Rattle.soap_writer.specs.Values.Children.{name_in}
use Rattle.soap_writer.specs.Values.Steps.{listed}
use Rattle.message_reader.specs.Blocks.{blocks}
use Rattle.message_reader.proofs.blocks.find_block.Given as goal

-- the one so far, and those of what is left
abbrev pub invariant-loop-block : goal.invariant-loop-block
invariant-loop-block l =
    listed l.found ++ blocks (name_in l.space l.local) (map element_view (drop l.block-index l.headers))
    ≡ blocks (name_in l.space l.local) (map element_view l.headers)
