use Rattle.std.proofs.Common.{◌≡◌, drop, map}
use Rattle.soap_document.specs.Profile.View.{element_view}
use Rattle.soap_writer.specs.Values.Children.{name_in}
use Rattle.message_reader.specs.Blocks.{has_block}
use Rattle.message_reader.proofs.blocks.has_block.Given as goal

-- those that are left decide
abbrev pub invariant-loop-block : goal.invariant-loop-block
invariant-loop-block l =
    has_block (name_in l.space l.local) (map element_view (drop l.block-index l.headers))
    ≡ has_block (name_in l.space l.local) (map element_view l.headers)
