use Rattle.std.proofs.Common.{◌≡◌, ◌++◌, drop, map}
use Rattle.message_writer.specs.Text.{not_understood_node, blocks_text}
use Rattle.message_writer.proofs.write.push_names.Given as goal

-- those so far, and those of what is left
abbrev pub invariant-loop-name : goal.invariant-loop-name
invariant-loop-name l =
    l.out.items ++ blocks_text (map not_understood_node (drop l.name-index l.names))
    ≡ l.initial.out.items ++ blocks_text (map not_understood_node l.names)
