use Rattle.std.proofs.Common.{◌≡◌, ◌++◌, drop, map}
use Rattle.rm_message.specs.Elements.Texts.{ask_node}
use Rattle.message_writer.specs.Text.{blocks_text}
use Rattle.message_writer.proofs.write.push_asks.Given as goal

-- those so far, and those of what is left
abbrev pub invariant-loop-ident : goal.invariant-loop-ident
invariant-loop-ident l =
    l.out.items ++ blocks_text (map ask_node (drop l.ident-index l.asks))
    ≡ l.initial.out.items ++ blocks_text (map ask_node l.asks)
