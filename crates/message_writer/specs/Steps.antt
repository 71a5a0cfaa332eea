-- What the writers of header blocks append, piece by piece.
use Rattle.std.specs.Prelude.{ℕ, List, ◌++◌, codes, map, option_map}
use Rattle.std.specs.Option.{option_to_list}
use Rattle.rm_message.specs.Elements.Texts.{sequence_node, ack_node, ask_node, pending_node}
use Rattle.rm_message.specs.declared.message.Message.{Message}
use Rattle.message_writer.specs.Text.{not_understood_node, blocks_text}
use Rattle.message_writer.specs.Text11.{sequence_marked, ahead_of}

-- the blocks behind those of the addressing properties
abbrev pub other_text : Message → List ℕ
other_text m =
    blocks_text (option_to_list (option_map sequence_node m.sequence)) ++ (blocks_text (map ack_node m.acks)
    ++ (blocks_text (map ask_node m.asks) ++ (blocks_text (option_to_list (option_map pending_node m.pending))
    ++ blocks_text (map not_understood_node m.not_understood))))

-- the same in SOAP 1.1
abbrev pub other11_text : Message → List ℕ
other11_text m =
    blocks_text (option_to_list (option_map (sequence_marked (codes "1")) m.sequence))
    ++ (blocks_text (map ack_node m.acks) ++ (blocks_text (map ask_node m.asks) ++ (blocks_text (option_to_list
    (option_map pending_node m.pending))
    ++ blocks_text (ahead_of m.body))))
