-- The text of a message in SOAP 1.1, with its own mark (4.2.3), without NotUnderstood, and with its own faults.
use Rattle.std.specs.Prelude.{◌≡◌, ℕ, List, [], ◌∷◌, ◌++◌, Bool, true, if◌then◌else◌, Option, Some, None, is_some}
use Rattle.std.specs.Prelude.{codes, map, option_map, decimal}
use Rattle.std.specs.Option.{option_to_list}
use Rattle.soap_envelope.specs.Soap.{soap11_space}
use Rattle.soap_document.specs.Profile.Tree.{Parts, none, child}
use Rattle.soap_envelope.specs.Frame.Framed.{framed_text}
use Rattle.soap_writer.specs.Frame.{of_soap}
use Rattle.soap_writer.specs.Nodes.Node.{prefixed, Node, full, nothing, more, leaf, node_text, node_tree}
use Rattle.wsa_headers.specs.Texts.{addressing_nodes}
use Rattle.rm_message.specs.Elements.Texts.{identifier_node, r, ack_node, ask_node, pending_node}
use Rattle.rm_message.specs.declared.elements.header.SeqHeader.{SeqHeader}
use Rattle.rm_message.specs.declared.message.Body.{Body}
use Rattle.rm_message.specs.declared.message.Body.TheVariants as body
use Rattle.rm_message.specs.declared.message.Message.{Message}
use Rattle.message_writer.specs.Faults11.{ahead_nodes, code11, fault11_node, IsFault11}
use Rattle.message_writer.specs.Rules.{IsBodyWritable, body_parts, KeepsRules}
use Rattle.message_writer.specs.Text.{node_list, blocks_text, body_text}

-- Sequence (WS-ReliableMessaging 1.2, 3.7), which has to be understood by this mark
abbrev pub sequence_marked : List ℕ → SeqHeader → Node
sequence_marked mark x = full (r (codes "Sequence")) (prefixed of_soap (codes "mustUnderstand") mark ∷ [])
    (more (identifier_node x.ident) (more (leaf (r (codes "MessageNumber")) (decimal x.number)) nothing))

-- the header blocks of a message in either version, in order, with this mark and with these last
abbrev pub blocks_with : List ℕ → Message → List Node → List Node
blocks_with mark m last =
    node_list (addressing_nodes m.addressing) ++ (option_to_list (option_map (sequence_marked mark) m.sequence)
    ++ (map ack_node m.acks ++ (map ask_node m.asks ++ (option_to_list (option_map pending_node m.pending) ++ last))))

-- the block that goes ahead of a body
abbrev pub ahead_of : Body → List Node
ahead_of (body.Fault f) = ahead_nodes f.subcode f.detail
ahead_of _ = []

-- the header blocks of a message in SOAP 1.1, whose mark is `1` (4.2.3)
abbrev pub header11_blocks : Message → List Node
header11_blocks m = blocks_with (codes "1") m (ahead_of m.body)

-- what stands in the Body
abbrev pub body11_text : Body → List ℕ
body11_text (body.Fault f) = node_text (fault11_node f)
body11_text b = body_text b

-- the whole text
abbrev pub message11_text : Message → List ℕ
message11_text m = framed_text soap11_space (blocks_text (header11_blocks m)) (body11_text m.body)

-- where SOAP 1.1 has a code for it
abbrev pub text11_if : Bool → Message → Option (List ℕ)
text11_if has m = if has then Some (message11_text m) else None

-- whether SOAP 1.1 has one: only a fault may want it (4.4.1)
abbrev pub has_code11 : Body → Bool
has_code11 (body.Fault f) = is_some (code11 f.code)
has_code11 _ = true

-- a body that SOAP 1.1 can say
abbrev pub IsBody11 : Body → Type 0
IsBody11 (body.Fault f) = IsFault11 f
IsBody11 _ = Unit {0}

-- the rules of a message that is written in SOAP 1.1; its payload, if it has one, is within the bindings of its frame
pub record KeepsRules11 (m : Message) : Type 0 where
  pub rules : KeepsRules soap11_space m
  pub names : m.not_understood ≡ []
  pub body : IsBody11 m.body

-- what a body is read as
abbrev pub body11_parts : (b : Body) → IsBodyWritable soap11_space b → Parts
body11_parts (body.Fault f) rules = child (node_tree soap11_space (fault11_node f)) none
body11_parts b rules = body_parts soap11_space b rules
