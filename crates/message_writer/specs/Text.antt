-- The text of a message: SOAP 1.2 Part 1, section 5, with the header blocks and body elements of WS-Addressing 1.0,
-- WS-ReliableMessaging 1.2 and WS-MakeConnection 1.1.
use Rattle.std.specs.Prelude.{ℕ, List, [], ◌∷◌, ◌++◌, false, ◌||◌, if◌then◌else◌, Option, Some, None, codes, map}
use Rattle.std.specs.Prelude.{option_map}
use Rattle.std.specs.List.{flat_map}
use Rattle.std.specs.Option.{option_to_list}
use Rattle.std.specs.Str.{bytes_eq}
use Rattle.soap_lex.specs.Tests.{is_nil}
use Rattle.soap_document.specs.Profile.Namespaces.{xml_space}
use Rattle.soap_document.specs.Profile.Tree.{Element}
use Rattle.soap_document.specs.declared.profile.name.Expanded.{Expanded}
use Rattle.soap_writer.specs.ElementText.{written_name}
use Rattle.soap_writer.specs.Frame.{of_soap}
use Rattle.soap_envelope.specs.Frame.Framed.{framed_text}
use Rattle.soap_writer.specs.Nodes.Node.{Tag as NodeTag, framed, Note, plain, of_xml, declared, Node, Nodes, full, void}
use Rattle.soap_writer.specs.Nodes.Node.{nothing, words, more, leaf, node_text}
use Rattle.wsa_headers.specs.Texts.{addressing_nodes, params_nodes}
use Rattle.rm_message.specs.Elements.Texts.{sequence_node, ack_node, ask_node, pending_node, lifecycle_node}
use Rattle.message_writer.specs.declared.tag.Tag.{Tag}
use Rattle.message_writer.specs.declared.tag.Tag.TheVariants as tags
use Rattle.rm_message.specs.declared.message.Body.{Body}
use Rattle.rm_message.specs.declared.message.Body.TheVariants as body
use Rattle.rm_message.specs.declared.message.FaultBody.{FaultBody}
use Rattle.rm_message.specs.declared.message.FaultCode.{FaultCode}
use Rattle.rm_message.specs.declared.message.FaultCode.TheVariants.{VersionMismatch, MustUnderstand}
use Rattle.rm_message.specs.declared.message.FaultCode.TheVariants.{DataEncodingUnknown, Sender, Receiver}
use Rattle.rm_message.specs.declared.message.Message.{Message}

-- the local name of a tag
abbrev pub local_of : Tag → List ℕ
local_of tags.NotUnderstood = codes "NotUnderstood"
local_of tags.Fault = codes "Fault"
local_of tags.Code = codes "Code"
local_of tags.Value = codes "Value"
local_of tags.Subcode = codes "Subcode"
local_of tags.Reason = codes "Reason"
local_of tags.Text = codes "Text"
local_of tags.Detail = codes "Detail"

-- it has the prefix of SOAP
abbrev pub tag_of : Tag → NodeTag
tag_of tag = framed of_soap (local_of tag)

-- ---- names in values (Namespaces 6; SOAP 1.2 Part 1, sections 5.4.1.2, 5.4.1.3 and 5.4.8)

-- a name, with the prefix q where it needs one: not in no namespace, and not in that of xml
abbrev pub qname : Expanded → List ℕ
qname name = written_name (codes "q") name

-- the declaration of that prefix
abbrev pub qname_notes : Expanded → List Note
qname_notes name =
    if is_nil name.space || bytes_eq name.space xml_space then [] else declared (codes "q") name.space ∷ []

-- ---- header blocks

-- nodes among which no text stands, as a list
abbrev pub node_list : Nodes → List Node
node_list nothing = []
node_list (words bytes) = []
node_list (more node nodes) = node ∷ node_list nodes

-- NotUnderstood (5.4.8)
abbrev pub not_understood_node : Expanded → Node
not_understood_node name = void (tag_of tags.NotUnderstood) (plain (codes "qname") (qname name) ∷ qname_notes name)

-- the header blocks of a message, in order
abbrev pub header_blocks : Message → List Node
header_blocks m =
    node_list (addressing_nodes m.addressing) ++ (option_to_list (option_map sequence_node m.sequence)
    ++ (map ack_node m.acks ++ (map ask_node m.asks ++ (option_to_list (option_map pending_node m.pending)
    ++ map not_understood_node m.not_understood))))

-- blocks, one behind the other
abbrev pub blocks_text : List Node → List ℕ
blocks_text blocks = flat_map node_text blocks

-- ---- faults (5.4)

-- a code (5.4.6)
abbrev pub code_text : FaultCode → List ℕ
code_text VersionMismatch = codes "s:VersionMismatch"
code_text MustUnderstand = codes "s:MustUnderstand"
code_text DataEncodingUnknown = codes "s:DataEncodingUnknown"
code_text Sender = codes "s:Sender"
code_text Receiver = codes "s:Receiver"

-- Value of a Subcode (5.4.1.3)
abbrev pub value_node : Expanded → Node
value_node name = full (tag_of tags.Value) (qname_notes name) (words (qname name))

-- a Subcode, where there is one, and what stands within it behind its Value
abbrev pub subcode_nodes : Option Expanded → Nodes → Nodes
subcode_nodes None inner = nothing
subcode_nodes (Some name) inner = more (full (tag_of tags.Subcode) [] (more (value_node name) inner)) nothing

-- Code (5.4.1)
abbrev pub code_node : FaultBody → Node
code_node f = full (tag_of tags.Code) []
    (more (leaf (tag_of tags.Value) (code_text f.code))
    (subcode_nodes f.subcode (subcode_nodes f.inner nothing)))

-- a text that may be empty
abbrev pub words_of : List ℕ → Nodes
words_of [] = nothing
words_of (byte ∷ bytes) = words (byte ∷ bytes)

-- Text, in English (5.4.2.1)
abbrev pub text_node : List ℕ → Node
text_node text = full (tag_of tags.Text) (of_xml (codes "lang") (codes "en") ∷ []) (words_of text)

-- Reason (5.4.2)
abbrev pub reason_node : List ℕ → Node
reason_node reason = full (tag_of tags.Reason) [] (more (text_node reason) nothing)

-- Detail, where there is something in it (5.4.5)
abbrev pub detail_nodes : List Element → Nodes
detail_nodes [] = nothing
detail_nodes (e ∷ es) = more (full (tag_of tags.Detail) [] (params_nodes false (e ∷ es))) nothing

-- Fault
abbrev pub fault_node : FaultBody → Node
fault_node f = full (tag_of tags.Fault) []
    (more (code_node f) (more (reason_node f.reason) (detail_nodes f.detail)))

-- ---- the message

-- what stands in the Body
abbrev pub body_text : Body → List ℕ
body_text body.Empty = []
body_text (body.Payload p) = p.bytes
body_text (body.Lifecycle x) = node_text (lifecycle_node x)
body_text (body.Fault f) = node_text (fault_node f)

-- the whole text, where SOAP has this namespace
abbrev pub message_text : List ℕ → Message → List ℕ
message_text soap m = framed_text soap (blocks_text (header_blocks m)) (body_text m.body)
