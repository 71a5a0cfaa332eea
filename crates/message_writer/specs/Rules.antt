-- The rules of a message that is written, and the envelope that its text then is: SOAP 1.2 Part 1, section 5, and
-- WS-ReliableMessaging 1.2, section 3.
use Rattle.std.specs.Prelude.{◌≡◌, ◌≢◌, ◌≤◌, ℕ, List, [], ◌∷◌, Option, None, IsSome, IfSome, Contains, codes, map}
use Rattle.std.specs.List.{AllByRecursion}
use Rattle.rm_base.specs.Text.{IsText}
use Rattle.rm_base.specs.declared.message.Payload.{Payload}
use Rattle.soap_lex.specs.Characters.{IsChars}
use Rattle.soap_document.specs.Profile.Payload.{height, IsClosedContent}
use Rattle.soap_document.specs.Profile.Tree.{Element, Parts, none, child, name_of, children_of}
use Rattle.soap_document.specs.declared.profile.name.Expanded.{Expanded}
use Rattle.soap_envelope.specs.Envelope.{Envelope, name_in}
use Rattle.soap_writer.specs.Writable.{IsNameWritable, IsWritable}
use Rattle.soap_envelope.specs.Frame.Framed.{Block, sorted_scope, framed_envelope}
use Rattle.soap_writer.specs.Nodes.Node.{Node, node_text, node_tree}
use Rattle.soap_writer.specs.Values.Values.{trimmed}
use Rattle.wsa_headers.specs.Addressing.{first_of}
use Rattle.wsa_headers.specs.Writable.{IsAddressingWritable}
use Rattle.wsa_headers.specs.declared.addressing.Addressing.{Addressing}
use Rattle.rm_message.specs.Elements.Texts.{lifecycle_node}
use Rattle.rm_message.specs.Elements.Writable.{IsSequenceWritable, IsAckWritable, IsLifecycleWritable}
use Rattle.rm_message.specs.declared.elements.header.SeqHeader.{SeqHeader}
use Rattle.rm_message.specs.declared.elements.lifecycle.Lifecycle.{Lifecycle}
use Rattle.rm_message.specs.declared.elements.lifecycle.Lifecycle.TheVariants as life
use Rattle.rm_message.specs.Actions.{create_sequence, create_sequence_response, close_sequence}
use Rattle.rm_message.specs.Actions.{close_sequence_response, terminate_sequence, terminate_sequence_response}
use Rattle.rm_message.specs.Actions.{ack_requested, sequence_acknowledgement, wsrm_fault, make_connection}
use Rattle.rm_message.specs.declared.message.Body.{Body}
use Rattle.rm_message.specs.declared.message.Body.TheVariants as body
use Rattle.rm_message.specs.declared.message.FaultBody.{FaultBody}
use Rattle.rm_message.specs.declared.message.Message.{Message}
use Rattle.message_writer.specs.Text.{header_blocks, body_text, fault_node}

-- ---- a Fault

-- a subcode is in a namespace (5.4.1.3)
pub record IsSubcodeWritable (name : Expanded) : Type 0 where
  pub writable : IsNameWritable name
  pub spaced : name.space ≢ []

-- an element of Detail, around which stand Envelope, Body, Fault and Detail
pub record IsDetailWritable (e : Element) : Type 0 where
  pub writable : IsWritable e
  pub shallow : height e ≤ 96

-- subcodes, the inner one only within another; a reason of characters without white space at its ends; and elements
pub record IsFaultWritable (f : FaultBody) : Type 0 where
  pub subcode : IfSome f.subcode IsSubcodeWritable
  pub inner : IfSome f.inner IsSubcodeWritable
  pub within : IsSome f.inner → IsSome f.subcode
  pub reason : IsChars f.reason
  pub ends : trimmed f.reason ≡ f.reason
  pub detail : AllByRecursion IsDetailWritable f.detail

-- ---- the Body

-- closed content, with the bindings of a frame around it, where SOAP has this namespace
pub record IsPayloadWritable (soap : List ℕ) (p : Payload) : Type 0 where
  pub closed : IsClosedContent p.bytes
  pub scope : p.scope ≡ sorted_scope soap

-- what may stand there
abbrev pub IsBodyWritable : List ℕ → Body → Type 0
IsBodyWritable soap body.Empty = Unit {0}
IsBodyWritable soap (body.Payload p) = IsPayloadWritable soap p
IsBodyWritable soap (body.Lifecycle x) = IsLifecycleWritable x
IsBodyWritable soap (body.Fault f) = IsFaultWritable f

-- what it is read as
abbrev pub body_parts : (soap : List ℕ) (b : Body) → IsBodyWritable soap b → Parts
body_parts soap body.Empty rules = none
body_parts soap (body.Payload p) rules = rules.closed.parts
body_parts soap (body.Lifecycle x) rules = child (node_tree soap (lifecycle_node x)) none
body_parts soap (body.Fault f) rules = child (node_tree soap (fault_node f)) none

-- ---- what belongs together

-- the action of a body element (WS-ReliableMessaging 1.2, 3.4 to 3.6; WS-MakeConnection 1.1, 3.2)
abbrev pub action_for : Lifecycle → List ℕ
action_for (life.Create x) = create_sequence
action_for (life.CreateResponse x) = create_sequence_response
action_for (life.Close x) = close_sequence
action_for (life.CloseResponse ident) = close_sequence_response
action_for (life.Terminate x) = terminate_sequence
action_for (life.TerminateResponse ident) = terminate_sequence_response
action_for (life.Make x) = make_connection

-- the actions of messages whose Body says nothing (WS-ReliableMessaging 1.2, 3.8, 3.9 and 4)
abbrev pub bare_actions : List (List ℕ)
bare_actions = sequence_acknowledgement ∷ ack_requested ∷ wsrm_fault ∷ []

-- all actions of the protocol
abbrev pub protocol_actions : List (List ℕ)
protocol_actions =
    create_sequence ∷ create_sequence_response ∷ close_sequence ∷ close_sequence_response ∷ terminate_sequence
    ∷ terminate_sequence_response ∷ make_connection ∷ bare_actions

-- CreateSequence has a MessageID
abbrev pub HasItsId : Lifecycle → Option (List ℕ) → Type 0
HasItsId (life.Create x) id = IsSome id
HasItsId _ id = Unit {0}

-- the first element of a payload is no Fault
abbrev pub NoFaultFirst : List ℕ → Parts → Type 0
NoFaultFirst soap parts = IfSome (first_of (children_of parts)) (λ e. name_of e ≢ name_in soap (codes "Fault"))

-- the action and the headers are those of the body: only a payload has a number, and its action is none of the protocol
abbrev pub BelongTogether : (soap : List ℕ) → Addressing → Option SeqHeader → (b : Body) → IsBodyWritable soap b
    → Type 0
BelongTogether soap a sequence body.Empty rules = (sequence ≡ None) × Contains bare_actions a.action
BelongTogether soap a sequence (body.Payload p) rules =
    ¬ (Contains protocol_actions a.action) × (sequence ≡ None → NoFaultFirst soap rules.closed.parts)
BelongTogether soap a sequence (body.Lifecycle x) rules =
    (sequence ≡ None) × (a.action ≡ action_for x) × HasItsId x a.message_id
BelongTogether soap a sequence (body.Fault f) rules = sequence ≡ None

-- ---- the message

-- the rules of a message that is written, where SOAP has this namespace
pub record KeepsRules (soap : List ℕ) (m : Message) : Type 0 where
  pub addressing : IsAddressingWritable m.addressing
  pub sequence : IfSome m.sequence IsSequenceWritable
  pub acks : AllByRecursion IsAckWritable m.acks
  pub asks : AllByRecursion (IsText 512) m.asks
  pub not_understood : AllByRecursion IsNameWritable m.not_understood
  pub body : IsBodyWritable soap m.body
  pub together : BelongTogether soap m.addressing m.sequence m.body body

-- the rules of what stands in its header
pub record HeaderKeepsRules (m : Message) : Type 0 where
  pub addressing : IsAddressingWritable m.addressing
  pub sequence : IfSome m.sequence IsSequenceWritable
  pub acks : AllByRecursion IsAckWritable m.acks
  pub asks : AllByRecursion (IsText 512) m.asks
  pub not_understood : AllByRecursion IsNameWritable m.not_understood

-- which a message keeps that keeps all
abbrev pub header_rules : (soap : List ℕ) (m : Message) → KeepsRules soap m → HeaderKeepsRules m
header_rules soap m rules = record {
  addressing = rules.addressing;
  sequence = rules.sequence;
  acks = rules.acks;
  asks = rules.asks;
  not_understood = rules.not_understood;
}

-- a header block with what it is read as
abbrev pub block_of : List ℕ → Node → Block
block_of soap node = record { bytes = node_text node; tree = node_tree soap node }

-- the header blocks of a message, with what they are read as
abbrev pub written_blocks : List ℕ → Message → List Block
written_blocks soap m = map (block_of soap) (header_blocks m)

-- the trees of its header blocks, in order
abbrev pub header_trees : List ℕ → Message → List Element
header_trees soap m = map (node_tree soap) (header_blocks m)

-- the envelope that its text is
abbrev pub message_envelope : (soap : List ℕ) (m : Message) → KeepsRules soap m → Envelope
message_envelope soap m rules =
    framed_envelope soap (header_trees soap m) (body_text m.body) (body_parts soap m.body rules.body)
