-- The faults that refusals are answered with: SOAP 1.2 Part 1, section 5.4, WS-Addressing 1.0 SOAP Binding, section 6,
-- WS-ReliableMessaging 1.2, section 4, and WS-MakeConnection 1.1, section 4. Which kind has which code, and the
-- reasons, are this project's own choice.
use Rattle.std.specs.Prelude.{ℕ, List, [], ◌∷◌, ◌++◌, Option, Some, None, codes, option_map}
use Rattle.std.specs.Option.{option_to_list}
use Rattle.soap_envelope.specs.Soap.{soap_space}
use Rattle.soap_document.specs.Profile.Tree.{Element}
use Rattle.soap_document.specs.declared.profile.name.Expanded.{Expanded}
use Rattle.soap_writer.specs.Frame.{addressing_space, messaging_space, connection_space}
use Rattle.soap_writer.specs.Nodes.Node.{leaf, node_tree}
use Rattle.wsa_headers.specs.declared.addressing.Addressing.{Addressing}
use Rattle.rm_message.specs.Elements.Texts.{r, identifier_node, ack_node}
use Rattle.rm_message.specs.declared.elements.header.AckBlock.{AckBlock}
use Rattle.message_writer.specs.declared.table.Vocabulary.{Vocabulary}
use Rattle.message_writer.specs.declared.table.Vocabulary.TheVariants.{OfSoap, OfAddressing, OfMessaging, OfConnection}
use Rattle.rm_message.specs.declared.message.Body.TheVariants as body
use Rattle.rm_message.specs.declared.message.FaultBody.{FaultBody}
use Rattle.rm_message.specs.declared.message.FaultCode.{FaultCode}
use Rattle.rm_message.specs.declared.message.FaultCode.TheVariants.{VersionMismatch, MustUnderstand, Sender, Receiver}
use Rattle.rm_message.specs.declared.message.Message.{Message}
use Rattle.rm_message.specs.declared.refusal.FaultKind.{FaultKind}
use Rattle.rm_message.specs.declared.refusal.FaultKind.TheVariants as kinds
use Rattle.rm_message.specs.declared.refusal.Refusal.{Refusal}
use Rattle.rm_message.specs.Actions.{wsrm_fault, wsmc_fault, addressing_fault, soap_fault}
use Rattle.rm_message.specs.Kinds.{kind_name}

-- ---- the table

-- a row: the reason, the code, the vocabulary that the fault is of, and the local names of its subcode and of the one
-- within it
pub record Row : Type 0 where
  pub reason : List ℕ
  pub code : FaultCode
  pub whose : Vocabulary
  pub subcode : Option (List ℕ)
  pub inner : Option (List ℕ)

-- a fault of SOAP has no subcode
abbrev pub plain : List ℕ → FaultCode → Row
plain reason code = record { reason = reason; code = code; whose = OfSoap; subcode = None; inner = None }

-- one of another vocabulary has
abbrev pub with_subcode : List ℕ → FaultCode → Vocabulary → List ℕ → Row
with_subcode reason code whose local =
    record { reason = reason; code = code; whose = whose; subcode = Some local; inner = None }

-- and may have one within it
abbrev pub with_inner : List ℕ → FaultCode → Vocabulary → List ℕ → List ℕ → Row
with_inner reason code whose local inner =
    record { reason = reason; code = code; whose = whose; subcode = Some local; inner = Some inner }

-- each kind's row
abbrev pub table : FaultKind → Row
table kinds.TooLong = plain (kind_name kinds.TooLong) Sender
table kinds.NotUtf8 = plain (kind_name kinds.NotUtf8) Sender
table kinds.NotProfile = plain (kind_name kinds.NotProfile) Sender
table kinds.WrongVersion = plain (kind_name kinds.WrongVersion) VersionMismatch
table kinds.NotEnvelope = plain (kind_name kinds.NotEnvelope) Sender
table kinds.NotUnderstood = plain (kind_name kinds.NotUnderstood) MustUnderstand
table kinds.Cardinality =
    with_inner (kind_name kinds.Cardinality) Sender OfAddressing (codes "InvalidAddressingHeader")
    (codes "InvalidCardinality")
table kinds.HeaderMissing =
    with_subcode (kind_name kinds.HeaderMissing) Sender OfAddressing (codes "MessageAddressingHeaderRequired")
table kinds.BadHeader = with_subcode (kind_name kinds.BadHeader) Sender OfAddressing (codes "InvalidAddressingHeader")
table kinds.Malformed = plain (kind_name kinds.Malformed) Sender
table kinds.Rollover = with_subcode (kind_name kinds.Rollover) Sender OfMessaging (codes "MessageNumberRollover")
table kinds.WsrmRequired = with_subcode (kind_name kinds.WsrmRequired) Sender OfMessaging (codes "WSRMRequired")
table kinds.UnknownSequence =
    with_subcode (kind_name kinds.UnknownSequence) Sender OfMessaging (codes "UnknownSequence")
table kinds.SequenceTerminated =
    with_subcode (kind_name kinds.SequenceTerminated) Sender OfMessaging (codes "SequenceTerminated")
table kinds.SequenceClosed = with_subcode (kind_name kinds.SequenceClosed) Sender OfMessaging (codes "SequenceClosed")
table kinds.InvalidAcknowledgement =
    with_subcode (kind_name kinds.InvalidAcknowledgement) Sender OfMessaging (codes "InvalidAcknowledgement")
table kinds.CreateSequenceRefused =
    with_subcode (kind_name kinds.CreateSequenceRefused) Receiver OfMessaging (codes "CreateSequenceRefused")
table kinds.MissingSelection =
    with_subcode (kind_name kinds.MissingSelection) Receiver OfConnection (codes "MissingSelection")
table kinds.UnsupportedSelection =
    with_subcode (kind_name kinds.UnsupportedSelection) Receiver OfConnection (codes "UnsupportedSelection")
table kinds.StoreFull = plain (kind_name kinds.StoreFull) Receiver

-- the action of faults of a vocabulary: SOAP Binding, section 6.2, WS-ReliableMessaging 1.2, section 4, and
-- WS-MakeConnection 1.1, section 4; those of SOAP have that of SOAP Binding, section 6.1
abbrev pub fault_action : Vocabulary → List ℕ
fault_action OfSoap = soap_fault
fault_action OfAddressing = addressing_fault
fault_action OfMessaging = wsrm_fault
fault_action OfConnection = wsmc_fault

-- its namespace
abbrev pub space_of : Vocabulary → List ℕ
space_of OfSoap = soap_space
space_of OfAddressing = addressing_space
space_of OfMessaging = messaging_space
space_of OfConnection = connection_space

-- a local name in it
abbrev pub named : Vocabulary → List ℕ → Expanded
named whose local = record { space = space_of whose; local = local }

-- ---- what goes with a fault

-- Identifier as an element (WS-ReliableMessaging 1.2, 3.4)
abbrev pub ident_element : List ℕ → Element
ident_element ident = node_tree soap_space (identifier_node ident)

-- MaxMessageNumber (WS-ReliableMessaging 1.2, 4.5)
abbrev pub max_element : Element
max_element = node_tree soap_space (leaf (r (codes "MaxMessageNumber")) (codes "9223372036854775807"))

-- SequenceAcknowledgement (WS-ReliableMessaging 1.2, 3.9)
abbrev pub ack_element : AckBlock → Element
ack_element block = node_tree soap_space (ack_node block)

-- Detail (WS-ReliableMessaging 1.2, 4.2 to 4.7): the sequence that the fault speaks of, or the first acknowledgement
-- that is refused
abbrev pub detail_of : FaultKind → Option (List ℕ) → Option AckBlock → List Element
detail_of kinds.Rollover ident block = option_to_list (option_map ident_element ident) ++ max_element ∷ []
detail_of kinds.UnknownSequence ident block = option_to_list (option_map ident_element ident)
detail_of kinds.SequenceTerminated ident block = option_to_list (option_map ident_element ident)
detail_of kinds.SequenceClosed ident block = option_to_list (option_map ident_element ident)
detail_of kinds.InvalidAcknowledgement ident block = option_to_list (option_map ack_element block)
detail_of _ ident block = []

-- SequenceClosed carries the final acknowledgement as a header (WS-ReliableMessaging 1.2, 3.5)
abbrev pub acks_of : FaultKind → Option AckBlock → List AckBlock
acks_of kinds.SequenceClosed block = option_to_list block
acks_of _ block = []

-- NotUnderstood names the headers that were not (SOAP 1.2 Part 1, 5.4.8)
abbrev pub names_of : FaultKind → List Expanded → List Expanded
names_of kinds.NotUnderstood names = names
names_of _ names = []

-- ---- the fault

-- what stands in its Body
abbrev pub fault_body : Row → List Element → FaultBody
fault_body x detail = record {
  code = x.code;
  subcode = option_map (named x.whose) x.subcode;
  inner = option_map (named x.whose) x.inner;
  reason = x.reason;
  detail = detail;
}

-- it goes to the endpoint of the refusal, whose parameters go with it, and relates to the message that was refused
abbrev pub addressing_of : Refusal → Addressing
addressing_of refusal = record {
  to = refusal.endpoint.address;
  action = fault_action (table refusal.kind).whose;
  message_id = None;
  relates = refusal.relates;
  reply_to = None;
  fault_to = None;
  params = refusal.endpoint.params;
}

-- the fault that answers a refusal; the block is the final acknowledgement of SequenceClosed, and the refused one of
-- InvalidAcknowledgement
abbrev pub fault_of : Refusal → Option AckBlock → Message
fault_of refusal block = record {
  addressing = addressing_of refusal;
  sequence = None;
  acks = acks_of refusal.kind block;
  asks = [];
  pending = None;
  not_understood = names_of refusal.kind refusal.names;
  body = body.Fault (fault_body (table refusal.kind) (detail_of refusal.kind refusal.ident block));
}
