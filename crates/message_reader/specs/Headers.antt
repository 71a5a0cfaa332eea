-- What the header blocks of WS-ReliableMessaging 1.2 (sections 3.7 to 3.9), WS-MakeConnection 1.1 (3.3) and SOAP 1.2
-- Part 1 (5.4.8) say, beside those of WS-Addressing.
use Rattle.std.specs.Prelude.{ℕ, List, [], ◌∷◌, Bool, if◌then◌else◌, Option, Some, None, Result, Ok, Err, codes}
use Rattle.std.specs.List.{flat_map}
use Rattle.soap_document.specs.Profile.Tree.{Element, attrs_of, parts_of}
use Rattle.rm_base.specs.declared.message.Binding.{Binding}
use Rattle.soap_document.specs.declared.profile.name.Expanded.{Expanded}
use Rattle.soap_writer.specs.Values.Children.{name_in, value_among, children_named}
use Rattle.soap_writer.specs.Values.Outcome.{◌>>=◌, optional, single, each, if_present}
use Rattle.soap_writer.specs.Values.QNames.{within, qname_in}
use Rattle.soap_writer.specs.Values.Values.{trimmed_text}
use Rattle.soap_envelope.specs.Soap.{is_soap11}
use Rattle.rm_message.specs.Elements.Headers.{header_of}
use Rattle.rm_message.specs.Elements.Outcome.{rm, mc}
use Rattle.rm_message.specs.declared.elements.error.ElementError.{ElementError}
use Rattle.rm_message.specs.declared.elements.error.ElementError.TheVariants.{Rollover}
use Rattle.rm_message.specs.declared.elements.header.AckBlock.{AckBlock}
use Rattle.rm_message.specs.declared.elements.header.Header.{Header}
use Rattle.rm_message.specs.declared.elements.header.Header.TheVariants.{Sequence, Ack, Ask, Pending}
use Rattle.message_reader.specs.Blocks.{blocks, sequence_fault_name}
use Rattle.message_reader.specs.Faults.{spaced, stripped_in}
use Rattle.message_reader.specs.declared.fault11.SequenceFault.{SequenceFault}
use Rattle.message_reader.specs.declared.headers.Numbered.{Numbered}
use Rattle.message_reader.specs.declared.headers.Numbered.TheVariants.{Unnumbered, Within, RolledOver}

-- an element that is read as an acknowledgement
abbrev pub ack_from : Result (Option Header) ElementError → Option AckBlock
ack_from (Ok (Some (Ack ack))) = Some ack
ack_from _ = None

-- as a request for one
abbrev pub ask_from : Result (Option Header) ElementError → Option (List ℕ)
ask_from (Ok (Some (Ask ident))) = Some ident
ask_from _ = None

-- as MessagePending
abbrev pub pending_from : Result (Option Header) ElementError → Option Bool
pending_from (Ok (Some (Pending more))) = Some more
pending_from _ = None

-- as a Sequence, whose number may be above the greatest
abbrev pub numbered_from : Result (Option Header) ElementError → Option Numbered
numbered_from (Ok (Some (Sequence sequence))) = Some (Within sequence)
numbered_from (Err (Rollover ident)) = Some (RolledOver ident)
numbered_from _ = None

-- the acknowledgement that a block is
abbrev pub ack_of : Element → Option AckBlock
ack_of e = ack_from (header_of e)

-- the sequence whose acknowledgement a block asks for
abbrev pub ask_of : Element → Option (List ℕ)
ask_of e = ask_from (header_of e)

-- what a MessagePending says
abbrev pub pending_of : Element → Option Bool
pending_of e = pending_from (header_of e)

-- the acknowledgements of a message, in order
abbrev pub acks_in : List Element → Option (List AckBlock)
acks_in headers = each ack_of (blocks (rm (codes "SequenceAcknowledgement")) headers)

-- the sequences whose acknowledgements it asks for, in order
abbrev pub asks_in : List Element → Option (List (List ℕ))
asks_in headers = each ask_of (blocks (rm (codes "AckRequested")) headers)

-- its one MessagePending, or none
abbrev pub pending_in : List Element → Option (Option Bool)
pending_in headers = do
  found ← optional (blocks (mc (codes "MessagePending")) headers)
  if_present pending_of found

-- what a Sequence says, where there is one
abbrev pub numbered_of : Option Element → Option Numbered
numbered_of None = Some Unnumbered
numbered_of (Some e) = numbered_from (header_of e)

-- the name of a Sequence block
abbrev pub sequence_name : Expanded
sequence_name = rm (codes "Sequence")

-- its one Sequence, or none
abbrev pub numbered_in : List Element → Option Numbered
numbered_in headers = do
  found ← optional (blocks sequence_name headers)
  numbered_of found

-- what is there, as a list
abbrev pub listed : {A : Type 0} → Option A → List A
listed None = []
listed (Some x) = x ∷ []

-- the name in the attribute qname of a NotUnderstood block
abbrev pub told_name : List Binding → Element → Option Expanded
told_name scope e = do
  bytes ← value_among (name_in [] (codes "qname")) (attrs_of e)
  qname_in (within (e ∷ []) scope) bytes

-- the names that a peer did not understand, in order, where these bindings are in force in the header; a block without
-- a name is passed over, and SOAP 1.1 has no such blocks
abbrev pub told_names : List ℕ → List Binding → List Element → List Expanded
told_names soap scope headers =
    if is_soap11 soap then []
    else flat_map (λ e. listed (told_name scope e)) (blocks (name_in soap (codes "NotUnderstood")) headers)

-- ---- SequenceFault, in SOAP 1.1 (WS-ReliableMessaging 1.2, 4)

-- the name in FaultCode, where these bindings are in force around the block
unfoldable pub fault_code_name : List Binding → Element → Option Expanded
fault_code_name scope e = do
  code ← single (children_named (rm (codes "FaultCode")) (parts_of e))
  bytes ← trimmed_text code
  qname_in (within (code ∷ e ∷ []) scope) bytes

-- what a SequenceFault says: a name, which as a subcode has to be in a namespace, and the elements of Detail
unfoldable pub sequence_fault_of : List Binding → Element → Option SequenceFault
sequence_fault_of scope e = do
  name ← fault_code_name scope e
  detail ← optional (children_named (rm (codes "Detail")) (parts_of e))
  Some (record { subcode = spaced name; detail = stripped_in detail })

-- the one SequenceFault of a message, or none
unfoldable pub sequence_fault_in : List ℕ → List Binding → List Element → Option (Option SequenceFault)
sequence_fault_in soap scope headers = if is_soap11 soap then (do
  found ← optional (blocks sequence_fault_name headers)
  if_present (sequence_fault_of scope) found) else Some None
