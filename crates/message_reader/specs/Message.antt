-- The message of an envelope, or the first reason that there is none: SOAP 1.2 Part 1, section 2.6, WS-Addressing 1.0
-- SOAP Binding, section 6.4, and WS-ReliableMessaging 1.2, section 4, where SOAP has a namespace.
use Rattle.std.specs.Prelude.{ℕ, List, [], ◌∷◌, Bool, false, not, ◌&&◌, if◌then◌else◌, Option, Some, None, is_some}
use Rattle.std.specs.Prelude.{Result, Ok, Err, codes}
use Rattle.std.specs.Str.{bytes_eq}
use Rattle.rm_base.specs.declared.message.Payload.{Payload}
use Rattle.soap_document.specs.Profile.Tree.{Element}
use Rattle.soap_document.specs.declared.profile.name.Expanded.{Expanded}
use Rattle.soap_envelope.specs.Envelope.{Envelope}
use Rattle.soap_writer.specs.Values.Outcome.{◌>>=◌}
use Rattle.wsa_headers.specs.Addressing.{addressing_in, uri_header}
use Rattle.wsa_headers.specs.Endpoint.{wsa}
use Rattle.wsa_headers.specs.declared.addressing.Addressing.{Addressing}
use Rattle.wsa_headers.specs.declared.error.AddressingError.{AddressingError}
use Rattle.wsa_headers.specs.declared.error.AddressingError.TheVariants as errors
use Rattle.rm_message.specs.declared.elements.header.AckBlock.{AckBlock}
use Rattle.rm_message.specs.declared.elements.header.SeqHeader.{SeqHeader}
use Rattle.rm_message.specs.Actions.{create_sequence}
use Rattle.rm_message.specs.declared.message.Body.{Body}
use Rattle.rm_message.specs.declared.message.Message.{Message}
use Rattle.message_reader.specs.Blocks.{has_block, not_understood}
use Rattle.message_reader.specs.Bodies.{fault_at, body_in}
use Rattle.message_reader.specs.Headers.{acks_in, asks_in, pending_in, numbered_in, sequence_name, told_names}
use Rattle.message_reader.specs.Headers.{sequence_fault_in}
use Rattle.message_reader.specs.declared.headers.Numbered.{Numbered}
use Rattle.message_reader.specs.declared.headers.Numbered.TheVariants.{Unnumbered, Within, RolledOver}
use Rattle.message_reader.specs.declared.read.Content.{Content}

-- why an envelope has no message, in the order in which it is tested
pub data Wrong : Type 0 where
  -- blocks that had to be understood (SOAP 1.2 Part 1, 2.4), by name
  NotUnderstood : List Expanded → Wrong
  -- a header stands there twice; one is missing; one has no value of its kind (SOAP Binding, 6.4.1)
  Cardinality : Wrong
  HeaderMissing : Wrong
  BadHeader : Wrong
  -- a message with these properties is not well formed; only its number is above the greatest (WS-ReliableMessaging
  -- 1.2,
  -- 4.5)
  Malformed : Addressing → Wrong
  Rollover : Addressing → List ℕ → Wrong

-- an action is that of CreateSequence
abbrev pub is_create : Option (Option (List ℕ)) → Bool
is_create (Some (Some action)) = bytes_eq action create_sequence
is_create _ = false

-- the message has a number in a sequence
abbrev pub is_numbered : Envelope → Bool
is_numbered e = has_block sequence_name e.headers

-- its body is a Fault
abbrev pub has_fault : List ℕ → Envelope → Bool
has_fault soap e = is_some (fault_at soap (is_numbered e) e.body)

-- CreateSequence has to be told from others by its MessageID, unless it is a Fault
abbrev pub lacks_id : List ℕ → Envelope → Bool
lacks_id soap e =
    not (has_block (wsa (codes "MessageID")) e.headers) && not (has_fault soap e)
    && is_create (uri_header (codes "Action") e.headers)

-- the properties, where no MessageID is wanting
abbrev pub unless_lacking : Bool → Result Addressing AddressingError → Result Addressing Wrong
unless_lacking lacking (Err (errors.Cardinality name)) = Err Cardinality
unless_lacking lacking (Err (errors.HeaderMissing name)) = Err HeaderMissing
unless_lacking lacking (Err _) = if lacking then Err HeaderMissing else Err BadHeader
unless_lacking lacking (Ok addressing) = if lacking then Err HeaderMissing else Ok addressing

-- the addressing properties of a message
abbrev pub addressed : List ℕ → Envelope → Result Addressing Wrong
addressed soap e = unless_lacking (lacks_id soap e) (addressing_in e.headers)

-- the bytes of Body, with the bindings in force there
abbrev pub payload_of : Envelope → Payload
payload_of e = record { bytes = e.payload; scope = e.scope }

-- the acknowledgements of a message, and the sequences whose acknowledgements it asks for
abbrev pub Lists : Type 0
Lists = List AckBlock × List (List ℕ)

-- both, from the header blocks
unfoldable pub lists_in : List Element → Option Lists
lists_in headers = do
  acks ← acks_in headers
  asks ← asks_in headers
  Some (acks, asks)

-- its MessagePending and its number
abbrev pub Marks : Type 0
Marks = Option Bool × Numbered

-- both, from the header blocks
unfoldable pub marks_in : List Element → Option Marks
marks_in headers = do
  pending ← pending_in headers
  numbered ← numbered_in headers
  Some (pending, numbered)

-- the body of a message with this action
unfoldable pub body_of : List ℕ → List ℕ → Envelope → Option Body
body_of soap action e = do
  told ← sequence_fault_in soap e.header_scope e.headers
  body_in soap told action (is_numbered e) (payload_of e) e.body

-- what a message with this action has beside its addressing properties
unfoldable pub content_in : List ℕ → List ℕ → Envelope → Option Content
content_in soap action e = do
  lists ← lists_in e.headers
  marks ← marks_in e.headers
  body ← body_of soap action e
  Some (record {
    numbered = marks.1;
    acks = lists.0;
    asks = lists.1;
    pending = marks.0;
    not_understood = told_names soap e.header_scope e.headers;
    body = body;
  })

-- a message of these parts
abbrev pub message_of : Addressing → Option SeqHeader → Content → Message
message_of addressing sequence content = record {
  addressing = addressing;
  sequence = sequence;
  acks = content.acks;
  asks = content.asks;
  pending = content.pending;
  not_understood = content.not_understood;
  body = content.body;
}

-- the number counts last: everything else has to be well formed
abbrev pub with_number : Addressing → Numbered → Content → Result Message Wrong
with_number addressing Unnumbered content = Ok (message_of addressing None content)
with_number addressing (Within sequence) content = Ok (message_of addressing (Some sequence) content)
with_number addressing (RolledOver ident) content = Err (Rollover addressing ident)

-- the properties and the content of a message
abbrev pub with_content : Addressing → Option Content → Result Message Wrong
with_content addressing None = Err (Malformed addressing)
with_content addressing (Some content) = with_number addressing content.numbered content

-- the properties of a message, and what it has beside them
abbrev pub with_addressing : List ℕ → Envelope → Result Addressing Wrong → Result Message Wrong
with_addressing soap e (Err wrong) = Err wrong
with_addressing soap e (Ok addressing) = with_content addressing (content_in soap addressing.action e)

-- unless there are blocks that had to be understood
abbrev pub unless_unknown : List ℕ → Envelope → List Expanded → Result Message Wrong
unless_unknown soap e (name ∷ names) = Err (NotUnderstood (name ∷ names))
unless_unknown soap e [] = with_addressing soap e (addressed soap e)

-- the message of an envelope, or the first reason that there is none
abbrev pub message_in : List ℕ → Envelope → Result Message Wrong
message_in soap e = unless_unknown soap e (not_understood soap e.headers)
