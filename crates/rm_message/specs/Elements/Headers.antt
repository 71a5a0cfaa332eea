-- Header blocks as values: WS-ReliableMessaging 1.2, sections 3.7 to 3.9, and WS-MakeConnection 1.1, section 3.3.
use Rattle.std.specs.Prelude.{ℕ, List, [], Bool, true, false, not, ◌&&◌, ◌||◌, ◌==◌, nat_lt, if◌then◌else◌, Option}
use Rattle.std.specs.Prelude.{Some, None, is_some, option_map, Result, Ok, Err, codes}
use Rattle.std.specs.Str.{bytes_eq}
use Rattle.rm_base.specs.Message.{max_number}
use Rattle.soap_lex.specs.Tests.{is_nil}
use Rattle.soap_document.specs.Profile.Tree.{Element, Parts, name_of, attrs_of, parts_of}
use Rattle.soap_document.specs.declared.profile.name.Expanded.{Expanded}
use Rattle.soap_document.specs.declared.profile.tree.Attr.{Attr}
use Rattle.soap_writer.specs.Values.Children.{name_in, is_same, children_named, value_among}
use Rattle.soap_writer.specs.Values.Outcome.{◌>>=◌, optional, single, each}
use Rattle.soap_writer.specs.Values.Values.{trimmed, trimmed_text, whole_number, is_true, text_within}
use Rattle.rm_sides.specs.declared.ranges.range.Range.{Range}
use Rattle.rm_message.specs.Elements.Outcome.{rm, mc, named}
use Rattle.rm_message.specs.declared.elements.error.ElementError.{ElementError}
use Rattle.rm_message.specs.declared.elements.error.ElementError.TheVariants.{Malformed, Rollover}
use Rattle.rm_message.specs.declared.elements.header.AckBlock.{AckBlock}
use Rattle.rm_message.specs.declared.elements.header.AckKind.TheVariants.{Ranges, Nothing, Nack}
use Rattle.rm_message.specs.declared.elements.header.Header.{Header}
use Rattle.rm_message.specs.declared.elements.header.Header.TheVariants.{Sequence, Ack, Ask, Pending}
use Rattle.rm_message.specs.declared.elements.header.SeqHeader.{SeqHeader}
use Rattle.rm_message.specs.declared.elements.read.HeaderName.{HeaderName}
use Rattle.rm_message.specs.declared.elements.read.HeaderName.TheVariants as names

-- an identifier of at most 512 bytes, as the text of an element
abbrev pub ident_of : Element → Option (List ℕ)
ident_of e = do
  bytes ← trimmed_text e
  text_within 512 bytes

-- the one Identifier among children (3.4)
unfoldable pub identifier : Parts → Option (List ℕ)
identifier parts = do
  e ← single (children_named (rm (codes "Identifier")) parts)
  ident_of e

-- a message number: 1 to 9223372036854775807 (3.7)
abbrev pub counted : ℕ → Option ℕ
counted n = if n == 0 then None else if nat_lt max_number n then None else Some n

-- a text that is a message number
abbrev pub number_in : List ℕ → Option ℕ
number_in bytes = do
  n ← whole_number bytes
  counted n

-- an element whose text is a message number
abbrev pub number_of : Element → Option ℕ
number_of e = do
  bytes ← trimmed_text e
  number_in bytes

-- ---- Sequence (3.7)

-- a number that is not zero, however great
abbrev pub unless_zero : ℕ → Option ℕ
unless_zero n = if n == 0 then None else Some n

-- the one MessageNumber among children
unfoldable pub message_number : Parts → Option ℕ
message_number parts = do
  e ← single (children_named (rm (codes "MessageNumber")) parts)
  bytes ← trimmed_text e
  n ← whole_number bytes
  unless_zero n

-- an identifier and a number that is not zero
unfoldable pub numbered_in : Parts → Option SeqHeader
numbered_in parts = do
  ident ← identifier parts
  n ← message_number parts
  Some (record { ident = ident; number = n })

-- a number above the greatest is rolled over (4.5)
abbrev pub unless_rolled : Option SeqHeader → Result (Option Header) ElementError
unless_rolled None = Err (Malformed (codes "Sequence"))
unless_rolled (Some s) =
    if nat_lt max_number s.number then Err (Rollover s.ident) else Ok (Some (Sequence s))

-- what the content of a Sequence is
abbrev pub sequence_in : Parts → Result (Option Header) ElementError
sequence_in parts = unless_rolled (numbered_in parts)

-- ---- SequenceAcknowledgement (3.9)

-- a bound of a range, which is an attribute in no namespace
abbrev pub bound_in : List ℕ → Element → Option ℕ
bound_in local e = do
  bytes ← value_among (name_in [] local) (attrs_of e)
  number_in bytes

-- an AcknowledgementRange: its bounds, the lower one at most the upper one
unfoldable pub range_of : Element → Option Range
range_of e = do
  lower ← bound_in (codes "Lower") e
  upper ← bound_in (codes "Upper") e
  if nat_lt upper lower then None else Some (record { lower = lower; upper = upper })

-- ranges, or that there are none, either of them final or not; or numbers that are missing
unfoldable pub ack_of : List ℕ → List Range → Bool → List ℕ → Bool → Option AckBlock
ack_of ident ranges nothing nacks last =
    if nothing then (if is_nil ranges && is_nil nacks
    then Some (record { ident = ident; kind = Nothing; last = last }) else None)
    else if is_nil nacks then (if is_nil ranges then None
    else Some (record { ident = ident; kind = Ranges ranges; last = last }))
    else if is_nil ranges && not last then Some (record { ident = ident; kind = Nack nacks; last = false }) else None

-- what the content of a SequenceAcknowledgement is
unfoldable pub ack_in : Parts → Option AckBlock
ack_in parts = do
  ident ← identifier parts
  ranges ← each range_of (children_named (rm (codes "AcknowledgementRange")) parts)
  nothing ← optional (children_named (rm (codes "None")) parts)
  nacks ← each number_of (children_named (rm (codes "Nack")) parts)
  final ← optional (children_named (rm (codes "Final")) parts)
  ack_of ident ranges (is_some nothing) nacks (is_some final)

-- ---- MessagePending (WS-MakeConnection 1.1, 3.3)

-- whether a mark says that something doesn't hold
abbrev pub is_false : List ℕ → Bool
is_false bytes = bytes_eq (trimmed bytes) (codes "false") || bytes_eq (trimmed bytes) (codes "0")

-- an absent flag is false
abbrev pub flag_of : Option (List ℕ) → Option Bool
flag_of None = Some false
flag_of (Some bytes) = if is_true bytes then Some true else if is_false bytes then Some false else None

-- what the attributes of a MessagePending say
abbrev pub pending_in : List Attr → Option Bool
pending_in attrs = flag_of (value_among (name_in [] (codes "pending")) attrs)

-- ---- all of them

-- which header block a name is of
abbrev pub header_name : Expanded → Option HeaderName
header_name name =
    if is_same name (rm (codes "Sequence")) then Some names.SequenceName
    else if is_same name (rm (codes "SequenceAcknowledgement")) then Some names.AckName
    else if is_same name (rm (codes "AckRequested")) then Some names.AskName
    else if is_same name (mc (codes "MessagePending")) then Some names.PendingName else None

-- the header block that an element of such a name is
abbrev pub header_as : Option HeaderName → List Attr → Parts → Result (Option Header) ElementError
header_as None attrs parts = Ok None
header_as (Some names.SequenceName) attrs parts = sequence_in parts
header_as (Some names.AckName) attrs parts = named (codes "SequenceAcknowledgement") (option_map Ack (ack_in parts))
header_as (Some names.AskName) attrs parts = named (codes "AckRequested") (option_map Ask (identifier parts))
header_as (Some names.PendingName) attrs parts = named (codes "MessagePending") (option_map Pending (pending_in attrs))

-- the header block that an element is, and none where its name is of no other
abbrev pub header_of : Element → Result (Option Header) ElementError
header_of e = header_as (header_name (name_of e)) (attrs_of e) (parts_of e)
