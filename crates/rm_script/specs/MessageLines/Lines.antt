-- What is printed of a message: a line for each thing that it has, in this order.
use Rattle.std.specs.Prelude.{ℕ, ◌/◌, ◌%◌, ◌&&◌, ◌==◌, not, nat_le, Bool, true, false, if◌then◌else◌, List, [], ◌∷◌}
use Rattle.std.specs.Prelude.{◌++◌, slice_index, codes, decimal, Option, Some, None}
use Rattle.std.specs.List.{flat_map}
use Rattle.hex.specs.Hex.{encode_lower, upper_digits}
use Rattle.rm_sides.specs.declared.ranges.range.Range.{Range}
use Rattle.rm_base.specs.declared.message.Binding.{Binding}
use Rattle.rm_base.specs.declared.message.Payload.{Payload}
use Rattle.rm_message.specs.declared.elements.header.AckBlock.{AckBlock}
use Rattle.rm_message.specs.declared.elements.header.AckKind.{AckKind}
use Rattle.rm_message.specs.declared.elements.header.AckKind.TheVariants.{Ranges, Nothing, Nack}
use Rattle.rm_message.specs.declared.elements.header.SeqHeader.{SeqHeader}
use Rattle.rm_message.specs.declared.elements.lifecycle.Finish.{Finish}
use Rattle.rm_message.specs.declared.elements.lifecycle.Lifecycle.{Lifecycle}
use Rattle.rm_message.specs.declared.elements.lifecycle.Lifecycle.TheVariants as life
use Rattle.rm_message.specs.declared.message.Body.{Body}
use Rattle.rm_message.specs.declared.message.Body.TheVariants as body
use Rattle.rm_message.specs.declared.message.FaultCode.{FaultCode}
use Rattle.rm_message.specs.declared.message.FaultCode.TheVariants as fault
use Rattle.rm_message.specs.declared.message.Message.{Message}

-- ---- values

-- ! is the first visible character of ASCII
abbrev pub first_visible : ℕ
first_visible = 0x21

-- ~ is the last
abbrev pub last_visible : ℕ
last_visible = 0x7e

-- % stands before the digits of a byte that is not written as it is
abbrev pub percent_sign : ℕ
percent_sign = 0x25

-- the byte is a visible character of ASCII, and no %
abbrev pub is_plain : ℕ → Bool
is_plain byte = nat_le first_visible byte && nat_le byte last_visible && not (byte == percent_sign)

-- a byte as it is, or as % and two digits
abbrev pub escaped_byte : ℕ → List ℕ
escaped_byte byte =
    if is_plain byte then byte ∷ []
    else percent_sign ∷ slice_index upper_digits (byte / 16) ∷ slice_index upper_digits (byte % 16) ∷ []

-- bytes, each so
abbrev pub escaped : List ℕ → List ℕ
escaped bytes = flat_map escaped_byte bytes

-- true or false
abbrev pub bool_text : Bool → List ℕ
bool_text true = codes "true"
bool_text false = codes "false"

-- LOWER-UPPER
abbrev pub range_text : Range → List ℕ
range_text range = decimal range.lower ++ codes "-" ++ decimal range.upper

-- the others, each behind a comma
abbrev pub more_ranges : List Range → List ℕ
more_ranges ranges = flat_map (λ range. codes "," ++ range_text range) ranges

-- ranges as they came, parted by commas
abbrev pub ranges_text : List Range → List ℕ
ranges_text [] = []
ranges_text (range ∷ ranges) = range_text range ++ more_ranges ranges

-- the others, each behind a comma
abbrev pub more_numbers : List ℕ → List ℕ
more_numbers numbers = flat_map (λ number. codes "," ++ decimal number) numbers

-- numbers as they came, parted by commas
abbrev pub numbers_text : List ℕ → List ℕ
numbers_text [] = []
numbers_text (number ∷ numbers) = decimal number ++ more_numbers numbers

-- what an acknowledgement tells
abbrev pub kind_text : AckKind → List ℕ
kind_text (Ranges ranges) = ranges_text ranges
kind_text Nothing = codes "none"
kind_text (Nack numbers) = codes "nack " ++ numbers_text numbers

-- whether it is the final one
abbrev pub final_text : Bool → List ℕ
final_text true = codes " final"
final_text false = []

-- ---- lines

-- WORD and a text, of which each byte that is no visible character is escaped
abbrev pub text_line : List ℕ → List ℕ → List ℕ
text_line word value = word ++ codes " " ++ escaped value ++ codes "\n"

-- the same, where there is a text
abbrev pub text_line_of : List ℕ → Option (List ℕ) → List ℕ
text_line_of word None = []
text_line_of word (Some value) = text_line word value

-- sequence IDENTIFIER NUMBER
abbrev pub sequence_line : Option SeqHeader → List ℕ
sequence_line None = []
sequence_line (Some header) =
    codes "sequence " ++ escaped header.ident ++ codes " " ++ decimal header.number ++ codes "\n"

-- ack IDENTIFIER and what it tells
abbrev pub ack_line : AckBlock → List ℕ
ack_line block =
    codes "ack " ++ escaped block.ident ++ codes " " ++ kind_text block.kind ++ final_text block.last ++ codes "\n"

-- ask IDENTIFIER
abbrev pub ask_line : List ℕ → List ℕ
ask_line ident = text_line (codes "ask") ident

-- pending true, or pending false
abbrev pub pending_line : Option Bool → List ℕ
pending_line None = []
pending_line (Some pending) = codes "pending " ++ bool_text pending ++ codes "\n"

-- scope PREFIX NS
abbrev pub scope_line : Binding → List ℕ
scope_line binding = codes "scope " ++ escaped binding.prefix ++ codes " " ++ escaped binding.space ++ codes "\n"

-- ---- the body

-- what the message is
abbrev pub lifecycle_word : Lifecycle → List ℕ
lifecycle_word (life.Create x) = codes "create"
lifecycle_word (life.CreateResponse x) = codes "create-response"
lifecycle_word (life.Close x) = codes "close"
lifecycle_word (life.CloseResponse ident) = codes "close-response"
lifecycle_word (life.Terminate x) = codes "terminate"
lifecycle_word (life.TerminateResponse ident) = codes "terminate-response"
lifecycle_word (life.Make x) = codes "make"

-- by its body
abbrev pub body_word : Body → List ℕ
body_word body.Empty = codes "empty"
body_word (body.Payload payload) = codes "payload"
body_word (body.Lifecycle x) = lifecycle_word x
body_word (body.Fault x) = codes "fault"

-- payload HEX, and its bindings
abbrev pub payload_lines : Payload → List ℕ
payload_lines payload =
    codes "payload " ++ encode_lower payload.bytes ++ codes "\n" ++ flat_map scope_line payload.scope

-- last NUMBER
abbrev pub last_line : Option ℕ → List ℕ
last_line None = []
last_line (Some number) = codes "last " ++ decimal number ++ codes "\n"

-- ident IDENTIFIER, and the last number
abbrev pub finish_lines : Finish → List ℕ
finish_lines finish = text_line (codes "ident") finish.ident ++ last_line finish.last_number

-- the identifier of a body element, and the last number, where it has them
abbrev pub lifecycle_lines : Lifecycle → List ℕ
lifecycle_lines (life.Create x) = []
lifecycle_lines (life.CreateResponse x) = text_line (codes "ident") x.ident
lifecycle_lines (life.Close x) = finish_lines x
lifecycle_lines (life.CloseResponse ident) = text_line (codes "ident") ident
lifecycle_lines (life.Terminate x) = finish_lines x
lifecycle_lines (life.TerminateResponse ident) = text_line (codes "ident") ident
lifecycle_lines (life.Make x) = []

-- the name of a fault's code
abbrev pub code_name : FaultCode → List ℕ
code_name fault.VersionMismatch = codes "VersionMismatch"
code_name fault.MustUnderstand = codes "MustUnderstand"
code_name fault.DataEncodingUnknown = codes "DataEncodingUnknown"
code_name fault.Sender = codes "Sender"
code_name fault.Receiver = codes "Receiver"

-- what the body has
abbrev pub body_lines : Body → List ℕ
body_lines body.Empty = []
body_lines (body.Payload payload) = payload_lines payload
body_lines (body.Lifecycle x) = lifecycle_lines x
body_lines (body.Fault x) = codes "code " ++ code_name x.code ++ codes "\n"

-- ---- the message

-- what its addressing properties are
abbrev pub addressing_lines : Message → List ℕ
addressing_lines m =
    text_line (codes "to") m.addressing.to
    ++ (text_line (codes "action") m.addressing.action
    ++ (text_line_of (codes "id") m.addressing.message_id ++ text_line_of (codes "relates") m.addressing.relates))

-- what its other header blocks are
abbrev pub header_lines : Message → List ℕ
header_lines m =
    sequence_line m.sequence
    ++ (flat_map ack_line m.acks ++ (flat_map ask_line m.asks ++ pending_line m.pending))

-- all lines
abbrev pub message_lines : Message → List ℕ
message_lines m =
    codes "kind " ++ body_word m.body ++ codes "\n" ++ (addressing_lines m ++ (header_lines m ++ body_lines m.body))
