-- Which message bytes spell, or why they spell none, and where the fault that says so goes: SOAP 1.2 Part 1, sections
-- 2.6 and 5.4, and WS-Addressing 1.0 Core, section 3.4.
use Rattle.std.specs.Prelude.{◌≡◌, ◌≤◌, ◌<◌, ℕ, List, [], length, Option, Some, None, Result, Ok, Err, codes}
use Rattle.rm_base.specs.Limits as limits
use Rattle.soap_document.specs.Profile.Document.{IsReadable, IsTextUpTo, HasNoTree}
use Rattle.soap_envelope.specs.Envelope.{Envelope, IsEnvelope}
use Rattle.soap_envelope.specs.Refusals.{WrongVersion, NotEnvelope}
use Rattle.wsa_headers.specs.Addressing.{anonymous as anonymous_uri}
use Rattle.wsa_headers.specs.declared.addressing.Addressing.{Addressing}
use Rattle.wsa_headers.specs.declared.endpoint.Epr.{Epr}
use Rattle.rm_message.specs.declared.message.Message.{Message}
use Rattle.rm_message.specs.declared.refusal.DecodeError.{DecodeError}
use Rattle.rm_message.specs.declared.refusal.DecodeError.TheVariants.{Memory, Refused}
use Rattle.rm_message.specs.declared.refusal.FaultKind.{FaultKind}
use Rattle.rm_message.specs.declared.refusal.FaultKind.TheVariants as kinds
use Rattle.rm_message.specs.declared.refusal.Refusal.{Refusal}
use Rattle.message_reader.specs.Message.{Wrong, NotUnderstood, Cardinality, HeaderMissing, BadHeader, Malformed}
use Rattle.message_reader.specs.Message.{Rollover, message_in}

-- bytes spell a message: they are an envelope, no longer than one may be, and it has the values of this message
pub record Spells (soap bytes : List ℕ) (m : Message) : Type 0 where
  pub envelope : Envelope
  pub is : IsEnvelope soap bytes envelope
  pub fits : length bytes ≤ limits.envelope_bytes
  pub reads : message_in soap envelope ≡ Ok m

-- back on the connection that a message came on (Core, 2.1)
abbrev pub anonymous : Epr
anonymous = record { address = anonymous_uri; params = [] }

-- whom a fault goes to: FaultTo, else ReplyTo, else back on the connection (Core, 3.4)
abbrev pub fault_endpoint : Option Epr → Option Epr → Epr
fault_endpoint (Some fault_to) reply_to = fault_to
fault_endpoint None (Some reply_to) = reply_to
fault_endpoint None None = anonymous

-- a refusal of bytes whose addressing properties are not known: it goes back on the connection, and relates to nothing
abbrev pub blind : FaultKind → Refusal
blind kind = record { kind = kind; endpoint = anonymous; relates = None; names = []; ident = None }

-- the refusal of a message with these properties, which speaks of a sequence or of none
abbrev pub addressed_refusal : FaultKind → Addressing → Option (List ℕ) → Refusal
addressed_refusal kind addressing ident = record {
  kind = kind;
  endpoint = fault_endpoint addressing.fault_to addressing.reply_to;
  relates = addressing.message_id;
  names = [];
  ident = ident;
}

-- the refusal of an envelope without a message
abbrev pub refusal_of : Wrong → Refusal
refusal_of (NotUnderstood names) = record (blind kinds.NotUnderstood) { names = names }
refusal_of Cardinality = blind kinds.Cardinality
refusal_of HeaderMissing = blind kinds.HeaderMissing
refusal_of BadHeader = blind kinds.BadHeader
refusal_of (Malformed addressing) = addressed_refusal kinds.Malformed addressing None
refusal_of (Rollover addressing ident) = addressed_refusal kinds.Rollover addressing (Some ident)

-- bytes spell no message, and this is the refusal of the first kind that holds
pub data Refuses (soap bytes : List ℕ) : Refusal → Type 0 where
  too_long : limits.envelope_bytes < length bytes → Refuses soap bytes (blind kinds.TooLong)
  not_utf8 : (place : ℕ) → IsTextUpTo bytes place → Refuses soap bytes (blind kinds.NotUtf8)
  not_profile : HasNoTree bytes → Refuses soap bytes (blind kinds.NotProfile)
  wrong_version : IsReadable bytes → WrongVersion soap bytes → Refuses soap bytes (blind kinds.WrongVersion)
  not_envelope : IsReadable bytes → NotEnvelope soap bytes → Refuses soap bytes (blind kinds.NotEnvelope)
  without_message : (wrong : Wrong) (e : Envelope) → IsReadable bytes → IsEnvelope soap bytes e
      → message_in soap e ≡ Err wrong → Refuses soap bytes (refusal_of wrong)

-- why bytes were not decoded, unless memory ran out
abbrev pub IsRefusal : List ℕ → List ℕ → DecodeError → Type 0
IsRefusal soap bytes Memory = Unit {0}
IsRefusal soap bytes (Refused refusal) = Refuses soap bytes refusal
