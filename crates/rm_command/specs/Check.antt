-- What a run of `wsrm check` is, by how it ended, and what it prints.
use Rattle.std.specs.Prelude.{◌≡◌, ◌≤◌, ℕ, Bool, true, false, List, length, Option, Some, None, Result}
use Rattle.rm_base.specs.Limits as limits
use Rattle.rm_script.specs.Report.Exits as exits
use Rattle.soap_envelope.specs.Soap.{soap_space}
use Rattle.soap_envelope.specs.declared.envelope.Envelope.{Envelope}
use Rattle.soap_document.specs.declared.profile.error.EnvelopeError.{EnvelopeError}
use Rattle.rm_message.specs.declared.message.Message.{Message}
use Rattle.rm_message.specs.declared.refusal.FaultKind.{FaultKind}
use Rattle.rm_message.specs.declared.refusal.FaultKind.TheVariants as kinds
use Rattle.rm_message.specs.declared.refusal.Refusal.{Refusal}
use Rattle.message_reader.specs.Reading.{IsReading}
use Rattle.message_reader.specs.Refusals.{Spells, Refuses}
use Rattle.rm_script.specs.MessageLines.Lines.{message_lines}
use Rattle.rm_command.specs.declared.end.End.{End}
use Rattle.rm_command.specs.declared.end.End.TheVariants.{Refused}
use Rattle.rm_command.specs.declared.end.Fault.{Fault}
use Rattle.rm_command.specs.declared.end.Fault.TheVariants.{NotUtf8, NotProfile, WrongVersion, NotEnvelope}
use Rattle.rm_command.specs.declared.end.Fault.TheVariants.{NotUnderstood, Cardinality, HeaderMissing, BadHeader}
use Rattle.rm_command.specs.declared.end.Fault.TheVariants.{Malformed, Rollover, SecurityUnsupported}
use Rattle.rm_command.specs.declared.end.Fault.TheVariants.{TooLarge, TooManyTerms, TooManyAlternatives}
use Rattle.rm_command.specs.Edge.{Edge}
use Rattle.rm_command.specs.Filter.{EndsFilter, IsFilterStatus}

-- the kind of a fault; none of messages speaks of security or of the limits of policies
abbrev pub kind_of : Fault → Option FaultKind
kind_of NotUtf8 = Some kinds.NotUtf8
kind_of NotProfile = Some kinds.NotProfile
kind_of WrongVersion = Some kinds.WrongVersion
kind_of NotEnvelope = Some kinds.NotEnvelope
kind_of NotUnderstood = Some kinds.NotUnderstood
kind_of Cardinality = Some kinds.Cardinality
kind_of HeaderMissing = Some kinds.HeaderMissing
kind_of BadHeader = Some kinds.BadHeader
kind_of Malformed = Some kinds.Malformed
kind_of Rollover = Some kinds.Rollover
kind_of SecurityUnsupported = None
kind_of TooLarge = None
kind_of TooManyTerms = None
kind_of TooManyAlternatives = None

-- the kinds of refusals that depend on the bytes alone, but for that of their length
abbrev pub is_of_bytes : FaultKind → Bool
is_of_bytes kinds.NotUtf8 = true
is_of_bytes kinds.NotProfile = true
is_of_bytes kinds.WrongVersion = true
is_of_bytes kinds.NotEnvelope = true
is_of_bytes kinds.NotUnderstood = true
is_of_bytes kinds.Cardinality = true
is_of_bytes kinds.HeaderMissing = true
is_of_bytes kinds.BadHeader = true
is_of_bytes kinds.Malformed = true
is_of_bytes kinds.Rollover = true
is_of_bytes _ = false

-- why bytes spell no message: the first kind that holds
pub record HasFault (bytes : List ℕ) (fault : Fault) : Type 0 where
  pub refusal : Refusal
  pub refuses : Refuses soap_space bytes refusal
  pub kind : kind_of fault ≡ Some refusal.kind

-- a reader of envelopes answered this of some bytes, which were no more than an envelope may have
pub record IsReadOfSome (answer : Result Envelope EnvelopeError) : Type 0 where
  pub bytes : List ℕ
  pub reading : IsReading bytes answer
  pub fits : length bytes ≤ limits.envelope_bytes

-- the bytes spell a message, and this is what is printed of it
pub record IsTextOf (bytes text : List ℕ) : Type 0 where
  pub message : Message
  pub spells : Spells soap_space bytes message
  pub printed : text ≡ message_lines message

-- why check refuses bytes
abbrev pub RefusesMessage : List ℕ → End → Type 0
RefusesMessage bytes (Refused fault) = HasFault bytes fault
RefusesMessage bytes _ = ⊥

-- what check did, by how it ended
abbrev pub EndsCheck : {S K : Type 0} → End → Edge S K → Type 0
EndsCheck end e = EndsFilter limits.envelope_bytes (Unit {0}) IsTextOf (λ _. ⊥) RefusesMessage end e

-- the bytes spell a message, in SOAP 1.2
abbrev pub IsAMessage : List ℕ → Type 0
IsAMessage bytes = (m : Message) × Spells soap_space bytes m

-- of a message comes 0, of other bytes 9, of more bytes 8, unless the input, the output or the machine fails
abbrev pub IsCheckStatus : List ℕ → ℕ → Type 0
IsCheckStatus bytes status = IsFilterStatus limits.envelope_bytes exits.refused (IsAMessage bytes) bytes status
