-- What the functions below `decode` answer.
use Rattle.std.specs.Prelude.{◌≡◌, Option, Some, None, option_map, Result, Ok, Err}
use Rattle.wsa_headers.specs.declared.addressing.Addressing.{Addressing}
use Rattle.rm_message.specs.declared.message.Message.{Message}
use Rattle.rm_message.specs.declared.refusal.DecodeError.{DecodeError}
use Rattle.rm_message.specs.declared.refusal.DecodeError.TheVariants as errors
use Rattle.rm_message.specs.declared.refusal.FaultKind.{FaultKind}
use Rattle.rm_message.specs.declared.refusal.FaultKind.TheVariants as kinds
use Rattle.rm_message.specs.declared.refusal.Refusal.{Refusal}
use Rattle.rm_base.specs.declared.failures.Memory.{Memory}
use Rattle.soap_document.specs.declared.profile.error.EnvelopeError.{EnvelopeError}
use Rattle.soap_document.specs.declared.profile.error.EnvelopeError.TheVariants as early
use Rattle.message_reader.specs.Message.{Wrong, NotUnderstood, Cardinality, HeaderMissing, BadHeader, Malformed}
use Rattle.message_reader.specs.Message.{Rollover}
use Rattle.message_reader.specs.Refusals.{blind, refusal_of}
use Rattle.message_reader.specs.declared.cause.Cause.{Cause}
use Rattle.message_reader.specs.declared.cause.Cause.TheVariants as causes

-- the reason that the code keeps, where it is not that memory ran out
abbrev pub wrong_of : Cause → Option Wrong
wrong_of causes.Memory = None
wrong_of (causes.NotUnderstood names) = Some (NotUnderstood names)
wrong_of causes.Cardinality = Some Cardinality
wrong_of causes.HeaderMissing = Some HeaderMissing
wrong_of causes.BadHeader = Some BadHeader
wrong_of (causes.Malformed addressing) = Some (Malformed addressing)
wrong_of (causes.Rollover addressing ident) = Some (Rollover addressing ident)

-- a reason is why there is nothing to be read, unless there is none
abbrev pub IsWhy : {A : Type 0} → Option Wrong → Result A Wrong → Type 0
IsWhy None read = Unit {0}
IsWhy (Some wrong) read = read ≡ Err wrong

-- what a function answers is what is to be read, unless memory ran out
abbrev pub Answers : {A : Type 0} → Result A Cause → Result A Wrong → Type 0
Answers (Ok x) read = read ≡ Ok x
Answers (Err cause) read = IsWhy (wrong_of cause) read

-- the refusal of what was to be read
abbrev pub refused : Result Message Wrong → Option Refusal
refused (Ok m) = None
refused (Err wrong) = Some (refusal_of wrong)

-- the same, with the refusal that comes of a reason
abbrev pub Decodes : Result Message DecodeError → Result Message Wrong → Type 0
Decodes (Ok m) read = read ≡ Ok m
Decodes (Err errors.Memory) read = Unit {0}
Decodes (Err (errors.Refused refusal)) read = refused read ≡ Some refusal

-- a refusal, or that there was no memory for it
abbrev pub told_by : Result Refusal Memory → DecodeError
told_by (Ok refusal) = errors.Refused refusal
told_by (Err memory) = errors.Memory

-- the kind of a refusal of bytes that are no envelope
abbrev pub early_kind : EnvelopeError → Option FaultKind
early_kind early.Memory = None
early_kind (early.TooLong len) = Some kinds.TooLong
early_kind (early.NotUtf8 place) = Some kinds.NotUtf8
early_kind early.NotProfile = Some kinds.NotProfile
early_kind early.WrongVersion = Some kinds.WrongVersion
early_kind early.NotEnvelope = Some kinds.NotEnvelope

-- a refusal of such a kind, unless memory ran out
abbrev pub IsEarly : Option FaultKind → DecodeError → Type 0
IsEarly kind errors.Memory = Unit {0}
IsEarly kind (errors.Refused refusal) = option_map blind kind ≡ Some refusal
