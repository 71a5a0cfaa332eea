-- Why bytes or an element are no policy.
use Rattle.soap_document.specs.declared.profile.error.EnvelopeError.{EnvelopeError}
use Rattle.soap_document.specs.declared.profile.error.EnvelopeError.TheVariants as documents
use Rattle.soap_writer.specs.declared.values.flaw.Flaw.{Flaw}
use Rattle.soap_writer.specs.declared.values.flaw.Flaw.TheVariants as flaws
use Rattle.rm_policy.specs.declared.alternatives.error.WspError.{WspError}
use Rattle.rm_policy.specs.declared.alternatives.error.WspError.TheVariants.{Memory, Envelope, Malformed}

-- the cause that they are no document, or want of memory
abbrev pub refusal_of : EnvelopeError → WspError
refusal_of documents.Memory = Memory
refusal_of (documents.TooLong len) = Envelope (documents.TooLong len)
refusal_of (documents.NotUtf8 place) = Envelope (documents.NotUtf8 place)
refusal_of documents.NotProfile = Envelope documents.NotProfile
refusal_of documents.WrongVersion = Envelope documents.WrongVersion
refusal_of documents.NotEnvelope = Envelope documents.NotEnvelope

-- a flaw in an element
abbrev pub flaw_refusal : Flaw → WspError
flaw_refusal flaws.Memory = Memory
flaw_refusal flaws.Malformed = Malformed
