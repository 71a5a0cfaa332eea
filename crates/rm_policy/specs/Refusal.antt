-- Why bytes are no assertion that are no document.
use Rattle.soap_document.specs.declared.profile.error.EnvelopeError.{EnvelopeError}
use Rattle.soap_document.specs.declared.profile.error.EnvelopeError.TheVariants as documents
use Rattle.rm_policy.specs.declared.error.PolicyError.{PolicyError}
use Rattle.rm_policy.specs.declared.error.PolicyError.TheVariants.{Memory, Envelope}

-- the cause that they are no document, or want of memory
abbrev pub refusal_of : EnvelopeError → PolicyError
refusal_of documents.Memory = Memory
refusal_of (documents.TooLong len) = Envelope (documents.TooLong len)
refusal_of (documents.NotUtf8 place) = Envelope (documents.NotUtf8 place)
refusal_of documents.NotProfile = Envelope documents.NotProfile
refusal_of documents.WrongVersion = Envelope documents.WrongVersion
refusal_of documents.NotEnvelope = Envelope documents.NotEnvelope
