-- What a reader of envelopes may have answered of bytes: SOAP 1.2 Part 1, section 5.
use Rattle.std.specs.Prelude.{◌≡◌, ℕ, List, Result, Err, IfOk}
use Rattle.soap_envelope.specs.Envelope.{IsEnvelope}
use Rattle.soap_envelope.specs.Refusals.{WrongVersion, NotEnvelope}
use Rattle.soap_envelope.specs.Soap.{soap_space}
use Rattle.soap_envelope.specs.View.{envelope_view}
use Rattle.soap_envelope.specs.declared.envelope.Envelope.{Envelope}
use Rattle.soap_document.specs.Profile.Document.{IsReadable, IsTooLong, IsTextUpTo, HasNoTree}
use Rattle.soap_document.specs.declared.profile.error.EnvelopeError.{EnvelopeError}
use Rattle.soap_document.specs.declared.profile.error.EnvelopeError.TheVariants as Error

-- the envelope that the bytes are where SOAP has this namespace, or a reason why they are none; or memory was wanting
pub record IsReadingIn (soap bytes : List ℕ) (answer : Result Envelope EnvelopeError) : Type 0 where
  pub ok : IfOk answer (λ envelope. IsEnvelope soap bytes (envelope_view envelope))
  pub fits : IfOk answer (λ _. IsReadable bytes)
  pub too_long : (len : ℕ) → answer ≡ Err (Error.TooLong len) → IsTooLong bytes len
  pub not_utf8 : (place : ℕ) → answer ≡ Err (Error.NotUtf8 place) → IsTextUpTo bytes place
  pub not_profile : answer ≡ Err Error.NotProfile → HasNoTree bytes
  pub wrong_version : answer ≡ Err Error.WrongVersion → IsReadable bytes × WrongVersion soap bytes
  pub not_envelope : answer ≡ Err Error.NotEnvelope → IsReadable bytes × NotEnvelope soap bytes

-- the same of a reader of SOAP 1.2
abbrev pub IsReading : List ℕ → Result Envelope EnvelopeError → Type 0
IsReading bytes answer = IsReadingIn soap_space bytes answer
