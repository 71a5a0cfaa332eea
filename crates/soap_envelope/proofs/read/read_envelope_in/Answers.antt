use Rattle.std.proofs.Common.{subst}
use Rattle.soap_document.specs.declared.profile.error.EnvelopeError.TheVariants.{TooLong, NotUtf8, NotProfile}
use Rattle.soap_document.specs.declared.profile.read.Placed.{Placed}
use Rattle.soap_document.specs.Profile.Answer.{same_error, errors_alike}
use Rattle.soap_envelope.specs.Steps.{Answers}
use Rattle.soap_envelope.specs.declared.envelope.Envelope.{Envelope}
use Rattle.soap_envelope.proofs.Envelopes.{ok_apart}
use Rattle.soap_envelope.proofs.read.read_envelope_in.Goals as goal

pub returns-in-Ok-clause-not_utf8 : goal.returns-in-Ok-clause-not_utf8
returns-in-Ok-clause-not_utf8 c = λ place. (
  λ e. absurd (subst (Answers c.args.soap.now c.args.bytes.now) e c.envelope_in.ensures),
  λ h. absurd (ok_apart Placed c.in-Ok.field-0 (NotUtf8 place) ((c.in-Ok.ensures.not_utf8 place).1 h)),
)

pub returns-in-Err-clause-too_long : goal.returns-in-Err-clause-too_long
returns-in-Err-clause-too_long c = λ len.
    errors_alike Placed Envelope c.in-Err.error (TooLong len) (c.in-Err.ensures.too_long len)

pub returns-in-Err-clause-not_utf8 : goal.returns-in-Err-clause-not_utf8
returns-in-Err-clause-not_utf8 c = λ place.
    errors_alike Placed Envelope c.in-Err.error (NotUtf8 place) (c.in-Err.ensures.not_utf8 place)

pub returns-in-Err-clause-not_profile : goal.returns-in-Err-clause-not_profile
returns-in-Err-clause-not_profile c = λ e.
    c.in-Err.ensures.not_profile (same_error Envelope Placed c.in-Err.error NotProfile e)
