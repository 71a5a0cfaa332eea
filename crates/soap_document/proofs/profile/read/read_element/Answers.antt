use Rattle.soap_document.specs.declared.profile.error.EnvelopeError.TheVariants.{TooLong, NotUtf8, NotProfile}
use Rattle.soap_document.specs.declared.profile.read.Placed.{Placed}
use Rattle.soap_document.specs.declared.profile.tree.Element.{Element}
use Rattle.soap_document.specs.Profile.Answer.{same_error, errors_alike}
use Rattle.soap_document.proofs.profile.read.read_element.Goals as goal

pub returns-in-Err-clause-too_long : goal.returns-in-Err-clause-too_long
returns-in-Err-clause-too_long c = λ len.
    errors_alike Placed Element c.in-Err.error (TooLong len) (c.in-Err.ensures.too_long len)

pub returns-in-Err-clause-not_utf8 : goal.returns-in-Err-clause-not_utf8
returns-in-Err-clause-not_utf8 c = λ place.
    errors_alike Placed Element c.in-Err.error (NotUtf8 place) (c.in-Err.ensures.not_utf8 place)

pub returns-in-Err-clause-not_profile : goal.returns-in-Err-clause-not_profile
returns-in-Err-clause-not_profile c = λ e.
    c.in-Err.ensures.not_profile (same_error Element Placed c.in-Err.error NotProfile e)
