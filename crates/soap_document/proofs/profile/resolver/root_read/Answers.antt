use Rattle.std.proofs.Common.{sym, ap, ◌∙◌}
use Rattle.soap_document.specs.Profile.Opened.{rooted}
use Rattle.soap_document.proofs.profile.resolver.root_read.Goals as goal

pub returns-in_default : goal.returns-in_default
returns-in_default c = λ s h. sym (ap rooted (c.in_default.ensures s h))

pub returns : goal.returns
returns c = λ s h.
    let whole = c.in-Some.ensures s h in c.finish-2.ensures s.top whole.1 ∙ sym (ap rooted whole.0)
