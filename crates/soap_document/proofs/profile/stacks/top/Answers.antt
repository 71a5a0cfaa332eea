use Rattle.std.proofs.Common.{sym, ap, ◌∙◌}
use Rattle.soap_document.specs.Profile.Scope.{last_of}
use Rattle.soap_document.proofs.ProfileLemmas.Scopes.{stack_seen}
use Rattle.soap_document.proofs.profile.stacks.top.Goals as goal

pub returns-in-Some : goal.returns-in-Some
returns-in-Some c =
    c.last.ensures.value ∙ ap last_of (c.deref.ensures.value ∙ sym (stack_seen c.args.prefix.now c.args.stacks.now
    c.get.result c.in-Some.stack c.get.ensures.value c.in-Some.is))
