use Rattle.std.proofs.Common.{ap, ◌∙◌}
use Rattle.soap_document.specs.Profile.Scope.{last_of}
use Rattle.soap_document.proofs.ProfileLemmas.Scopes.{last-stacked}
use Rattle.soap_document.proofs.profile.scope.Scope.bound.Goals as goal

pub returns : goal.returns
returns c = λ bindings h.
    let prefix = c.args.prefix.now in
    c.top.ensures ∙ ap last_of (h.each prefix) ∙ last-stacked prefix bindings
