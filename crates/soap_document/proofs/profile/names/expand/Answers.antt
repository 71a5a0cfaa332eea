use Rattle.std.proofs.Common.{ap, ◌∙◌}
use Rattle.soap_document.specs.Profile.View.{decls_view}
use Rattle.soap_document.proofs.ProfileLemmas.Tags.{decls_attribute}
use Rattle.soap_document.proofs.profile.names.expand.Goals as goal

pub returns-clause-decls : goal.returns-clause-decls
returns-clause-decls c =
    ap decls_view c.in_ok-push.ensures.items
    ∙ decls_attribute c.args.items.now.items (record { name = c.in-Some.name; value = c.in_ok-value.value })
