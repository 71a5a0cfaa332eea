use Rattle.std.proofs.Common.{◌++◌}
use Rattle.soap_document.specs.Profile.View.{decls_view}
use Rattle.soap_document.proofs.profile.scope.Scope.enter.Goals as goal

pub returns : goal.returns
returns c = λ bindings h.
    c.forget.ensures bindings (decls_view c.args.items.now ++ bindings) h.elements h.attributes
    (c.in_ok-bind_all.ensures bindings h.stacks)
