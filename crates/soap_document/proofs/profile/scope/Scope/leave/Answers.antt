use Rattle.std.proofs.Common.{◌++◌, List, subst}
use Rattle.soap_document.specs.Profile.Scope.{InForce}
use Rattle.rm_base.specs.declared.message.Binding.{Binding}
use Rattle.soap_document.specs.Profile.View.{decls_view}
use Rattle.soap_document.proofs.ProfileLemmas.Scopes.{none_declared}
use Rattle.soap_document.proofs.profile.scope.Scope.leave.Goals as goal

pub returns : goal.returns
returns c = λ bindings h.
    c.forget.ensures (decls_view c.args.items.now ++ bindings) bindings h.elements h.attributes (c.unbind_all.ensures
    bindings h.stacks)

pub returns-then-not-declares : goal.returns-then-not-declares
returns-then-not-declares c = λ bindings h.
    subst (λ (ds : List Binding). InForce c.args.self.now (ds ++ bindings)) (none_declared (decls_view c.args.items.now)
    c.declares.result c.declares.ensures.1 c.if-not-declares.true) h
