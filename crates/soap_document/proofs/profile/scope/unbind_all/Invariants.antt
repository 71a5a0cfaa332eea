use Rattle.std.proofs.Common.{List, ◌++◌, drop}
use Rattle.soap_document.specs.Profile.Scope.{IsStacked}
use Rattle.rm_base.specs.declared.message.Binding.{Binding}
use Rattle.soap_document.specs.Profile.View.{decls_view}
use Rattle.soap_document.proofs.profile.scope.unbind_all.Given as goal

-- what is still to be unbound
abbrev pub invariant-loop-item : goal.invariant-loop-item
invariant-loop-item l =
    (bindings : List Binding) → IsStacked l.initial.stacks (decls_view l.items ++ bindings)
    → IsStacked l.stacks (decls_view (drop l.item-index l.items) ++ bindings)
