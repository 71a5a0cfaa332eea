use Rattle.std.proofs.Common.{◌≤◌, List, ◌++◌, length, drop}
use Rattle.soap_document.specs.Profile.Scope.{IsStacked}
use Rattle.rm_base.specs.declared.message.Binding.{Binding}
use Rattle.soap_document.specs.Profile.View.{decls_view}
use Rattle.soap_document.proofs.profile.scope.bind_all.Given as goal

-- what is bound so far
abbrev pub invariant-loop-left : goal.invariant-loop-left
invariant-loop-left l = record {
  within : l.left ≤ length l.items;
  bound : (bindings : List Binding) → IsStacked l.initial.stacks bindings
      → IsStacked l.stacks (decls_view (drop l.left l.items) ++ bindings);
}

abbrev pub decreases-loop-left : goal.decreases-loop-left
decreases-loop-left l = l.left
