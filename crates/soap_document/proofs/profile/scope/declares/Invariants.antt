use Rattle.std.proofs.Common.{◌≡◌, drop}
use Rattle.soap_document.specs.Profile.View.{decls_view}
use Rattle.soap_document.proofs.profile.scope.declares.Given as goal

-- there is none among the items so far
abbrev pub invariant-loop-item : goal.invariant-loop-item
invariant-loop-item l = decls_view (drop l.item-index l.items) ≡ decls_view l.items
