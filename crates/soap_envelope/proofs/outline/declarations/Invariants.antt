use Rattle.std.proofs.Common.{◌≡◌, ◌++◌, drop}
use Rattle.soap_document.specs.Profile.View.{decls_view}
use Rattle.soap_envelope.proofs.outline.declarations.Given as goal

-- the declarations so far, and those of what is left
abbrev pub invariant-loop-item : goal.invariant-loop-item
invariant-loop-item l = l.decls.items ++ decls_view (drop l.item-index l.items) ≡ decls_view l.items
