use Rattle.std.proofs.Common.{◌≡◌, drop}
use Rattle.soap_document.specs.Profile.Namespaces.{bound}
use Rattle.soap_document.specs.Profile.View.{decls_view}
use Rattle.soap_writer.proofs.values.qnames.find_declared.Given as goal

-- none of those so far binds it
abbrev pub invariant-loop-item : goal.invariant-loop-item
invariant-loop-item l =
    bound l.prefix (decls_view (drop l.item-index l.items)) ≡ bound l.prefix (decls_view l.items)
