use Rattle.std.proofs.Common.{◌≡◌, drop}
use Rattle.soap_document.specs.Profile.Namespaces.{bound}
use Rattle.soap_writer.proofs.values.qnames.find_among.Given as goal

-- none of those so far binds it
abbrev pub invariant-loop-binding : goal.invariant-loop-binding
invariant-loop-binding l =
    bound l.prefix (drop l.binding-index l.bindings) ≡ bound l.prefix l.bindings
