use Rattle.std.proofs.Common.{List, ◌++◌, take}
use Rattle.rm_base.specs.declared.message.Binding.{Binding}
use Rattle.soap_envelope.specs.Steps.{Binds}
use Rattle.soap_envelope.proofs.scope.bind.Given as goal

-- the map binds what it did, and behind that what the declarations so far do
abbrev pub invariant-loop-binding : goal.invariant-loop-binding
invariant-loop-binding l = (before : List Binding) → Binds l.initial.known before → Binds l.known (before
    ++ take l.binding-index l.bindings)
