use Rattle.std.proofs.Common.{◌≡◌, ◌++◌, drop, map}
use Rattle.soap_writer.specs.ReadBack.{written_attributes}
use Rattle.soap_envelope.specs.Frame.BodyTag.{declaration}
use Rattle.rm_wire.proofs.soap11.lifting.push_bindings.Given as goal

-- those so far, and those of what is left
abbrev pub invariant-loop-binding : goal.invariant-loop-binding
invariant-loop-binding l =
    l.out.items ++ written_attributes (map declaration (drop l.binding-index l.scope))
    ≡ l.initial.out.items ++ written_attributes (map declaration l.scope)
