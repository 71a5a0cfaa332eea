use Rattle.std.proofs.Common.{◌≡◌, ◌++◌}
use Rattle.soap_envelope.specs.Steps.{kept}
use Rattle.soap_envelope.proofs.scope.sorted.Given as goal

-- the bindings so far, and those of what is left of the map
abbrev pub invariant-loop-prefix : goal.invariant-loop-prefix
invariant-loop-prefix l = l.scope ++ kept l.prefix-iterator ≡ kept l.known.entries
