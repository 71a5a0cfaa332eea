use Rattle.std.proofs.Common.{◌≡◌, take}
use Rattle.std.specs.List.{sum_by}
use Rattle.node_laws.specs.Sizes.Size.{capped, binding_size}
use Rattle.node_laws.proofs.sizes.parts.scope_len.Given as goal

abbrev pub invariant-loop-binding : goal.invariant-loop-binding
invariant-loop-binding l = l.total ≡ capped (sum_by binding_size (take l.binding-index l.scope))
