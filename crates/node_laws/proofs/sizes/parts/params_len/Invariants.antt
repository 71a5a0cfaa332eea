use Rattle.std.proofs.Common.{◌≡◌, map, take}
use Rattle.std.specs.List.{sum_by}
use Rattle.soap_document.specs.Profile.View.{element_view}
use Rattle.node_laws.specs.Sizes.Size.{capped, param_size}
use Rattle.node_laws.proofs.sizes.parts.params_len.Given as goal

abbrev pub invariant-loop-param : goal.invariant-loop-param
invariant-loop-param l = l.total ≡ capped (sum_by param_size (map element_view (take l.param-index l.params)))
