use Rattle.std.proofs.Common.{◌≡◌, ◌++◌, drop}
use Rattle.soap_writer.specs.Values.Steps.{lent_trees}
use Rattle.wsa_headers.specs.Endpoint.{params_among}
use Rattle.wsa_headers.proofs.endpoint.read_params.Given as goal

-- those so far, and those of what is left
abbrev pub invariant-loop-holder : goal.invariant-loop-holder
invariant-loop-holder l =
    l.params ++ params_among (lent_trees (drop l.holder-index l.holders)) ≡ params_among (lent_trees l.holders)
