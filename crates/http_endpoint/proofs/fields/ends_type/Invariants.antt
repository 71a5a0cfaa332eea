use Rattle.std.proofs.Common.{◌≡◌, length}
use Rattle.http_endpoint.specs.Fields.{ends_type}
use Rattle.http_endpoint.proofs.fields.ends_type.Given as goal

abbrev pub invariant-loop-rest : goal.invariant-loop-rest
invariant-loop-rest l = ends_type l.rest ≡ ends_type l.initial.rest

abbrev pub decreases-loop-rest : goal.decreases-loop-rest
decreases-loop-rest l = length l.rest
