use Rattle.std.proofs.Common.{[]}
use Rattle.soap_envelope.proofs.Scopes.{scope_from, binds_nothing}
use Rattle.soap_envelope.proofs.scope.in_force.Goals as goal

pub returns : goal.returns
returns c =
    scope_from c.sorted.result _ _ c.sorted.ensures.kept c.sorted.ensures.ordered (c.in_ok-bind-2.ensures
    c.args.inner.now (c.in_ok-bind.ensures [] (binds_nothing c.new-known.result.entries c.new-known.ensures.empty)))
