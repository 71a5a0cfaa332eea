use Rattle.std.proofs.Common.{◌++◌, take, subst}
use Rattle.soap_envelope.specs.Steps.{Binds}
use Rattle.soap_envelope.proofs.Scopes.{taken_more}
use Rattle.soap_envelope.proofs.scope.bind.Goals as goal

pub loop-binding-preserved : goal.loop-binding-preserved
loop-binding-preserved c = λ before known.
    let i = c.loop-binding.binding-index in
    let xs = c.args.bindings.now in
    subst (Binds c.bind_one.new.known) (taken_more before xs i c.binding-item.result c.loop-binding-test.true
    c.binding-item.is) (c.in_ok-bind_one.ensures (before ++ take i xs) (c.loop-binding.invariant before known))
