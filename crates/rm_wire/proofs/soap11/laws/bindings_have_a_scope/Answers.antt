use Rattle.rm_wire.proofs.Soap11Lemmas.Scoped.{has_scope}
use Rattle.rm_wire.proofs.soap11.laws.bindings_have_a_scope.Goals as goal

pub returns : goal.returns
returns c = has_scope
