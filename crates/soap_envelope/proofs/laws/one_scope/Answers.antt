use Rattle.soap_envelope.proofs.Unique.{scopes_same}
use Rattle.soap_envelope.proofs.laws.one_scope.Goals as goal

pub returns : goal.returns
returns c = scopes_same
