use Rattle.soap_envelope.proofs.Unique.{envelopes_same}
use Rattle.soap_envelope.proofs.laws.one_envelope.Goals as goal

pub returns : goal.returns
returns c = envelopes_same c.one_tree.ensures
