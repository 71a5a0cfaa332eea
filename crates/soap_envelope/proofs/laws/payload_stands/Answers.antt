use Rattle.soap_envelope.proofs.Placed
use Rattle.soap_envelope.proofs.laws.payload_stands.Goals as goal

pub returns : goal.returns
returns c = Placed.payload_stands c.content_stands_between.ensures
