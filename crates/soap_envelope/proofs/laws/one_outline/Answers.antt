use Rattle.soap_envelope.proofs.Unique.{outlines_same}
use Rattle.soap_envelope.proofs.laws.one_outline.Goals as goal

pub returns : goal.returns
returns c = outlines_same
