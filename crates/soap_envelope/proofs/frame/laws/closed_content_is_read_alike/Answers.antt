use Rattle.soap_envelope.proofs.FrameLemmas.Closed.{closed_alike}
use Rattle.soap_envelope.proofs.frame.laws.closed_content_is_read_alike.Goals as goal

pub returns : goal.returns
returns c = closed_alike
