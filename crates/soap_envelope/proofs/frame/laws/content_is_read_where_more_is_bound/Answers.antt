use Rattle.soap_envelope.proofs.FrameLemmas.Closed.{moved_alike}
use Rattle.soap_envelope.proofs.frame.laws.content_is_read_where_more_is_bound.Goals as goal

pub returns : goal.returns
returns c = moved_alike
