use Rattle.soap_envelope.proofs.FrameLemmas.Framing.{blocks_back}
use Rattle.soap_envelope.proofs.frame.laws.blocks_are_content.Goals as goal

pub returns : goal.returns
returns c = blocks_back c.content_is_read_back.ensures.nothing c.content_is_read_back.ensures.more
