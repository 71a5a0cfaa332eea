use Rattle.soap_envelope.proofs.FrameLemmas.Framing.{framed}
use Rattle.soap_envelope.proofs.frame.laws.frame_is_an_envelope.Goals as goal

pub returns : goal.returns
returns c = framed (record {
  attributes = c.attributes_are_read_back.ensures;
  nothing = c.content_is_read_back.ensures.nothing;
  more = c.content_is_read_back.ensures.more;
})
