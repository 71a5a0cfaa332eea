use Rattle.soap_envelope.proofs.FrameLemmas.Tagged.{tagged}
use Rattle.soap_envelope.proofs.frame.laws.tagged_frame_is_an_envelope.Goals as goal

pub returns : goal.returns
returns c = tagged (record {
  attributes = c.attributes_are_read_back.ensures;
  nothing = c.content_is_read_back.ensures.nothing;
  more = c.content_is_read_back.ensures.more;
})
