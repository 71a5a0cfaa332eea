use Rattle.message_writer.proofs.Framing11.{text11_envelope}
use Rattle.message_writer.proofs.laws.text11_is_an_envelope.Goals as goal

pub returns : goal.returns
returns c = text11_envelope (record {
  addressing = c.addressing_is_good.ensures;
  header = c.header_is_good.ensures;
  lifecycle = c.lifecycle_is_good.ensures;
  node = c.node_is_read_back.ensures;
  nothing = c.content_is_read_back.ensures.nothing;
  more = c.content_is_read_back.ensures.more;
  closed = c.closed_content_is_read_alike.ensures;
  frame = c.frame_is_an_envelope.ensures;
})
