use Rattle.message_writer.proofs.Framing.{blocks_written, blocks_bytes, blocks_trees}
use Rattle.message_writer.proofs.laws.header_blocks_are_read_back.Goals as goal

pub returns : goal.returns
returns c = record {
  each = blocks_written (record {
    addressing = c.addressing_is_good.ensures;
    header = c.header_is_good.ensures;
    lifecycle = c.lifecycle_is_good.ensures;
    node = c.node_is_read_back.ensures;
    nothing = c.content_is_read_back.ensures.nothing;
    more = c.content_is_read_back.ensures.more;
    closed = c.closed_content_is_read_alike.ensures;
    frame = c.frame_is_an_envelope.ensures;
  });
  bytes = blocks_bytes;
  trees = blocks_trees;
}
