use Rattle.rm_wire.proofs.Soap11Lemmas.Lifted.{Known, payload_spells}
use Rattle.rm_wire.proofs.soap11.laws.a_lifted_payload_is_read.Goals as goal

pub returns : goal.returns
returns c =
    let known : Known = record {
      blocks = c.header_blocks_are_read_back.ensures.each;
      bytes = c.header_blocks_are_read_back.ensures.bytes;
      trees = c.header_blocks_are_read_back.ensures.trees;
      content = c.content_is_read_where_more_is_bound.ensures;
      tag = c.declaring_body_is_body.ensures;
      frame = c.tagged_frame_is_an_envelope.ensures;
      payload = c.a_payload_is_read_behind_the_blocks.ensures;
    } in
    payload_spells known c.what_is_read_may_be_written.ensures c.what_is_read_stands.ensures
