use Rattle.rm_wire.proofs.Known.{Known}
use Rattle.rm_wire.proofs.Together.{written_is_read, written_is_read_as_soap}
use Rattle.rm_wire.proofs.laws.what_is_written_is_read.Goals as goal

pub returns : goal.returns
returns c =
    let known : Known = record {
      addressing = c.addressing_is_read_back.ensures;
      own = c.addressing_blocks_are_told.ensures.own;
      header = c.header_is_read_back.ensures;
      foreign = c.header_is_foreign.ensures.foreign;
      lifecycle = c.lifecycle_is_read_back.ensures;
      trees = c.written_tree_is_the_tree.ensures.plain;
    } in
    record {
      any = written_is_read c.text_is_an_envelope.ensures known;
      twelve = written_is_read_as_soap c.text_is_an_envelope.ensures known;
    }
