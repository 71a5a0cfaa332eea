use Rattle.rm_wire.proofs.Known.{Known}
use Rattle.rm_wire.proofs.Lowered.{lowered_spells}
use Rattle.rm_wire.proofs.laws.what_is_lowered_is_read.Goals as goal

pub returns : goal.returns
returns c =
    let known : Known = record {
      addressing = c.addressing_is_read_back.ensures;
      own = c.addressing_blocks_are_told.ensures.own;
      header = c.header_is_read_back.ensures;
      foreign = c.header_is_foreign.ensures.foreign;
      lifecycle = c.lifecycle_is_read_back.ensures;
      trees = c.written_tree_is_the_tree.ensures.plain;
    } in
    lowered_spells c.text11_is_an_envelope.ensures known
