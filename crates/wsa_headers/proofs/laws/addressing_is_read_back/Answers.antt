use Rattle.wsa_headers.proofs.AddressingBack.{addressing_again}
use Rattle.wsa_headers.proofs.laws.addressing_is_read_back.Goals as goal

pub returns : goal.returns
returns c = addressing_again (record {
  plain = c.written_tree_is_the_tree.ensures.plain;
  marked = c.written_tree_is_the_tree.ensures.marked;
})
