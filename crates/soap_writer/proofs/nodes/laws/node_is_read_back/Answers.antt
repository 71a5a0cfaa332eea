use Rattle.soap_writer.proofs.NodesLemmas.NodeBack.{node_back}
use Rattle.soap_writer.proofs.nodes.laws.node_is_read_back.Goals as goal

pub returns : goal.returns
returns c = λ soap node. node_back node (record {
  attributes = c.attributes_are_read_back.ensures;
  elements = c.element_is_read_back.ensures;
  nothing = c.content_is_read_back.ensures.nothing;
  words = c.content_is_read_back.ensures.words;
  more = c.content_is_read_back.ensures.more;
}) soap
