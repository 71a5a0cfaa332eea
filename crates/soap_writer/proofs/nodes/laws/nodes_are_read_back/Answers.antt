use Rattle.soap_writer.proofs.NodesLemmas.NodeBack.{nodes_back}
use Rattle.soap_writer.proofs.nodes.laws.nodes_are_read_back.Goals as goal

pub returns : goal.returns
returns c = λ soap nodes. nodes_back nodes (record {
  attributes = c.attributes_are_read_back.ensures;
  elements = c.element_is_read_back.ensures;
  nothing = c.content_is_read_back.ensures.nothing;
  words = c.content_is_read_back.ensures.words;
  more = c.content_is_read_back.ensures.more;
}) soap
