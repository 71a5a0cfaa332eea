use Rattle.soap_writer.proofs.NodesLemmas.NodeBack.{tag_good}
use Rattle.soap_writer.proofs.nodes.laws.tag_is_good.Goals as goal

pub returns : goal.returns
returns c = tag_good
