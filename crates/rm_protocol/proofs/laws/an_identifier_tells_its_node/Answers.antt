use Rattle.rm_protocol.proofs.TellLemmas.{issued-by-one}
use Rattle.rm_protocol.proofs.laws.an_identifier_tells_its_node.Goals as goal

pub returns : goal.returns
returns c = issued-by-one
