use Rattle.rm_wire.proofs.Soap11Lemmas.NodeFaults.{kind_told}
use Rattle.rm_wire.proofs.soap11.laws.faults_of_a_node_are_told.Goals as goal

pub returns : goal.returns
returns c = kind_told
