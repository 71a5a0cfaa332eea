use Rattle.rm_protocol.proofs.SettledLemmas.{made-settled, stays-settled}
use Rattle.rm_protocol.proofs.laws.a_pair_names_nothing_to_come.Goals as goal

pub returns-clause-stays : goal.returns-clause-stays
returns-clause-stays c =
    stays-settled c.two_nodes_stay_a_pair.ensures c.one_number_one_identifier.ensures
    c.an_identifier_tells_its_node.ensures

pub returns-clause-made : goal.returns-clause-made
returns-clause-made c = made-settled
