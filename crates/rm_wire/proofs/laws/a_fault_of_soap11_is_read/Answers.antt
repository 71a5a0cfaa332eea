use Rattle.rm_wire.proofs.Fault11Back.{fault11_back, ahead_back}
use Rattle.rm_wire.proofs.laws.a_fault_of_soap11_is_read.Goals as goal

pub returns-clause-fault : goal.returns-clause-fault
returns-clause-fault c = fault11_back c.written_tree_is_the_tree.ensures.plain

pub returns-clause-header : goal.returns-clause-header
returns-clause-header c = ahead_back c.written_tree_is_the_tree.ensures.plain
