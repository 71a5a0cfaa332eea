use Rattle.rm_wire.proofs.FaultRules.{fault_keeps}
use Rattle.rm_wire.proofs.laws.a_fault_keeps_the_rules.Goals as goal

pub returns : goal.returns
returns c = fault_keeps c.header_is_good.ensures
