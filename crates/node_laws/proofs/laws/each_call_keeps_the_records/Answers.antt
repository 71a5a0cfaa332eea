use Rattle.node_laws.proofs.EachCall.{each-keeps}
use Rattle.node_laws.proofs.laws.each_call_keeps_the_records.Goals as goal

pub returns : goal.returns
returns c =
    each-keeps (record { ranges = c.range_is_added.ensures; fault = c.a_fault_keeps_the_rules.ensures })
    c.each_record_may_come_next.ensures
