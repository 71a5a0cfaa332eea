use Rattle.node_laws.proofs.EachCall.{each-says}
use Rattle.node_laws.proofs.laws.each_message_keeps_the_rules.Goals as goal

pub returns : goal.returns
returns c =
    each-says (record { ranges = c.range_is_added.ensures; fault = c.a_fault_keeps_the_rules.ensures })
    c.each_record_may_come_next.ensures
