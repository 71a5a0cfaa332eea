use Rattle.node_laws.proofs.EachCall.{each-is-read}
use Rattle.node_laws.proofs.laws.each_message_is_read_back.Goals as goal

pub returns : goal.returns
returns c =
    each-is-read (record { ranges = c.range_is_added.ensures; fault = c.a_fault_keeps_the_rules.ensures })
    c.each_record_may_come_next.ensures c.what_is_written_is_read.ensures.twelve
