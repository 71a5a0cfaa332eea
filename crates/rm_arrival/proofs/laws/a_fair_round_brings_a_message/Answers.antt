use Rattle.rm_arrival.proofs.BringLemmas.{round-brings}
use Rattle.rm_arrival.proofs.laws.a_fair_round_brings_a_message.Goals as goal

pub returns : goal.returns
returns c =
    round-brings c.every_step_keeps_the_agreement.ensures c.each_record_may_come_next.ensures
    c.records_leave_other_keys.ensures c.numbers_are_from_one.ensures c.front_is_reached.ensures
    c.union_has_both.ensures
