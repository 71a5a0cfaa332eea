use Rattle.rm_arrival.proofs.ArriveLemmas.{few-arrive}
use Rattle.rm_arrival.proofs.WaitsLemmas.{WaitLaws}
use Rattle.rm_arrival.proofs.laws.what_was_accepted_arrives.Goals as goal

pub returns : goal.returns
returns c =
    let laws : WaitLaws = record {
      first = c.what_waits_stays_exact.ensures.mounted;
      stays = c.what_waits_stays_exact.ensures.after;
      short = c.what_waits_is_exact_in_short.ensures;
      begins = c.what_begins_waits.ensures;
      heard = c.only_what_was_heard_is_recorded.ensures;
    } in
    few-arrive laws c.every_run_keeps_the_word.ensures c.every_step_keeps_the_agreement.ensures
    c.each_record_may_come_next.ensures c.records_leave_other_keys.ensures c.numbers_are_from_one.ensures
    c.front_is_reached.ensures c.union_has_both.ensures
