use Rattle.rm_arrival.proofs.EachLemmas.{message-arrives}
use Rattle.rm_arrival.proofs.RoundsLemmas.{RoundLaws}
use Rattle.rm_arrival.proofs.laws.each_message_arrives.Goals as goal

pub returns : goal.returns
returns c =
    let laws : RoundLaws = record {
      waits = record {
        first = c.what_waits_stays_exact.ensures.mounted;
        stays = c.what_waits_stays_exact.ensures.after;
        short = c.what_waits_is_exact_in_short.ensures;
        begins = c.what_begins_waits.ensures;
        heard = c.only_what_was_heard_is_recorded.ensures;
      };
      sound = c.every_step_keeps_the_agreement.ensures;
      next = c.each_record_may_come_next.ensures;
      wait_on = c.records_leave_other_keys.ensures;
      from = c.numbers_are_from_one.ensures;
      reached = c.front_is_reached.ensures;
      both = c.union_has_both.ensures;
    } in
    message-arrives laws c.every_run_keeps_the_word.ensures
