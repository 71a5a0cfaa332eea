use Rattle.rm_arrival.proofs.ArriveLemmas.{each-right}
use Rattle.rm_arrival.proofs.WaitsLemmas.{WaitLaws}
use Rattle.rm_arrival.proofs.laws.each_run_waits_right.Goals as goal

pub returns : goal.returns
returns c =
    let laws : WaitLaws = record {
      first = c.what_waits_stays_exact.ensures.mounted;
      stays = c.what_waits_stays_exact.ensures.after;
      short = c.what_waits_is_exact_in_short.ensures;
      begins = c.what_begins_waits.ensures;
      heard = c.only_what_was_heard_is_recorded.ensures;
    } in
    each-right laws c.every_step_keeps_the_agreement.ensures
