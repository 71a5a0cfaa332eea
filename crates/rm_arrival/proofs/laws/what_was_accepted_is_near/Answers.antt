use Rattle.rm_arrival.proofs.NearAllLemmas.{accepted-near}
use Rattle.rm_arrival.proofs.NearLemmas.{NearLaws}
use Rattle.rm_arrival.proofs.laws.what_was_accepted_is_near.Goals as goal

pub returns : goal.returns
returns c =
    let near : NearLaws = record {
      both = c.union_has_both.ensures;
      from = c.numbers_are_from_one.ensures;
      reached = c.front_is_reached.ensures;
      knows = c.a_snapshot_knows_all.ensures;
    } in
    accepted-near near c.only_what_was_heard_is_recorded.ensures c.every_step_keeps_the_agreement.ensures
    c.every_run_keeps_the_word.ensures
