use Rattle.rm_replay.proofs.SentLemmas.{accepted_sent}
use Rattle.rm_replay.proofs.laws.what_was_accepted_was_sent.Goals as goal

pub returns : goal.returns
returns c =
    accepted_sent c.a_run_goes_on.ensures.run c.a_run_goes_on.ensures.lines c.accepted_is_sent.ensures
    c.every_run_keeps_the_word.ensures c.own_terms_are_terms.ensures
