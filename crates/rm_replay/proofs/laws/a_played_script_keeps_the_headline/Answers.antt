use Rattle.rm_replay.proofs.PlayedLemmas.{headline_short, headline_whole}
use Rattle.rm_replay.proofs.laws.a_played_script_keeps_the_headline.Goals as goal

pub returns-clause-whole : goal.returns-clause-whole
returns-clause-whole c =
    headline_whole c.a_run_goes_on.ensures.run c.every_run_keeps_the_word.ensures c.own_terms_are_terms.ensures

pub returns-clause-short : goal.returns-clause-short
returns-clause-short c =
    headline_short c.a_run_goes_on.ensures.run c.every_run_keeps_the_word.ensures c.own_terms_are_terms.ensures
