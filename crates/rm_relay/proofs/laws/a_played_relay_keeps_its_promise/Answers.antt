use Rattle.rm_relay.proofs.PlayedLemmas.{promise_short, promise_whole}
use Rattle.rm_relay.proofs.laws.a_played_relay_keeps_its_promise.Goals as goal

pub returns-clause-whole : goal.returns-clause-whole
returns-clause-whole c =
    promise_whole c.every_relay_keeps_its_word.ensures c.own_terms_are_terms.ensures

pub returns-clause-short : goal.returns-clause-short
returns-clause-short c =
    promise_short c.every_relay_keeps_its_word.ensures c.own_terms_are_terms.ensures
