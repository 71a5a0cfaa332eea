use Rattle.rm_relay.proofs.WordLemmas.PromiseLemmas.{each-relay}
use Rattle.rm_relay.proofs.word.laws.every_relay_keeps_its_word.Goals as goal

pub returns : goal.returns
returns c = each-relay (record {
  stays = c.two_nodes_stay_a_pair.ensures;
  turns = c.a_pair_turns.ensures;
  tells = c.a_pair_tells.ensures;
  apart = c.an_identifier_tells_its_node.ensures;
  announces = c.what_is_announced_stays.ensures;
  ends = c.ends_are_right.ensures;
  sets = c.sets_unite.ensures;
  within = c.what_is_acknowledged_was_accepted.ensures;
  once = c.one_number_one_identifier.ensures;
}) c.two_made_nodes_are_a_pair.ensures
