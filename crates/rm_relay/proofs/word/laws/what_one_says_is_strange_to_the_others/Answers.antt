use Rattle.rm_relay.proofs.WordLemmas.StrangeLemmas.{strange}
use Rattle.rm_relay.proofs.word.laws.what_one_says_is_strange_to_the_others.Goals as goal

pub returns : goal.returns
returns c = strange c.an_identifier_tells_its_node.ensures
