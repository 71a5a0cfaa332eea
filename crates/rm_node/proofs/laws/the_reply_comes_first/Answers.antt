use Rattle.rm_node.proofs.ReplyLemmas.{comes-first}
use Rattle.rm_node.proofs.laws.the_reply_comes_first.Goals as goal

pub returns : goal.returns
returns c = comes-first
