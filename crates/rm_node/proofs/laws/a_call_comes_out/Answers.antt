use Rattle.rm_node.proofs.CompleteLemmas.{comes-out}
use Rattle.rm_node.proofs.laws.a_call_comes_out.Goals as goal

pub returns : goal.returns
returns c = comes-out
