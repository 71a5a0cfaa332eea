use Rattle.record_batch.specs.Sequences.NodeLemmas.{one_more}
use Rattle.record_batch.proofs.sequences.laws.one_more_record_of_the_node.Goals as goal

pub returns : goal.returns
returns c = one_more
