use Rattle.rm_protocol.proofs.ExactLemmas.{all-within}
use Rattle.rm_protocol.proofs.laws.what_is_acknowledged_was_accepted.Goals as goal

pub returns : goal.returns
returns c r h s n e = all-within r h s n e
