use Rattle.rm_protocol.proofs.WaitingLemmas.{begun-waits}
use Rattle.rm_protocol.proofs.ExactLemmas.{all-within}
use Rattle.rm_protocol.proofs.laws.what_begins_waits.Goals as goal

pub returns : goal.returns
returns c r f k h fit b = begun-waits r f k h fit (all-within r h) b
