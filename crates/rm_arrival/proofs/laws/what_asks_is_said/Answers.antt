use Rattle.rm_arrival.proofs.RequestLemmas.{request-said}
use Rattle.rm_arrival.proofs.laws.what_asks_is_said.Goals as goal

pub returns : goal.returns
returns c = request-said
