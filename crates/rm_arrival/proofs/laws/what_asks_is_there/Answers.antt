use Rattle.rm_arrival.proofs.RequestLemmas.{has-request}
use Rattle.rm_arrival.proofs.laws.what_asks_is_there.Goals as goal

pub returns : goal.returns
returns c = has-request
