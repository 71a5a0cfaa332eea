use Rattle.rm_arrival.proofs.RequestLemmas.{responses-end}
use Rattle.rm_arrival.proofs.laws.a_response_ends_the_wait.Goals as goal

pub returns : goal.returns
returns c = responses-end
