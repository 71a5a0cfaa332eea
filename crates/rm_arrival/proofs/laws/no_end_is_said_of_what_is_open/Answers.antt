use Rattle.rm_arrival.proofs.PlainLemmas.{no-end}
use Rattle.rm_arrival.proofs.laws.no_end_is_said_of_what_is_open.Goals as goal

pub returns : goal.returns
returns c = no-end
