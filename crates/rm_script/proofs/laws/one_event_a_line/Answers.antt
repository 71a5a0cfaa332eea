use Rattle.rm_script.proofs.ReadingLemmas.{Says-one}
use Rattle.rm_script.proofs.laws.one_event_a_line.Goals as goal

pub returns : goal.returns
returns c = Says-one
