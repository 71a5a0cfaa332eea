use Rattle.rm_base.specs.NumberSetLemmas.{Rises-same}
use Rattle.rm_base.proofs.laws.same_numbers_same_list.Goals as goal

pub returns : goal.returns
returns c = Rises-same 0
