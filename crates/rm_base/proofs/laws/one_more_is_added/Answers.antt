use Rattle.rm_base.specs.NumberSetLemmas.{has_number-with}
use Rattle.rm_base.proofs.laws.one_more_is_added.Goals as goal

pub returns : goal.returns
returns c = has_number-with
