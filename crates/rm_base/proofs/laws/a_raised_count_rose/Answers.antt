use Rattle.rm_base.specs.CountLemmas.{RoseBy-raised_by}
use Rattle.rm_base.proofs.laws.a_raised_count_rose.Goals as goal

pub returns : goal.returns
returns c = RoseBy-raised_by
