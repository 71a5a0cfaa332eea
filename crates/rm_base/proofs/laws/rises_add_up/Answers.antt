use Rattle.rm_base.specs.CountLemmas.{RoseBy-more}
use Rattle.rm_base.proofs.laws.rises_add_up.Goals as goal

pub returns : goal.returns
returns c = RoseBy-more
