use Rattle.rm_message.proofs.ElementsLemmas.HeaderGood.{header_good}
use Rattle.rm_message.proofs.elements.laws.header_is_good.Goals as goal

pub returns : goal.returns
returns c = header_good
