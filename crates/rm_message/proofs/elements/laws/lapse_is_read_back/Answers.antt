use Rattle.rm_message.proofs.ElementsLemmas.LapseBack.{lapse_again}
use Rattle.rm_message.proofs.elements.laws.lapse_is_read_back.Goals as goal

pub returns : goal.returns
returns c = lapse_again
