use Rattle.rm_message.proofs.ElementsLemmas.HeaderBack.{header_again}
use Rattle.rm_message.proofs.elements.laws.header_is_read_back.Goals as goal

pub returns : goal.returns
returns c = header_again
