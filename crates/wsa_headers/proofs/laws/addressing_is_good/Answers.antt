use Rattle.wsa_headers.proofs.AddressingGood.{addressing_good}
use Rattle.wsa_headers.proofs.laws.addressing_is_good.Goals as goal

pub returns : goal.returns
returns c = addressing_good
