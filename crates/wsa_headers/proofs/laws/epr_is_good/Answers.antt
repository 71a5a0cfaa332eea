use Rattle.wsa_headers.proofs.AddressingGood.{epr_good}
use Rattle.wsa_headers.proofs.laws.epr_is_good.Goals as goal

pub returns : goal.returns
returns c = epr_good
