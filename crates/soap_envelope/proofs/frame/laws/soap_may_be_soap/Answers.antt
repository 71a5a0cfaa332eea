use Rattle.soap_envelope.proofs.FrameLemmas.Framing.{soap_space-MayBeSoap}
use Rattle.soap_envelope.proofs.frame.laws.soap_may_be_soap.Goals as goal

pub returns : goal.returns
returns c = soap_space-MayBeSoap
