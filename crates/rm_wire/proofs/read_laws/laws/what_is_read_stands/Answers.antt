use Rattle.rm_wire.proofs.ReadLawsLemmas.Payloads.{stands}
use Rattle.rm_wire.proofs.read_laws.laws.what_is_read_stands.Goals as goal

pub returns : goal.returns
returns c = stands c.elements_may_be_written.ensures c.payload_stands.ensures
