use Rattle.rm_wire.proofs.ReadLawsLemmas.WholeMessages.{spelled}
use Rattle.rm_wire.proofs.read_laws.laws.what_is_read_may_be_written.Goals as goal

pub returns : goal.returns
returns c = spelled c.elements_may_be_written.ensures c.names_may_be_written.ensures
