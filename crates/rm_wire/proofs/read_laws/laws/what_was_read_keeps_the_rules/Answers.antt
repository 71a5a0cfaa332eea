use Rattle.rm_wire.proofs.ReadLawsLemmas.WholeMessages.{keeps}
use Rattle.rm_wire.proofs.read_laws.laws.what_was_read_keeps_the_rules.Goals as goal

pub returns : goal.returns
returns c = keeps
