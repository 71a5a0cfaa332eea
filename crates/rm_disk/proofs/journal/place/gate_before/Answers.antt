use Rattle.rm_disk.proofs.JournalLemmas.Places.{gate_behind_first}
use Rattle.rm_disk.proofs.journal.place.gate_before.Goals as goal

pub returns-else-k-eq0 : goal.returns-else-k-eq0
returns-else-k-eq0 c = gate_behind_first c.args.start c.args.gates.now c.args.k c.if-k-eq0.false
