use Rattle.rm_disk.specs.Journal.EntryLemmas.{length-gates_from}
use Rattle.rm_disk.proofs.journal.laws.each_entry_has_a_gate.Goals as goal

pub returns : goal.returns
returns c = length-gates_from
