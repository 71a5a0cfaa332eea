use Rattle.rm_disk.specs.Journal.EntryLemmas.{gates-with_entry}
use Rattle.rm_disk.proofs.journal.laws.gates_grow_with_entries.Goals as goal

pub returns : goal.returns
returns c = gates-with_entry
