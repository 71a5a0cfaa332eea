use Rattle.rm_disk.specs.Journal.EntryLemmas.{end_is}
use Rattle.rm_disk.proofs.journal.laws.closed_gate_ends_the_list.Goals as goal

pub returns : goal.returns
returns c = end_is
