use Rattle.rm_disk.specs.Journal.EntryLemmas.{stands_for_one}
use Rattle.rm_disk.proofs.journal.laws.bytes_stand_for_one_list.Goals as goal

pub returns : goal.returns
returns c = stands_for_one
