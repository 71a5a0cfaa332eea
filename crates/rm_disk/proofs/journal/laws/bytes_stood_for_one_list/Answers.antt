use Rattle.std.specs.Prelude.{drop}
use Rattle.rm_disk.specs.Journal.EntryLemmas.{ends_one}
use Rattle.rm_disk.proofs.journal.laws.bytes_stood_for_one_list.Goals as goal

pub returns : goal.returns
returns c a b bytes one other = ends_one a b (drop 8 bytes) one.ends other.ends
