use Rattle.rm_disk.specs.Journal.EntryLemmas.{stands_at-bytes_of, with_block-list_of}
use Rattle.rm_disk.proofs.journal.laws.nothing_stands_behind.Goals as goal

pub returns : goal.returns
returns c = record { stands = stands_at-bytes_of; grows = with_block-list_of }
