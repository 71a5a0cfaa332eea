-- What is kept of a node, and what a call makes of it.
use Rattle.std.specs.Prelude.{ℕ, ◌≤◌, ◌<◌, ◌^◌, Bool, true, if◌then◌else◌, List, [], ◌∷◌, ◌++◌, length}
use Rattle.record_batch.specs.Batch.{batch_text}
use Rattle.record_batch.specs.Fact.{Fact, Made}
use Rattle.rm_disk.specs.Journal.Journal.{with_entry}
use Rattle.rm_disk.specs.Journal.JournalState.{JournalState, end_of, journal_of}
use Rattle.record_batch.specs.Sequences.Makers.{counter}
use Rattle.node_laws.specs.Records.{BeginsWithMade}

-- the journal, and the records that the tables hold
pub record Stored : Type 0 where
  pub journal : JournalState
  pub records : List Fact

-- of these
abbrev pub stored : JournalState → List Fact → Stored
stored journal records = record { journal = journal; records = records }

-- the batches of a journal, where one more is added unless there is nothing in it
abbrev pub with_batch : List (List Fact) → List Fact → List (List Fact)
with_batch batches [] = batches
with_batch batches (f ∷ delta) = batches ++ (f ∷ delta) ∷ []

-- with records more, which are one entry more, unless there are none
abbrev pub grown : Stored → List Fact → Stored
grown old [] = old
grown old (f ∷ delta) = record {
  journal = with_entry old.journal (length (batch_text (f ∷ delta)));
  records = old.records ++ f ∷ delta;
}

-- the disk failed
abbrev pub broken : Stored → Stored
broken old = record old { journal = record old.journal { is_down = true } }

-- after a call that adds these records: all went well, or the disk failed, or it was refused
abbrev pub stored_after : Stored → List Fact → (ok failed : Bool) → Stored
stored_after old delta ok failed = if ok then grown old delta else if failed then broken old else old

-- a node that was just made
abbrev pub first_stored : ℕ → List ℕ → Stored
first_stored number address =
    grown (stored (journal_of []) []) (Made number address ∷ [])

-- what a node keeps of its journal and its records, whatever the disk tells: the first record is Made, no more numbers
-- were drawn than bytes were written, the journal is so short that memory can hold it, and it ends behind its start
pub record IsServing (journal : JournalState) (records : List Fact) : Type 0 where
  pub begins : BeginsWithMade records
  pub drawn : counter records ≤ end_of journal
  pub short : end_of journal < 2 ^ 61
  pub placed : journal.bank.start ≤ end_of journal
