-- A journal as its callers see it.
use Rattle.std.specs.Prelude.{ℕ, ◌-◌, Bool, false, List, length, slice_index_or}
use Rattle.rm_disk.specs.Journal.Entries.{Bank, gates_from, first_bank}

-- where its list stands, the place of the gate behind each entry, and whether a call has answered Disk
pub record JournalState : Type 0 where
  pub bank : Bank
  pub gates : List ℕ
  pub is_down : Bool

-- the place of the closed gate: it stands behind the last entry, or at the start
abbrev pub end_of : JournalState → ℕ
end_of journal = slice_index_or journal.gates (length journal.gates - 1) journal.bank.start

-- the journal of these entries in this bank while no call has answered Disk
abbrev pub journal_at : Bank → List (List ℕ) → JournalState
journal_at bank entries = record { bank = bank; gates = gates_from bank.start entries; is_down = false }

-- as `format` leaves it, with these entries
abbrev pub journal_of : List (List ℕ) → JournalState
journal_of entries = journal_at first_bank entries
