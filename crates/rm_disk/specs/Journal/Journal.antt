-- How a journal fits a disk, and what its calls answer.
use Rattle.std.specs.Prelude.{◌≡◌, ◌⊎◌, ℕ, ◌+◌, ◌-◌, ◌<◌, ◌≤◌, ◌^◌, min, Bool, true, false, not, nat_lt, nat_le}
use Rattle.std.specs.Prelude.{if◌then◌else◌, List, [], ◌∷◌, ◌++◌, length, Option, Some, None, Result, Ok, Err}
use Rattle.std.specs.Int.{w64, to_be_bytes}
use Rattle.rm_base.specs.Limits as limits
use Rattle.rm_disk.specs.Call.{Call, overwritten}
use Rattle.rm_disk.specs.Image.{MayLeave, OnlyLeaves}
use Rattle.rm_disk.specs.Journal.Entries.{Bank, longest, block, list_of, slot_of, StandsAt, StandsAsBefore}
use Rattle.rm_disk.specs.Journal.Entries.{gates_from, StandsForOneOf}
use Rattle.rm_disk.specs.Journal.JournalState.{JournalState, end_of, journal_at, journal_of}
use Rattle.rm_disk.specs.declared.journal.error.JournalError.{JournalError}
use Rattle.rm_disk.specs.declared.journal.error.JournalError.TheVariants as Variant

-- the greatest length of a journal
abbrev pub limit : ℕ
limit = limits.journal_bytes

-- The journal has these entries, and so has the disk, in the journal's bank: as it reads, which is one of its images,
-- and after any crash now.
pub record Fits (entries : List (List ℕ)) (past : List Call) (journal : JournalState) : Type 0 where
  pub gates : journal.gates ≡ gates_from journal.bank.start entries
  pub images : (bytes : List ℕ) → MayLeave past bytes → StandsAt journal.bank entries bytes

-- The journal is down, or it and the disk fit.
abbrev pub FitsUnlessDown : List Call → JournalState → Type 0
FitsUnlessDown past journal = journal.is_down ≡ false → (entries : List (List ℕ)) × Fits entries past journal

-- the answer is Disk
abbrev pub is_disk : {T : Type 0} → Result T JournalError → Bool
is_disk (Err Variant.Disk) = true
is_disk _ = false

-- the answer is Memory
abbrev pub is_memory : {T : Type 0} → Result T JournalError → Bool
is_memory (Err Variant.Memory) = true
is_memory _ = false

-- The refusal of an entry of this length that comes before any call on the disk, the first of these.
abbrev pub refusal_of : JournalState → ℕ → Option JournalError
refusal_of journal len =
    if journal.is_down then Some Variant.Down
    else if nat_lt longest len then Some (Variant.EntryTooLong len)
    else if nat_lt limit (end_of journal + 6 + len) then Some (Variant.Full (end_of journal) (len + 6))
    else None

-- The answer is that refusal. Where there is none, it is Ok, Memory or Disk.
abbrev pub Answers : {T : Type 0} → Option JournalError → Result T JournalError → Type 0
Answers (Some refusal) result = result ≡ Err refusal
Answers None (Ok value) = Unit {0}
Answers None (Err error) = (error ≡ Variant.Memory) ⊎ (error ≡ Variant.Disk)

-- the journal with one entry more, of this length
abbrev pub with_entry : JournalState → ℕ → JournalState
with_entry journal len = record journal { gates = journal.gates ++ (end_of journal + 5 + len) ∷ [] }

-- The bytes of a journal whose closed gate stands at this place, with one entry more: the open gate, the length, the
-- entry and a closed gate are written over what stood there, and what stands further behind stays.
abbrev pub with_block : List ℕ → ℕ → List ℕ → List ℕ
with_block bytes gate entry = overwritten bytes gate (block entry ++ 0 ∷ [])

-- The refusal, before any call on the disk, of a row of entries whose blocks and closed gate take so many bytes.
abbrev pub row_refusal : JournalState → ℕ → Option JournalError
row_refusal journal size =
    if journal.is_down then Some Variant.Down
    else if nat_lt limit (end_of journal + size)
    then Some (Variant.Full (end_of journal) (min size (2 ^ 64 - 1)))
    else None

-- the journal with these entries more
abbrev pub with_entries : JournalState → List (List ℕ) → JournalState
with_entries journal added = record journal { gates = journal.gates ++ gates_from (end_of journal) added }

-- the bytes with these entries more: their blocks and a closed gate are written over what stood there
abbrev pub with_row : List ℕ → ℕ → List (List ℕ) → List ℕ
with_row bytes gate added = overwritten bytes gate (list_of added)

-- the journal after a call that adds these entries or answers an error
abbrev pub row_appended : {T : Type 0} → JournalState → List (List ℕ) → Result T JournalError → JournalState
row_appended journal added (Ok value) = with_entries journal added
row_appended journal added (Err Variant.Disk) = record journal { is_down = true }
row_appended journal added (Err _) = journal

-- What is written behind the closed gate is there for good where all went well, and a crash at any moment of the calls
-- leaves the old list or the new one.
pub record Carries (bank : Bank) (entries all : List (List ℕ)) (old new : List Call) (ok : Bool) : Type 0 where
  pub moments : OnlyLeaves old new (StandsForOneOf bank entries bank all)
  pub done : ok ≡ true → (bytes : List ℕ) → MayLeave new bytes → StandsAt bank all bytes

-- The journal after a call that adds an entry of this length or answers an error.
abbrev pub appended : {T : Type 0} → JournalState → ℕ → Result T JournalError → JournalState
appended journal len (Ok value) = with_entry journal len
appended journal len (Err Variant.Disk) = record journal { is_down = true }
appended journal len (Err _) = journal

-- a list of this many bytes fits between the front and the list that stands
abbrev pub fits_before : JournalState → ℕ → Bool
fits_before journal size = nat_le (25 + size) journal.bank.start

-- where a list of so many bytes is put: before the list that stands, or behind it
abbrev pub place_for : JournalState → ℕ → ℕ
place_for journal size = if fits_before journal size then 25 else end_of journal + 1

-- The refusal of a list of so many bytes that comes before any call on the disk.
abbrev pub list_refusal : JournalState → ℕ → Option JournalError
list_refusal journal size =
    if journal.is_down then Some Variant.Down
    else if fits_before journal size then None
    else if nat_lt limit (end_of journal + 1 + size)
    then Some (Variant.Full (end_of journal) (min (size + 1) (2 ^ 64 - 1)))
    else None

-- where a fresh list stands after a call that writes it
abbrev pub next_bank : JournalState → List (List ℕ) → Bank
next_bank journal fresh =
    record { second = not journal.bank.second; start = place_for journal (length (list_of fresh)) }

-- the byte that has the second start count, or the first
abbrev pub selector_of : Bool → ℕ
selector_of second = if second then 1 else 0

-- The bytes of a disk once a list stands in a bank: the list at its start, the start in its slot, and the selector
-- are written over what stood there.
abbrev pub with_list : List ℕ → Bank → List (List ℕ) → List ℕ
with_list bytes bank entries =
    overwritten (overwritten (overwritten bytes bank.start (list_of entries)) (slot_of bank.second)
    (to_be_bytes w64 bank.start)) 8 (selector_of bank.second ∷ [])

-- The journal after a call that writes a fresh list or answers an error.
abbrev pub compacted : {T : Type 0} → JournalState → List (List ℕ) → Result T JournalError → JournalState
compacted journal fresh (Ok value) = record (journal_at (next_bank journal fresh) fresh) { is_down = journal.is_down }
compacted journal fresh (Err Variant.Disk) = record journal { is_down = true }
compacted journal fresh (Err _) = journal

-- The journal after a call that reads.
abbrev pub after_reading : {T : Type 0} → JournalState → Result T JournalError → JournalState
after_reading journal result = if is_disk result then record journal { is_down = true } else journal

-- the list that bytes of the layout before stand for is too long
pub record IsTooLong (bytes : List ℕ) (error : JournalError) : Type 0 where
  pub entries : List (List ℕ)
  pub stands : StandsAsBefore entries bytes
  pub long : limit < 25 + length (list_of entries)
  pub is : error ≡ Variant.Full 25 (length (list_of entries))

-- bytes of the layout before stand for this list, and a journal has room for it
pub record HasRoomFor (entries : List (List ℕ)) (bytes : List ℕ) : Type 0 where
  pub stands : StandsAsBefore entries bytes
  pub short : 25 + length (list_of entries) ≤ limit

-- When `import` answers what, by the bytes of the layout before: the journal of their list, or Disk, where a journal
-- has room for one; NotAJournal where they stand for none; Full where their list is too long. Memory alone is free.
abbrev pub AnswersImport : List ℕ → Result JournalState JournalError → Type 0
AnswersImport bytes (Ok journal) =
    (entries : List (List ℕ)) × HasRoomFor entries bytes × (journal ≡ journal_of entries)
AnswersImport bytes (Err Variant.Memory) = Unit {0}
AnswersImport bytes (Err Variant.Disk) = (entries : List (List ℕ)) × HasRoomFor entries bytes
AnswersImport bytes (Err Variant.NotAJournal) = (entries : List (List ℕ)) → StandsAsBefore entries bytes → ⊥
AnswersImport bytes (Err (Variant.EntryTooLong len)) = ⊥
AnswersImport bytes (Err (Variant.Full end needed)) = IsTooLong bytes (Variant.Full end needed)
AnswersImport bytes (Err Variant.Down) = ⊥
