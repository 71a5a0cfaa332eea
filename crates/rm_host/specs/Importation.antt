-- What import makes of its input, and what it did to the disk.
use Rattle.std.specs.Prelude.{◌≡◌, ◌≢◌, ◌⊎◌, ℕ, ◌+◌, ◌≤◌, Bool, List, [], length, Result, Ok, Err, IfSome, IsTrue}
use Rattle.node_laws.specs.declared.answers.answer.Cause.{Cause}
use Rattle.node_laws.specs.declared.answers.answer.Cause.TheVariants as cause
use Rattle.node_store.specs.Imported.{Imports, IsNoNodeBefore, IsTooLong}
use Rattle.node_store.specs.Stored.{Stored}
use Rattle.node_store.specs.declared.error.ImportError.TheVariants.{Full}
use Rattle.rm_base.specs.Limits as limits
use Rattle.rm_base.specs.Outside.{Stream}
use Rattle.rm_disk.specs.Call.{Call, seen_of}
use Rattle.rm_disk.specs.Told.{Told}
use Rattle.rm_disk.specs.Journal.Entries.{list_of, StandsAsBefore}
use Rattle.rm_host.specs.Texts.{imported_line}
use Rattle.rm_host.specs.declared.end.End.{End}
use Rattle.rm_host.specs.declared.end.End.TheVariants as end

-- the journal of the entries for which bytes stand by the layout before is no longer than one may be
abbrev pub IsShort : List ℕ → Type 0
IsShort bytes =
    (entries : List (List ℕ)) → StandsAsBefore entries bytes → 25 + length (list_of entries) ≤ limits.journal_bytes

-- it would be longer: the cause has where it begins, and how many bytes it takes
abbrev pub IsOverlong : List ℕ → Cause → Type 0
IsOverlong bytes (cause.StoreFull end needed) = IsTooLong bytes (Full end needed)
IsOverlong bytes _ = ⊥

-- bytes stood for so many batches of a node by the layout before, one an entry, and a disk that tells has them now
pub record Brings (tells : Bool) (bytes : List ℕ) (now : List Call) (count : ℕ) : Type 0 where
  pub store : Stored
  pub imports : Imports tells bytes now store
  pub entries : count ≡ length imports.batches

-- A disk that had nothing was made that of the node whose journal the bytes were. What is printed is how many entries
-- it has.
pub record Imported (tells : Bool) (first now : Told) (bytes text : List ℕ) : Type 0 where
  pub empty : IsTrue tells → seen_of first.past ≡ []
  pub short : IsShort bytes
  pub count : ℕ
  pub brings : Brings tells bytes now.past count
  pub line : text ≡ imported_line count

-- why no node was made of bytes, where it was no fault of the disk and no want of memory
abbrev pub IsNotMade : List ℕ → End → Type 0
IsNotMade bytes (end.Refused why) = IsOverlong bytes why
IsNotMade bytes end.NotAJournal = IsShort bytes × IsNoNodeBefore bytes
IsNotMade bytes end.DiskFault = Unit {0}
IsNotMade bytes end.Memory = Unit {0}
IsNotMade bytes _ = ⊥

-- a disk that had nothing still has nothing: no call changed it
abbrev pub StaysEmpty : (first now : Told) → Type 0
StaysEmpty first now = (seen_of first.past ≡ []) × (now.past ≡ first.past)

-- Why import fails: the disk had bytes; the input was not read, and the disk is as it was; or the bytes make no node,
-- which is told of a disk that had nothing, and still has.
abbrev pub FailsToImport : Bool → (first now : Told) → List ℕ → End → Type 0
FailsToImport tells first now bytes end.NotEmpty = IsTrue tells → seen_of first.past ≢ []
FailsToImport tells first now bytes end.ReadFault = now ≡ first
FailsToImport tells first now bytes end.TooLong = now ≡ first
FailsToImport tells first now bytes (end.Refused why) = IsOverlong bytes why × (IsTrue tells → StaysEmpty first now)
FailsToImport tells first now bytes end.NotAJournal =
    IsShort bytes × IsNoNodeBefore bytes × (IsTrue tells → StaysEmpty first now)
FailsToImport tells first now bytes e = IsNotMade bytes e

-- what import answers of these bytes
abbrev pub ImportsBytes : Bool → (first now : Told) → List ℕ → Result (List ℕ) End → Type 0
ImportsBytes tells first now bytes (Ok text) = Imported tells first now bytes text
ImportsBytes tells first now bytes (Err e) = FailsToImport tells first now bytes e

-- and of an input: they are all that it had
pub record Importation (tells : Bool) (first now : Told) (input : Stream) (result : Result (List ℕ) End) : Type 0 where
  pub bytes : List ℕ
  pub whole : IfSome input.left (λ all. bytes ≡ all)
  pub does : ImportsBytes tells first now bytes result

-- a disk that had bytes was not written
abbrev pub IsSpared : (first now : Told) → Type 0
IsSpared first now = (seen_of first.past ≡ []) ⊎ (now.past ≡ first.past)
