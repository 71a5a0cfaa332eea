-- What import answers, by what became of the disk.
use Rattle.std.proofs.Common.{◌≡◌, ◌≢◌, ◌⊎◌, ◌∙◌, ℕ, Bool, List, [], length, Option, None, Some, refl, ap, inl, inr}
use Rattle.std.specs.Prelude.{Result, Err, IfSome, IsTrue}
use Rattle.std.proofs.lemmas.List.{length-map}
use Rattle.node_store.specs.Has.{entries_of}
use Rattle.node_store.specs.Imported.{Imports, IsNoNodeBefore, IsTooLong}
use Rattle.node_store.specs.Stored.{Stored}
use Rattle.node_store.specs.declared.error.ImportError.{ImportError}
use Rattle.node_store.specs.declared.error.ImportError.TheVariants as import
use Rattle.record_batch.specs.Batch.{batch_text}
use Rattle.rm_disk.specs.Call.{Call, seen_of}
use Rattle.rm_disk.specs.Told.{Told}
use Rattle.rm_disk.specs.Journal.Entries.{first_bank}
use Rattle.rm_disk.specs.Journal.EntryLemmas.{length-gates_from}
use Rattle.rm_disk.specs.Journal.JournalState.{JournalState}
use Rattle.rm_host.specs.Ends.{import_end}
use Rattle.rm_host.specs.Importation.{Brings, FailsToImport, IsNotMade, IsShort}
use Rattle.rm_host.specs.declared.end.End.{End}
use Rattle.rm_host.specs.declared.end.End.TheVariants as end

-- bytes that an input has, where that is known
pub some-bytes : (left : Option (List ℕ)) → (bytes : List ℕ) × IfSome left (λ all. bytes ≡ all)
some-bytes None = ([], tt)
some-bytes (Some all) = (all, refl)

-- why no node is made, as the command ends
pub not-made : {T : Type 0} (bytes : List ℕ) (e : ImportError)
    → (e ≡ import.Memory) ⊎ ((e ≡ import.Disk) ⊎ ((e ≡ import.NotAJournal) ⊎ IsTooLong bytes e))
    → (◌≡◌ {A = Result T ImportError} (Err e) (Err import.NotAJournal) → IsShort bytes)
    → (◌≡◌ {A = Result T ImportError} (Err e) (Err import.NotAJournal) → IsNoNodeBefore bytes)
    → IsNotMade bytes (import_end e)
not-made bytes import.Memory which short none = tt
not-made bytes import.Disk which short none = tt
not-made bytes import.NotAJournal which short none = (short refl, none refl)
not-made bytes (import.Full end needed) (inl same) short none = absurd cc
not-made bytes (import.Full end needed) (inr (inl same)) short none = absurd cc
not-made bytes (import.Full end needed) (inr (inr (inl same))) short none = absurd cc
not-made bytes (import.Full end needed) (inr (inr (inr long))) short none = long

-- no fault of the disk is told as one only where it was none
pub no-fault : (e : ImportError) → import_end e ≢ end.DiskFault → e ≢ import.Disk
no-fault e other same = other (ap import_end same)

-- and as import does
pub fails-so : (tells : Bool) (first now : Told) (bytes : List ℕ) (e : End) → IsNotMade bytes e
    → (IsTrue tells → seen_of first.past ≡ []) → (IsTrue tells → e ≢ end.DiskFault → now.past ≡ first.past)
    → FailsToImport tells first now bytes e
fails-so tells first now bytes end.NotEmpty not empty same = absurd not
fails-so tells first now bytes end.ReadFault not empty same = absurd not
fails-so tells first now bytes end.TooLong not empty same = absurd not
fails-so tells first now bytes (end.Refused why) not empty same =
    (not, λ t. (empty t, same t (λ (is : end.Refused why ≡ end.DiskFault). cc)))
fails-so tells first now bytes end.NotAJournal not empty same =
    (not.0, not.1, λ t. (empty t, same t (λ (is : end.NotAJournal ≡ end.DiskFault). cc)))
fails-so tells first now bytes e not empty same = not

-- the disk is not empty, or it failed
pub unempty : {T : Type 0} (tells : Bool) (first now : Told) (bytes : List ℕ) (e : End)
    → (e ≡ end.DiskFault) ⊎ (e ≡ end.NotEmpty)
    → (IsTrue tells → ◌≡◌ {A = Result T End} (Err e) (Err end.NotEmpty) → seen_of first.past ≢ [])
    → FailsToImport tells first now bytes e
unempty tells first now bytes end.DiskFault which full = tt
unempty tells first now bytes end.NotEmpty which full = λ t. full t refl
unempty tells first now bytes e (inl same) full = absurd cc
unempty tells first now bytes e (inr same) full = absurd cc

-- an entry for each batch
pub brings-so : (tells : Bool) (bytes : List ℕ) (now : List Call) (store : Stored) (n : ℕ)
    → Imports tells bytes now store → n ≡ length store.journal.gates → Brings tells bytes now n
brings-so tells bytes now store n imports counted = record {
  store = store;
  imports = imports;
  entries = counted ∙ ap (λ (j : JournalState). length j.gates) imports.journal
      ∙ length-gates_from first_bank.start (entries_of imports.batches)
      ∙ length-map imports.batches batch_text;
}
