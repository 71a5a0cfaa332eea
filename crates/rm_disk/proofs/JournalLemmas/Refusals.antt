-- What is known where an entry isn't refused.
use Rattle.std.proofs.Common.{◌≡◌, ℕ, ◌+◌, ◌≤◌, Bool, true, false, cond, Some, None, refl}
use Rattle.std.specs.Prelude.{nat_lt}
use Rattle.std.proofs.lemmas.Bool.{ltb-false}
use Rattle.rm_disk.specs.Journal.Entries.{longest}
use Rattle.rm_disk.specs.Journal.JournalState.{JournalState, end_of}
use Rattle.rm_disk.specs.Journal.Journal.{limit, refusal_of}
use Rattle.rm_disk.specs.declared.journal.error.JournalError.{JournalError}
use Rattle.rm_disk.specs.declared.journal.error.JournalError.TheVariants as Variant

by_tests : (down long full : Bool) (a b c : JournalError)
    → cond down (Some a) (cond long (Some b) (cond full (Some c) None)) ≡ None
    → (down ≡ false) × (long ≡ false) × (full ≡ false)
by_tests false false false a b c e = (refl, refl, refl)
by_tests true long full a b c e = cc
by_tests false true full a b c e = cc
by_tests false false true a b c e = cc

pub up_and_short : (journal : JournalState) (len : ℕ) → refusal_of journal len ≡ None
    → (journal.is_down ≡ false) × (len ≤ longest)
up_and_short journal len e =
    let tests = by_tests journal.is_down (nat_lt longest len) (nat_lt limit (end_of journal + 6 + len)) Variant.Down
    (Variant.EntryTooLong len) (Variant.Full (end_of journal) (len + 6)) e in
    (tests.0, ltb-false longest len tests.1)
