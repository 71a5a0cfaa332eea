-- The keys that wait at a node are, as a set, exactly those that wait by its records.
use Rattle.std.specs.List.{AllByRecursion}
use Rattle.record_batch.specs.Sequences.Told.{names, sending}
use Rattle.std.specs.Prelude.{◌≡◌, ◌≢◌, ◌⊎◌, ℕ, ◌≤◌, true, List, [], ◌∷◌, ◌++◌}
use Rattle.rm_sides.specs.Ranges.Ranges.{in_ranges}
use Rattle.record_batch.specs.Sequences.Sources.{accepted_count}
use Rattle.timers.specs.declared.slots.timers.Key.{Key}
use Rattle.timers.specs.Keys.Waits.{Wait, has_key, keys_of}
use Rattle.record_batch.specs.Fact.{Fact}
use Rattle.record_batch.specs.Snapshot.Same.{HaveProper}
use Rattle.record_batch.specs.Snapshot.Snapshot.{snapshot}
use Rattle.record_batch.specs.Sequences.Fits.{fits, all_fit}
use Rattle.rm_protocol.specs.Waiting.{Moves, is_waiting, begun_of, begun_by, mounted_waits, waits_after}

-- a key that waits after one more record waited before it, or begins with it
abbrev pub RecordBegins : Type 0
RecordBegins =
    (r : List Fact) (f : Fact) (k : Key) → all_fit [] r ≡ true → fits r f ≡ true
    → is_waiting (r ++ f ∷ []) k ≡ true → (is_waiting r k ≡ true) ⊎ (has_key (begun_of r f) k ≡ true)

-- a key that waits, waits on after records that name other sequences
abbrev pub OthersWaitOn : Type 0
OthersWaitOn =
    (r delta : List Fact) (k : Key) → all_fit r delta ≡ true → AllByRecursion (λ (f : Fact). names f ≢ k.seq) delta
    → is_waiting r k ≡ true → is_waiting (r ++ delta) k ≡ true

-- the key that a record begins waits by the records then
abbrev pub WhatBeginsWaits : Type 0
WhatBeginsWaits =
    (r : List Fact) (f : Fact) (k : Key) → all_fit [] r ≡ true → fits r f ≡ true
    → has_key (begun_of r f) k ≡ true → is_waiting (r ++ f ∷ []) k ≡ true

-- a key is among those of what waits where it waits by the records, and nowhere else: they are the same set, and of the
-- order, and of how often a key stands there, nothing is said
abbrev pub AreExactly : List Fact → List Wait → Type 0
AreExactly r waits = (k : Key) → has_key (keys_of waits) k ≡ is_waiting r k

-- so it is after each call, where what begins with its records waits by all of them
abbrev pub StaysExact : Type 0
StaysExact =
    (r delta : List Fact) (moves : Moves) (time : ℕ) (waits : List Wait) → all_fit [] r ≡ true → all_fit r delta ≡ true
    → ((k : Key) → has_key (begun_by r delta) k ≡ true → is_waiting (r ++ delta) k ≡ true)
    → AreExactly r waits → AreExactly (r ++ delta) (waits_after r delta moves time waits)

-- and so it is after a mount
abbrev pub IsExactAtFirst : Type 0
IsExactAtFirst = (r : List Fact) → AreExactly r (mounted_waits r)

-- and by what the records say in short
abbrev pub StaysExactInShort : Type 0
StaysExactInShort =
    (r : List Fact) (waits : List Wait) → all_fit [] r ≡ true → HaveProper r → AreExactly r waits
    → AreExactly (snapshot r) waits

-- the acknowledged numbers are numbers of accepted messages
abbrev pub AreWithin : List Fact → Type 0
AreWithin r = (s n : ℕ) → in_ranges (sending r s).acked n ≡ true → n ≤ accepted_count r s

-- so it is of all records that fit
abbrev pub AckedWereAccepted : Type 0
AckedWereAccepted = (r : List Fact) → all_fit [] r ≡ true → AreWithin r
