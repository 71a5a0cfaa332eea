-- Records are copied from what is kept: what has to be so of the rows.
use Rattle.std.specs.Prelude.{◌≡◌, ℕ, ◌<◌, ◌≤◌, false, List, [], ◌∷◌, length, slice_index_or}
use Rattle.std.specs.List.{AllByRecursion}
use Rattle.rm_base.specs.NumberSet.{has_number}
use Rattle.rm_base.specs.declared.message.Payload.{Payload}
use Rattle.rm_sides.specs.Destination.Messages.{numbers_of}
use Rattle.record_batch.specs.Sequences.Told.{Told}
use Rattle.node_tables.specs.Kept.{received_in}

-- no two messages have one number
abbrev pub AreOnce : List (ℕ × Payload) → Type 0
AreOnce [] = Unit {0}
AreOnce (m ∷ ms) = (has_number (numbers_of ms) m.0 ≡ false) × AreOnce ms

-- the message at a place has this number
pub record IsThere (messages : List (ℕ × Payload)) (place number : ℕ) : Type 0 where
  pub within : place < length messages
  pub is : slice_index_or (numbers_of messages) place 0 ≡ number

-- sequences have numbers of 32 bits, and no two messages of one have one number
pub record MayBeCopied (rows : List Told) : Type 0 where
  pub few : length rows ≤ 4294967295
  pub once : AllByRecursion (λ (t : Told). AreOnce (received_in t.side)) rows
