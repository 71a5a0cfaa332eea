-- Whether a batch fits into a journal.
use Rattle.std.specs.Prelude.{◌≡◌, ◌⊎◌, ◌≤◌, ℕ, ◌+◌, List, [], length}
use Rattle.rm_base.specs.Limits as limits
use Rattle.record_batch.specs.Batch.{batch_text}
use Rattle.record_batch.specs.Fact.{Fact}

-- it fits behind this place: an entry and a journal, which has 6 bytes more for each of them, are no longer than they
-- may be
pub record IsWithin (end : ℕ) (facts : List Fact) : Type 0 where
  pub short : length (batch_text facts) ≤ limits.entry_bytes
  pub room : end + 6 + length (batch_text facts) ≤ limits.journal_bytes

-- there is nothing to be written, or it fits
abbrev pub HasRoom : ℕ → List Fact → Type 0
HasRoom end facts = (facts ≡ []) ⊎ IsWithin end facts
