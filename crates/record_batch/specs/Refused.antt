-- Why bytes are no batch, and where.
use Rattle.std.specs.Prelude.{◌≡◌, ℕ, zero, suc, ◌-◌, ◌==◌, if◌then◌else◌, List, length, Some, None, option_map}
use Rattle.std.specs.Prelude.{unwrap_or}
use Rattle.record_batch.specs.Batch.{fact, fact_at, batch_at}
use Rattle.record_batch.specs.Fact.{Fact}
use Rattle.record_batch.specs.Format.{number32, read_items}
use Rattle.record_batch.specs.declared.error.BatchError.{BatchError}
use Rattle.record_batch.specs.declared.error.BatchError.TheVariants.{Memory, NotABatch}

-- what stands where the first of so many records can't be read, or behind them where all can
unfoldable pub unread : ℕ → List ℕ → List ℕ
unread zero bytes = bytes
unread (suc n) bytes = unwrap_or (option_map (λ x. unread n x.1) (fact_at bytes)) bytes

-- the place of that, in bytes behind their number of records: 0 where this is 0
abbrev pub place_behind : List ℕ → ℕ × List ℕ → ℕ
place_behind bytes count = if count.0 == 0 then 0 else length bytes - length (unread count.0 count.1)

-- the place at which bytes are refused: 0 where even the number of records is cut
unfoldable pub refused_place : List ℕ → ℕ
refused_place bytes = unwrap_or (option_map (place_behind bytes) (number32.read bytes)) 0

-- the bytes are no batch, and this is where
abbrev pub IsBatchError : List ℕ → BatchError → Type 0
IsBatchError bytes Memory = Unit {0}
IsBatchError bytes (NotABatch at) = (batch_at bytes ≡ None) × (at ≡ refused_place bytes)

-- all of so many records were read, and these bytes stand behind them
pub record AreAllRead (count : ℕ) (bytes : List ℕ) (facts : List Fact) (rest : List ℕ) : Type 0 where
  pub read : read_items fact count bytes ≡ Some (facts, rest)
  pub behind : unread count bytes ≡ rest

-- one of them could not be read, and this is its place in a batch that ends with the bytes
abbrev pub IsStopped : ℕ → List ℕ → List ℕ → BatchError → Type 0
IsStopped count bytes batch Memory = Unit {0}
IsStopped count bytes batch (NotABatch at) =
    (read_items fact count bytes ≡ None) × (at ≡ length batch - length (unread count bytes))
