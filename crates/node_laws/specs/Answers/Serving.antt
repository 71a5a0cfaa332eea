-- What a node's records give to its calls.
use Rattle.std.specs.Prelude.{ℕ, ◌<◌, ◌≤◌, ◌^◌, List}
use Rattle.record_batch.specs.Fact.{Fact}
use Rattle.record_batch.specs.Sequences.Makers.{counter}
use Rattle.node_laws.specs.Records.{BeginsWithMade}

-- the first record is Made, no more numbers were drawn than bytes were written, and the journal, which ends at this
-- place, is so short that memory can hold it
pub record Serves (r : List Fact) (end : ℕ) : Type 0 where
  pub begins : BeginsWithMade r
  pub drawn : counter r ≤ end
  pub short : end < 2 ^ 61
