-- What a source keeps, beside what it is seen as.
use Rattle.std.specs.Prelude.{ℕ, ◌+◌, ◌≤◌, List, length}
use Rattle.rm_base.specs.Message.{max_number}
use Rattle.rm_base.specs.Roomy.{Roomy}
use Rattle.rm_sides.specs.Ranges.Ranges.{Contents, IsCanonical, greatest_of}

-- the acknowledged numbers are numbers of accepted payloads, of which there are no more than message numbers, and there
-- is the room that was asked for and not used
pub record IsKept (dropped : ℕ) (accepted : Roomy (List ℕ)) (acked : Contents) (payloads ranges : ℕ) : Type 0 where
  pub canonical : IsCanonical acked.ranges
  pub within : greatest_of acked.ranges ≤ dropped + length accepted.facts
  pub few : dropped + length accepted.facts ≤ max_number
  pub payloads_fit : payloads ≤ accepted.spare
  pub ranges_fit : ranges ≤ acked.spare
