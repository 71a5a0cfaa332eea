-- Laws of what a source knows, each the contract of a function in src/laws.rt.
use Rattle.std.specs.Prelude.{◌≡◌, ◌+◌, ◌≤◌}
use Rattle.rm_sides.specs.Ranges.Ranges.{IsCanonical, count_of, greatest_of}
use Rattle.rm_sides.specs.Source.Outgoing.{Sending, accepted_count, unacked_of}

-- the acknowledged numbers are numbers of accepted payloads
pub record IsSound (s : Sending) : Type 0 where
  pub canonical : IsCanonical s.acked
  pub within : greatest_of s.acked ≤ accepted_count s

-- each accepted payload is either acknowledged or counted as not acknowledged
abbrev pub EachIsCountedOnce : Type 0
EachIsCountedOnce = (s : Sending) → IsSound s → count_of s.acked + unacked_of s ≡ accepted_count s
