-- One fair round, where at most 64 keys are due at a side: all that was accepted there is acknowledged, and held.
use Rattle.std.specs.Prelude.{◌≡◌, ℕ, ◌+◌, ◌<◌, ◌≤◌, max, true, List, length}
use Rattle.std.specs.List.{AllByRecursion}
use Rattle.rm_base.specs.Limits as limits
use Rattle.rm_sides.specs.Ranges.Ranges.{in_ranges}
use Rattle.timers.specs.Keys.Waits.{Wait, due_at, most_emitted}
use Rattle.record_batch.specs.Sequences.Sources.{accepted_count, acked, is_sending, phase}
use Rattle.record_batch.specs.Sequences.Destinations.{front}
use Rattle.rm_protocol.specs.Exact.{AreExactly}
use Rattle.rm_protocol.specs.Node.{Node, records}
use Rattle.rm_protocol.specs.Sound.{IsSound}
use Rattle.rm_protocol.specs.Terms.{AreTerms, Terms}
use Rattle.rm_protocol.specs.World.{Event, Side, World, node, other, run}
use Rattle.rm_arrival.specs.Fair.{BothStand, IsFair, IsOpen, IsReached, moment}

-- a key is in one of the classes 0 to 6, and due at a moment
pub record IsDueAt (now : ℕ) (w : Wait) : Type 0 where
  pub class_ : w.class ≤ 6
  pub due : w.due ≤ now

-- what waits at a node is what waits by its records, all of it is due at a moment, and a tick then emits all of it
pub record AreFewDue (x : Node) (now : ℕ) : Type 0 where
  pub exact : AreExactly (records x) x.waits
  pub each : AllByRecursion (IsDueAt now) x.waits
  pub few : length (due_at now x.waits) ≤ most_emitted

-- the moment of a node that ticks: that of the tick, or its time where that is later
abbrev pub time_at : Node → ℕ → ℕ
time_at x now = max x.time now

-- the first n messages of source s are acknowledged
abbrev pub AllAcked : World → Side → ℕ → ℕ → Type 0
AllAcked w side s n = (i : ℕ) → 0 < i → i ≤ n → in_ranges (acked (records (node w side)) s) i ≡ true

-- what a source had accepted, up to the end of the window, is acknowledged at the end of one round, where at most 64
-- keys are due at its node and the sequence is open then
abbrev pub ARoundBringsAFew : Type 0
ARoundBringsAFew =
    (terms : Terms) (w : World) (events : List Event) → AreTerms terms → IsSound terms w → BothStand w
    → (fair : IsFair terms w events) → (side : Side) (s t : ℕ) → IsReached w side s t
    → is_sending (phase (records (node w side)) s) ≡ true
    → AreFewDue (node w side) (time_at (node w side) (moment fair side))
    → (n : ℕ) → n ≤ accepted_count (records (node w side)) s
    → n ≤ front (records (node w (other side))) t + limits.window
    → IsOpen (records (node (run terms events w) (other side))) t → AllAcked (run terms events w) side s n
