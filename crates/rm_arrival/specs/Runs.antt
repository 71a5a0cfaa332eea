-- What waits in the worlds of a run, and what one fair round brings from each world that a script reaches.
use Rattle.std.specs.Prelude.{◌≡◌, ℕ, ◌+◌, ◌<◌, ◌≤◌, true, List, length}
use Rattle.std.specs.List.{AllByRecursion}
use Rattle.rm_base.specs.Limits as limits
use Rattle.rm_base.specs.NumberSet.{has_number}
use Rattle.rm_base.specs.declared.message.Behaviour.TheVariants.{FollowingFirstGap}
use Rattle.timers.specs.Keys.Waits.{due_at, most_emitted}
use Rattle.record_batch.specs.Sequences.Words.{Text}
use Rattle.record_batch.specs.Sequences.Sources.{accepted_count, is_sending, phase}
use Rattle.record_batch.specs.Sequences.Destinations.{behaviour, front, held, inbox}
use Rattle.rm_protocol.specs.Exact.{AreExactly}
use Rattle.rm_protocol.specs.Node.{Node, Up, records}
use Rattle.rm_protocol.specs.Terms.{AreTerms, Terms}
use Rattle.rm_protocol.specs.World.{AreMade, Event, Side, World, node, other, run, start}
use Rattle.rm_arrival.specs.Fair.{BothStand, IsFair, IsOpen, IsReached, moment}
use Rattle.rm_arrival.specs.Few.{AllAcked}
use Rattle.rm_arrival.specs.Round.{IsTimely}

-- the world that a script reaches
abbrev pub reached_by : Terms → Text → Text → List Event → World
reached_by terms one two events = run terms events (start one two)

-- at a node that is up the keys that wait are those that wait by its records; and each is in a class up to 6, and due
-- within 64 seconds of the node's time
pub record WaitsRight (x : Node) : Type 0 where
  pub exact : x.state ≡ Up → AreExactly (records x) x.waits
  pub timely : AllByRecursion (IsTimely x.time) x.waits

-- so it is in each world of a run
abbrev pub EachRunWaitsRight : Type 0
EachRunWaitsRight =
    (terms : Terms) (one two : Text) → AreTerms terms → AreMade terms one two → (events : List Event) (side : Side)
    → WaitsRight (node (reached_by terms one two events) side)

-- of the first n messages of source s of a side: they are acknowledged, destination t of the other side holds them, and
-- in a sequence with DiscardFollowingFirstGap they are in the inbox
pub record HasArrived (w : World) (side : Side) (s t n : ℕ) : Type 0 where
  pub acked_ : AllAcked w side s n
  pub held_ : (i : ℕ) → 0 < i → i ≤ n → has_number (held (records (node w (other side))) t) i ≡ true
  pub released : behaviour (records (node w (other side))) t ≡ FollowingFirstGap
      → n ≤ length (inbox (records (node w (other side))) t)

-- From each world that a script reaches in which both nodes stand: what a source had accepted, up to the end of the
-- window, has arrived at the end of one fair round, whose ticks come 64 seconds after the last ones or later, where at
-- most 64 keys wait at its node and the sequence is open then.
abbrev pub AFewArrive : Type 0
AFewArrive =
    (terms : Terms) (one two : Text) → AreTerms terms → AreMade terms one two → (events round : List Event)
    → BothStand (reached_by terms one two events) → (fair : IsFair terms (reached_by terms one two events) round)
    → (side : Side) (s t : ℕ) → IsReached (reached_by terms one two events) side s t
    → is_sending (phase (records (node (reached_by terms one two events) side)) s) ≡ true
    → (node (reached_by terms one two events) side).time + 64000 ≤ moment fair side
    → length (due_at (moment fair side) (node (reached_by terms one two events) side).waits) ≤ most_emitted
    → (n : ℕ) → n ≤ accepted_count (records (node (reached_by terms one two events) side)) s
    → n ≤ front (records (node (reached_by terms one two events) (other side))) t + limits.window
    → IsOpen (records (node (run terms round (reached_by terms one two events)) (other side))) t
    → HasArrived (run terms round (reached_by terms one two events)) side s t n
