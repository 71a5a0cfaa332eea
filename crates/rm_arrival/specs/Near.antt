-- How far a source may be ahead of its destination: what was accepted is never more than two windows past the front.
use Rattle.std.specs.Prelude.{◌≡◌, ℕ, ◌+◌, ◌-◌, ◌*◌, ◌/◌, ◌≤◌, true, List, [], ◌∷◌, length}
use Rattle.rm_base.specs.Limits as limits
use Rattle.rm_base.specs.NumberSet.{has_number}
use Rattle.record_batch.specs.Fact.{Fact}
use Rattle.record_batch.specs.Sequences.Words.{Text}
use Rattle.record_batch.specs.Sequences.Sources.{accepted_count, is_sending, phase, unacked}
use Rattle.record_batch.specs.Sequences.Destinations.{front, held}
use Rattle.rm_protocol.specs.Node.{records}
use Rattle.rm_protocol.specs.Terms.{AreTerms, Terms}
use Rattle.rm_protocol.specs.World.{AreMade, Event, Packet, Side, World, node, other, run}
use Rattle.rm_arrival.specs.Fair.{BothStand, IsFair, IsOpen, IsReached, moment}
use Rattle.rm_arrival.specs.Rounds.{AreQuiet, NoNackWaits, run_rounds}
use Rattle.rm_arrival.specs.Runs.{HasArrived, reached_by}

-- no source has more messages without an acknowledgement than a window, and no destination holds a number that is more
-- than a window past its front
pub record IsNear (r : List Fact) : Type 0 where
  pub few : (s : ℕ) → unacked r s ≤ limits.window
  pub near : (t n : ℕ) → has_number (held r t) n ≡ true → n ≤ front r t + limits.window

-- so it is at both nodes in each world of a run
abbrev pub EachRunIsNear : Type 0
EachRunIsNear =
    (terms : Terms) (one two : Text) → AreTerms terms → AreMade terms one two → (events : List Event) (side : Side)
    → IsNear (records (node (reached_by terms one two events) side))

-- and where both nodes stand, what a source had accepted is at most two windows past the front of its destination
abbrev pub AcceptedIsNear : Type 0
AcceptedIsNear =
    (terms : Terms) (one two : Text) → AreTerms terms → AreMade terms one two → (events : List Event)
    → BothStand (reached_by terms one two events) → (side : Side) (s t : ℕ)
    → IsReached (reached_by terms one two events) side s t
    → accepted_count (records (node (reached_by terms one two events) side)) s
    ≤ front (records (node (reached_by terms one two events) (other side))) t + 2 * limits.window

-- so many rounds bring all, where so many keys wait: two passes, of one round for each 64 keys that may come before a
-- key, each of them six times, and one for the key
abbrev pub rounds_for : ℕ → ℕ
rounds_for keys = 2 * (6 * (keys - 1) / 64 + 1)

-- one of several rounds: it is fair, and of the old packets, those from before the rounds, it delivers no Nack; the
-- tick of the side comes 64 seconds after the last one or later
pub record IsRound (terms : Terms) (old : List Packet) (w : World) (round : List Event) (side : Side) : Type 0 where
  pub fair : IsFair terms w round
  pub quiet : AreQuiet old fair.numbers
  pub late : (node w side).time + 64000 ≤ moment fair side

-- each of them is one, where it comes
abbrev pub AreRounds : Terms → List Packet → World → Side → List (List Event) → Type 0
AreRounds terms old w side [] = Unit {0}
AreRounds terms old w side (round ∷ rounds) =
    IsRound terms old w round side × AreRounds terms old (run terms round w) side rounds

-- From each world w that a script reaches, in which both nodes stand: all that source s of a side had accepted has
-- arrived after so many fair rounds, where in the end the source is open or closing, and its destination t is open and
-- never expires.
abbrev pub AllArrives : Type 0
AllArrives =
    (terms : Terms) (one two : Text) → AreTerms terms → AreMade terms one two → (events : List Event)
    (rounds : List (List Event)) → let w = reached_by terms one two events in
    let then = run_rounds terms rounds w in BothStand w → NoNackWaits w → (side : Side) (s t : ℕ)
    → IsReached w side s t → AreRounds terms w.packets w side rounds
    → rounds_for (length (node w side).waits) ≤ length rounds
    → is_sending (phase (records (node then side)) s) ≡ true → IsOpen (records (node then (other side))) t
    → HasArrived then side s t (accepted_count (records (node w side)) s)
