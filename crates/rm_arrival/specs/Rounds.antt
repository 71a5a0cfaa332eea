-- Fair rounds one after the other: each key has its turn, however many wait.
use Rattle.std.specs.Prelude.{◌≡◌, ℕ, ◌+◌, ◌-◌, ◌*◌, ◌<◌, ◌≤◌, true, List, [], ◌∷◌, length, Some}
use Rattle.std.specs.List.{AllByRecursion}
use Rattle.rm_base.specs.Limits as limits
use Rattle.rm_base.specs.Numbered.{numbered}
use Rattle.rm_base.specs.NumberSet.{has_number}
use Rattle.rm_message.specs.declared.elements.header.AckBlock.{AckBlock}
use Rattle.rm_message.specs.declared.message.Message.{Message}
use Rattle.record_batch.specs.Sequences.Words.{Text}
use Rattle.record_batch.specs.Sequences.Sources.{accepted_count, is_sending, phase}
use Rattle.record_batch.specs.Sequences.Destinations.{front}
use Rattle.rm_protocol.specs.Node.{records}
use Rattle.rm_protocol.specs.PollLemmas.{AllWaiting}
use Rattle.rm_protocol.specs.Sound.{IsSound}
use Rattle.rm_protocol.specs.Terms.{AreTerms, Terms}
use Rattle.rm_protocol.specs.Waiting.{nacked_of}
use Rattle.rm_protocol.specs.World.{AreMade, Event, Packet, Side, World, node, other, run}
use Rattle.rm_arrival.specs.Fair.{BothStand, IsFair, IsOpen, IsReached, moment}
use Rattle.rm_arrival.specs.Few.{AllAcked}
use Rattle.rm_arrival.specs.Runs.{HasArrived, WaitsRight, reached_by}

-- the block says of no number that it is missing
abbrev pub NamesNoneMissing : AckBlock → Type 0
NamesNoneMissing block = nacked_of block.kind ≡ []

-- the message has no Nack, by which a key would be wanted before its turn
abbrev pub HasNoNack : Message → Type 0
HasNoNack m = AllByRecursion NamesNoneMissing m.acks

-- none of the packets with these numbers has one
abbrev pub AreQuiet : List Packet → List ℕ → Type 0
AreQuiet packets numbers =
    (k : ℕ) (p : Packet) → has_number numbers k ≡ true → numbered packets k ≡ Some p → HasNoNack p.message

-- nor has one of the messages that wait at a node until they are asked for
abbrev pub NoNackWaits : World → Type 0
NoNackWaits w = (side : Side) → AllWaiting HasNoNack (node w side).polled

-- One of several rounds: it is fair, and of the old packets, those from before the rounds, it delivers no Nack; the
-- tick of the side comes 64 seconds after the last one or later; source s of the side sends when it begins, and
-- destination t of the other side is open when it ends.
pub record IsTurn (terms : Terms) (old : List Packet) (w : World) (round : List Event) (side : Side) (s t : ℕ)
    : Type 0 where
  pub fair : IsFair terms w round
  pub quiet : AreQuiet old fair.numbers
  pub late : (node w side).time + 64000 ≤ moment fair side
  pub sends : is_sending (phase (records (node w side)) s) ≡ true
  pub open_ : IsOpen (records (node (run terms round w) (other side))) t

-- each of them is one, where it comes
abbrev pub AreTurns : Terms → List Packet → World → Side → ℕ → ℕ → List (List Event) → Type 0
AreTurns terms old w side s t [] = Unit {0}
AreTurns terms old w side s t (round ∷ rounds) =
    IsTurn terms old w round side s t × AreTurns terms old (run terms round w) side s t rounds

-- the world behind them
abbrev pub run_rounds : Terms → List (List Event) → World → World
run_rounds terms [] w = w
run_rounds terms (round ∷ rounds) w = run_rounds terms rounds (run terms round w)

-- so many rounds are enough for so many keys: one for each 64 keys that may come before, each of them six times
abbrev pub AreEnough : ℕ → ℕ → Type 0
AreEnough keys rounds = 6 * (keys - 1) < 64 * rounds

-- after enough rounds what a source had accepted, up to the end of the window, is acknowledged
abbrev pub EachHasItsTurn : Type 0
EachHasItsTurn =
    (terms : Terms) (w : World) (rounds : List (List Event)) → AreTerms terms → IsSound terms w → BothStand w
    → NoNackWaits w → ((side : Side) → WaitsRight (node w side)) → (side : Side) (s t : ℕ) → IsReached w side s t
    → AreTurns terms w.packets w side s t rounds → AreEnough (length (node w side).waits) (length rounds)
    → (n : ℕ) → n ≤ accepted_count (records (node w side)) s
    → n ≤ front (records (node w (other side))) t + limits.window → AllAcked (run_rounds terms rounds w) side s n

-- from each world that a script reaches in which both nodes stand, what a source had accepted, up to the end of the
-- window, has arrived after enough rounds
abbrev pub EachMessageArrives : Type 0
EachMessageArrives =
    (terms : Terms) (one two : Text) → AreTerms terms → AreMade terms one two → (events : List Event)
    (rounds : List (List Event)) → BothStand (reached_by terms one two events)
    → NoNackWaits (reached_by terms one two events) → (side : Side) (s t : ℕ)
    → IsReached (reached_by terms one two events) side s t
    → AreTurns terms (reached_by terms one two events).packets (reached_by terms one two events) side s t rounds
    → AreEnough (length (node (reached_by terms one two events) side).waits) (length rounds)
    → (n : ℕ) → n ≤ accepted_count (records (node (reached_by terms one two events) side)) s
    → n ≤ front (records (node (reached_by terms one two events) (other side))) t + limits.window
    → HasArrived (run_rounds terms rounds (reached_by terms one two events)) side s t n

-- two passes of enough rounds bring what is up to two windows past the front: in the first the window moves
abbrev pub TwoPassesArrive : Type 0
TwoPassesArrive =
    (terms : Terms) (one two : Text) → AreTerms terms → AreMade terms one two → (events : List Event)
    (first second : List (List Event)) → BothStand (reached_by terms one two events)
    → NoNackWaits (reached_by terms one two events) → (side : Side) (s t : ℕ)
    → IsReached (reached_by terms one two events) side s t
    → AreTurns terms (reached_by terms one two events).packets (reached_by terms one two events) side s t first
    → AreEnough (length (node (reached_by terms one two events) side).waits) (length first)
    → AreTurns terms (reached_by terms one two events).packets
    (run_rounds terms first (reached_by terms one two events)) side s t second
    → AreEnough (length (node (run_rounds terms first (reached_by terms one two events)) side).waits) (length second)
    → (n : ℕ) → n ≤ accepted_count (records (node (reached_by terms one two events) side)) s
    → n ≤ front (records (node (reached_by terms one two events) (other side))) t + 2 * limits.window
    → HasArrived (run_rounds terms second (run_rounds terms first (reached_by terms one two events))) side s t n
