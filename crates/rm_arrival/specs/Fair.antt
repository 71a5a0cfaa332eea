-- A fair round of two nodes: both tick, and all that is said since is delivered. What becomes of a message that waits.
use Rattle.std.specs.Prelude.{◌≡◌, ℕ, suc, ◌+◌, ◌<◌, ◌≤◌, max, true, false, List, [], ◌∷◌, ◌++◌, length, map, Some}
use Rattle.std.specs.Prelude.{None}
use Rattle.std.specs.Prelude.{Ok}
use Rattle.std.specs.List.{AllByRecursion}
use Rattle.rm_base.specs.Limits as limits
use Rattle.rm_base.specs.Numbered.{numbered}
use Rattle.rm_message.specs.declared.refusal.FaultKind.TheVariants.{StoreFull}
use Rattle.rm_sides.specs.Ranges.Ranges.{in_ranges}
use Rattle.wsa_headers.specs.declared.endpoint.Epr.{Epr}
use Rattle.record_batch.specs.Fact.{Fact}
use Rattle.record_batch.specs.Sequences.Words.{Text}
use Rattle.record_batch.specs.Sequences.Makers.{maker}
use Rattle.record_batch.specs.Sequences.Sources.{acked, out_ident}
use Rattle.record_batch.specs.Sequences.Destinations.{deadline_of, front, is_stopped}
use Rattle.record_batch.specs.Sequences.Find.{acks_to, find_incoming, find_outgoing, peer}
use Rattle.timers.specs.Keys.Waits.{first_due, has_key}
use Rattle.rm_protocol.specs.Addresses.{Out, place_of}
use Rattle.rm_protocol.specs.Calls.{Judged}
use Rattle.rm_protocol.specs.Node.{Answered, records}
use Rattle.rm_protocol.specs.Said.{leaves}
use Rattle.rm_protocol.specs.Sent.{Called, Line, LineOutcome, lines}
use Rattle.rm_protocol.specs.Sound.{IsSound}
use Rattle.rm_protocol.specs.Terms.{AreTerms, Terms}
use Rattle.rm_protocol.specs.Waiting.{is_waiting, key}
use Rattle.rm_protocol.specs.World.{Deliver, Event, One, Packet, Side, Tick, Two, World, happens, node, other, run}
use Rattle.rm_arrival.specs.Nodes.{Stands}

-- both nodes are up, and no disk is armed
abbrev pub BothStand : World → Type 0
BothStand w = (side : Side) → Stands (node w side)

-- a line of a round did not come out with a full store
abbrev pub HadRoom : LineOutcome → Type 0
HadRoom (Called (Answered (Judged StoreFull))) = ⊥
HadRoom _ = Unit {0}

-- packet k is delivered among these events, when it is there
pub record IsDelivered (terms : Terms) (w : World) (events : List Event) (k : ℕ) : Type 0 where
  pub before : List Event
  pub behind : List Event
  pub are : events ≡ before ++ Deliver k ∷ behind
  pub there : k ≤ length (run terms before w).packets

-- the same terms with a network that has room for all
abbrev pub endless : Terms → Terms
endless terms = record terms { takes = λ ms m. true }

-- the network has room for all that is said at each of these events
abbrev pub IsKept : Terms → World → List Event → Type 0
IsKept terms w [] = Unit {0}
IsKept terms w (e ∷ es) =
    ((happens terms w e).packets ≡ (happens (endless terms) w e).packets) × IsKept terms (happens terms w e) es

-- A round: both nodes tick, and each packet that is said in the round is delivered, once or more and in any order, and
-- read as it was said; packets from before may come too. Nothing is lost, and no store is full.
pub record IsFair (terms : Terms) (w : World) (events : List Event) : Type 0 where
  pub one : ℕ
  pub two : ℕ
  pub numbers : List ℕ
  pub are : events ≡ Tick One one ∷ Tick Two two ∷ map Deliver numbers
  pub delivered : (k : ℕ) → length w.packets < k → k ≤ length (run terms events w).packets
      → IsDelivered terms w events k
  pub read : (k : ℕ) (p : Packet) → length w.packets < k → numbered (run terms events w).packets k ≡ Some p
      → terms.read p.message ≡ Ok p.message
  pub kept : IsKept terms w events
  pub room : AllByRecursion (λ (l : Line). HadRoom l.outcome) (lines terms events w)

-- the moment of a side's tick
abbrev pub moment : {terms : Terms} {w : World} {events : List Event} → IsFair terms w events → Side → ℕ
moment fair One = fair.one
moment fair Two = fair.two

-- source s of a side and destination t of the other side have one identifier; the messages of s go out, and the
-- acknowledgements of t have an AcksTo that they reach: WS-ReliableMessaging 1.2, section 3.4
pub record IsReached (w : World) (side : Side) (s t : ℕ) : Type 0 where
  pub ident : Text
  pub known : out_ident (records (node w side)) s ≡ Some ident
  pub mine : find_outgoing (records (node w side)) ident ≡ Some s
  pub theirs : find_incoming (records (node w (other side))) ident ≡ Some t
  pub to : Epr
  pub peer_ : peer (records (node w side)) s ≡ Some to
  pub goes : place_of to.address ≡ Out
  pub back : Epr
  pub knows : acks_to (records (node w (other side))) t ≡ Some back
  pub comes : leaves true (place_of back.address) ≡ true

-- the sequence is open, and never expires
pub record IsOpen (r : List Fact) (t : ℕ) : Type 0 where
  pub open_ : is_stopped r t ≡ false
  pub forever : deadline_of (maker r t) ≡ None

-- message i of source s waits at a side, and the tick of the round emits it
pub record IsDue (w : World) (side : Side) (s i now : ℕ) : Type 0 where
  pub waits : is_waiting (records (node w side)) (key s i) ≡ true
  pub due : has_key (first_due (max (node w side).time now) (node w side).waits) (key s i) ≡ true

-- a message that a tick of a fair round emits is acknowledged at the end of the round, where it is within the window
-- and the sequence is open then
abbrev pub ARoundBrings : Type 0
ARoundBrings =
    (terms : Terms) (w : World) (events : List Event) → AreTerms terms → IsSound terms w → BothStand w
    → (fair : IsFair terms w events) → (side : Side) (s t i : ℕ) → IsReached w side s t
    → IsDue w side s (suc i) (moment fair side)
    → suc i ≤ front (records (node w (other side))) t + limits.window
    → IsOpen (records (node (run terms events w) (other side))) t
    → in_ranges (acked (records (node (run terms events w) side)) s) (suc i) ≡ true
