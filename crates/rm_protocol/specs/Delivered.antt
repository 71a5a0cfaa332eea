-- A delivered message that is new is recorded by that call, and released where it closes the gap, or, of a loose
-- sequence, at once: WS-ReliableMessaging 1.2, section 2.4.
use Rattle.std.specs.Prelude.{◌≡◌, ℕ, ◌+◌, true, false, List, [], ◌∷◌, ◌++◌, Some, Ok}
use Rattle.std.specs.List.{list_any}
use Rattle.rm_base.specs.Numbered.{numbered}
use Rattle.rm_base.specs.declared.message.Behaviour.TheVariants.{FollowingFirstGap}
use Rattle.rm_base.specs.declared.message.Payload.{Payload}
use Rattle.rm_message.specs.declared.message.Message.{Message}
use Rattle.rm_message.specs.declared.refusal.FaultKind.TheVariants.{InvalidAcknowledgement, StoreFull}
use Rattle.record_batch.specs.Fact.{Fact}
use Rattle.rm_sides.specs.Destination.Incoming.{is_loose}
use Rattle.record_batch.specs.Sequences.Destinations.{behaviour, front, inbox, received}
use Rattle.rm_protocol.specs.Calls.{Done, Judged}
use Rattle.rm_protocol.specs.Node.{Node, State, Up, records, node_end, is_short, Answered, DiskFault, IsDown}
use Rattle.rm_protocol.specs.Recorded.{IsNew}
use Rattle.rm_protocol.specs.Rows.{rows}
use Rattle.rm_protocol.specs.Sent.{LineOutcome, Called, outcome_of}
use Rattle.rm_protocol.specs.Terms.{Terms}
use Rattle.rm_protocol.specs.Verdict.{has_room, is_invalid}
use Rattle.rm_protocol.specs.World.{World, Packet, Side, other, node, Deliver, happens}

-- packet k goes to the node at this side, where its text is read as this message
pub record Brings (terms : Terms) (w : World) (k : ℕ) (side : Side) (m : Message) : Type 0 where
  pub packet : Packet
  pub there : numbered w.packets k ≡ Some packet
  pub to : other packet.from ≡ side
  pub read : terms.read packet.message ≡ Ok m

-- one message more was received on the sequence; under DiscardFollowingFirstGap it is released as item i of the inbox
-- where it closes the gap, and on a loose sequence as the next item
pub record Takes (before after : List Fact) (s i : ℕ) (p : Payload) : Type 0 where
  pub recorded : received after s ≡ received before s ++ (i, p) ∷ []
  pub released : behaviour before s ≡ FollowingFirstGap → i ≡ front before s + 1
      → numbered (inbox after s) i ≡ Some (Some p)
  pub loose : is_loose (behaviour before s) ≡ true → inbox after s ≡ inbox before s ++ Some p ∷ []

-- the call that failed was writing
abbrev pub IsWriting : State → Type 0
IsWriting Up = ⊥
IsWriting _ = Unit {0}

-- what becomes of the message at a node, by how the line comes out: it is recorded, or the node was down, its disk
-- failed, one of the message's acknowledgements was invalid, or the store was full; the line comes out in no other way
abbrev pub TakesUnless : Terms → Node → Node → Message → ℕ → ℕ → Payload → LineOutcome → Type 0
TakesUnless terms x y m s i p (Called (Answered Done)) = Takes (records x) (records y) s i p
TakesUnless terms x y m s i p (Called IsDown) = IsWriting x.state
TakesUnless terms x y m s i p (Called DiskFault) = is_short 4 x.fuse ≡ true
TakesUnless terms x y m s i p (Called (Answered (Judged InvalidAcknowledgement))) =
    list_any (is_invalid (records x)) m.acks ≡ true
TakesUnless terms x y m s i p (Called (Answered (Judged StoreFull))) =
    has_room terms (node_end terms x) (rows terms x.clock x.granted m (records x)) ≡ false
TakesUnless terms x y m s i p _ = ⊥

-- each message that a line would deliver, and that is new at its node
abbrev pub TakesNew : Terms → World → Type 0
TakesNew terms w =
    (k : ℕ) (side : Side) (m : Message) (s i : ℕ) (p : Payload)
    → Brings terms w k side m → IsNew (records (node w side)) (node w side).clock m s i p
    → TakesUnless terms (node w side) (node (happens terms w (Deliver k)) side) m s i p (outcome_of terms w (Deliver k))
