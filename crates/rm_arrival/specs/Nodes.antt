-- A message that comes to a node that stands.
use Rattle.std.specs.Prelude.{◌≡◌, ℕ, suc, true, false, List, [], ◌∷◌, ◌++◌, Some, None, Ok}
use Rattle.std.specs.List.{list_any}
use Rattle.rm_base.specs.NumberSet.{has_number}
use Rattle.rm_message.specs.declared.message.Message.{Message}
use Rattle.wsa_headers.specs.declared.endpoint.Epr.{Epr}
use Rattle.record_batch.specs.Fact.{Fact}
use Rattle.record_batch.specs.Sequences.Words.{Text}
use Rattle.record_batch.specs.Sequences.Sources.{out_ident}
use Rattle.record_batch.specs.Sequences.Destinations.{held, is_ended}
use Rattle.record_batch.specs.Sequences.Find.{acks_to, find_incoming, find_outgoing}
use Rattle.rm_protocol.specs.Messages.{data_at}
use Rattle.rm_protocol.specs.Node.{Node, Up, after, node_end, records, said_after}
use Rattle.rm_protocol.specs.Polls.{selected_by}
use Rattle.rm_protocol.specs.Rows.{rows}
use Rattle.rm_protocol.specs.Said.{said}
use Rattle.rm_protocol.specs.Terms.{Terms}
use Rattle.rm_protocol.specs.Verdict.{has_room, is_invalid, verdict}
use Rattle.rm_protocol.specs.Waiting.{is_waiting, key}
use Rattle.rm_protocol.specs.World.{received_by}
use Rattle.rm_arrival.specs.Round.{CanTake}

-- the node is up, and its disk is not armed
pub record Stands (x : Node) : Type 0 where
  pub up : x.state ≡ Up
  pub unarmed : x.fuse ≡ None

-- the records of its rows are there, and what the protocol says at them is said
pub record Took (terms : Terms) (x : Node) (m : Message) : Type 0 where
  pub there : records (after x (received_by terms x (Ok m)))
      ≡ records x ++ rows terms x.clock x.granted m (records x)
  pub says : said_after x (received_by terms x (Ok m))
      ≡ said (records x ++ rows terms x.clock x.granted m (records x)) x.clock m

-- so it is of each message without a verdict that asks for no other one
abbrev pub TakesWhole : Type 0
TakesWhole =
    (terms : Terms) (x : Node) (m : Message) → Stands x → selected_by m.body ≡ None
    → verdict terms (records x) (node_end terms x) x.clock x.granted m ≡ None → Took terms x m

-- the store of a node has room for what a message adds
abbrev pub HasRoomFor : Terms → Node → Message → Type 0
HasRoomFor terms x m = has_room terms (node_end terms x) (rows terms x.clock x.granted m (records x)) ≡ true

-- message i of source s, delivered at node b: it is held there, one answer is said, and that answer, delivered at the
-- source's node however that stands by then, ends the wait for good
pub record ArrivesAt (terms : Terms) (b : Node) (s t i : ℕ) (q : Text) (m : Message) : Type 0 where
  pub answer : Message
  pub has : has_number (held (records (after b (received_by terms b (Ok m)))) t) (suc i) ≡ true
  pub says : said_after b (received_by terms b (Ok m)) ≡ answer ∷ []
  pub ends : (c : Node) → Stands c → find_outgoing (records c) q ≡ Some s
      → list_any (is_invalid (records c)) answer.acks ≡ false → HasRoomFor terms c answer → (d : List Fact)
      → is_waiting (records (after c (received_by terms c (Ok answer))) ++ d) (key s (suc i)) ≡ false

-- one message, one round, of two nodes that stand and whose stores have room
abbrev pub ARoundOfNodes : Type 0
ARoundOfNodes =
    (terms : Terms) (a : List Fact) (b : Node) (s t i : ℕ) (q : Text) (back : Epr) (m : Message)
    → out_ident a s ≡ Some q → data_at a s (suc i) ≡ Some m
    → Stands b → find_incoming (records b) q ≡ Some t → acks_to (records b) t ≡ Some back
    → is_ended (records b) t b.clock ≡ false → CanTake (records b) t (suc i) b.clock → HasRoomFor terms b m
    → ArrivesAt terms b s t i q m
