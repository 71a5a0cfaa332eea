-- Which step of a node a line is.
use Rattle.std.proofs.Common.{◌≡◌, ◌∙◌, ◌-◌, ◌==◌, ℕ, cond, Bool, true, false, List, Option, Some, None}
use Rattle.std.proofs.Common.{[]}
use Rattle.std.proofs.Common.{refl, sym, ap, subst, slice_get}
use Rattle.std.specs.Prelude.{Result, Err}
use Rattle.std.specs.Borrow.{Bor}
use Rattle.std.specs.List.{AllByRecursion}
use Rattle.std.specs.Option.{option_map}
use Rattle.std.proofs.lemmas.Option.{slice_get-map}
use Rattle.soap_envelope.specs.Soap.{soap_space}
use Rattle.message_reader.specs.Refusals.{Refuses}
use Rattle.rm_node.specs.Came.{IsReadAs}
use Rattle.rm_script.specs.declared.report.line.Outcome.TheVariants as told
use Rattle.rm_base.specs.declared.message.Behaviour.{Behaviour}
use Rattle.rm_base.specs.Numbered.{numbered}
use Rattle.rm_base.specs.declared.lapse.Lapse.{Lapse}
use Rattle.rm_message.specs.declared.message.Message.{Message}
use Rattle.rm_message.specs.declared.refusal.Refusal.{Refusal}
use Rattle.record_batch.specs.declared.record.Via.{Via}
use Rattle.rm_protocol.specs.Calls.{Answer, Wish as Wished}
use Rattle.rm_protocol.specs.Node.{Node, State, Up, Writing, Compacting, outcome_by}
use Rattle.rm_protocol.specs.Sent.{Called, arrival_outcome}
use Rattle.rm_protocol.specs.Terms.{Terms}
use Rattle.rm_protocol.specs.World.{Packet, Side, One, Two, World, Ask, Close, Consume, Create, Deliver, End, Nack}
use Rattle.rm_protocol.specs.World.{Noise, Poll, Send, Tick, arrives, happens, node, other, place, with_clock}
use Rattle.rm_script.specs.declared.event.Event.TheVariants as said
use Rattle.rm_script.specs.declared.event.Side.{Side as Place}
use Rattle.record_batch.specs.Sequences.Words.{Text}
use Rattle.rm_replay.specs.AllLemmas.{all_get, some_same}
use Rattle.rm_replay.specs.Asked.{step_of}
use Rattle.rm_replay.specs.Happening.{Happened, moved}
use Rattle.rm_replay.specs.Meaning.{outcome_told, side_of, via_of}
use Rattle.rm_replay.specs.Shows.{IsReadRight, Scene, Shows, address_of}
use Rattle.rm_replay.specs.Net.{AreOfNet, number_of, read_as, text_of, wire_packet, wire_packets}
use Rattle.rm_replay.specs.Tales.{Tells, fault_at, receiver}
use Rattle.rm_node.specs.Asked as asks
use Rattle.rm_node.specs.declared.call.Call.TheVariants as call
use Rattle.node_laws.specs.declared.answers.answer.Wish.{Wish}
use Rattle.rm_replay.specs.declared.stage.Nodes.{Nodes}
use Rattle.rm_replay.proofs.EventLemmas.{IsCall}
use Rattle.rm_replay.specs.TaleLemmas.{tells_none}

-- ---- what a line asks for

-- a sequence is asked for
abbrev pub wished : Text → Via → Lapse → Option Behaviour → Wished
wished to via expires offer = record { to = to; via = via; expires = expires; offer = offer }

-- and so the code asks
abbrev pub wish : Text → Via → Lapse → Option Behaviour → Wish
wish to via expires offer = record { to = to; via = via; expires = expires; offer = offer }

place_is : (w : World) (scene : Scene) (nodes : Nodes) (side : Side) → Shows w scene nodes
    → address_of side ≡ place w side
place_is w scene nodes One shows = sym shows.at_one
place_is w scene nodes Two shows = sym shows.at_two

pub create_call : (terms : Terms) (w : World) (scene : Scene) (nodes : Nodes)
    (at : Place) (to : Text) (expires : Lapse) (polled : Bool) (offer : Option Behaviour) → Shows w scene nodes
    → to ≡ address_of (other (side_of at))
    → IsCall terms w (said.Create at expires polled offer) (Create (side_of at) (via_of polled) expires offer)
    (side_of at)
    (step_of terms (node w (side_of at)) (asks.Create (wished to (via_of polled) expires offer))
    (call.Create (wish to (via_of polled) expires offer)))
create_call terms w scene nodes at to expires polled offer shows is =
    subst (λ (address : Text). IsCall terms w (said.Create at expires polled offer)
    (Create (side_of at) (via_of polled) expires offer) (side_of at)
    (step_of terms (node w (side_of at)) (asks.Create (wished address (via_of polled) expires offer))
    (call.Create (wish address (via_of polled) expires offer))))
    (sym (is ∙ place_is w scene nodes (other (side_of at)) shows))
    (record {
      means = refl;
      quiet = λ side entries. refl;
      at = refl;
      moves = refl;
      outcome = refl;
    })

-- what waits at the other node is asked for
pub poll_call : (terms : Terms) (w : World) (scene : Scene) (nodes : Nodes) (at : Place) (to : Text)
    → Shows w scene nodes → to ≡ address_of (other (side_of at))
    → IsCall terms w (said.Poll at) (Poll (side_of at)) (side_of at)
    (step_of terms (node w (side_of at)) (asks.Poll to) (call.Poll to))
poll_call terms w scene nodes at to shows is =
    subst (λ (address : Text). IsCall terms w (said.Poll at) (Poll (side_of at)) (side_of at)
    (step_of terms (node w (side_of at)) (asks.Poll address) (call.Poll address)))
    (sym (is ∙ place_is w scene nodes (other (side_of at)) shows))
    (record {
      means = refl;
      quiet = λ side entries. refl;
      at = refl;
      moves = refl;
      outcome = refl;
    })

pub send_call : (terms : Terms) (w : World) (at : Place) (seq : ℕ) (text : Text)
    → IsCall terms w (said.Send at seq text) (Send (side_of at) seq text) (side_of at)
    (step_of terms (node w (side_of at)) (asks.Send seq text) (call.Send seq text))
send_call terms w at seq text = record {
  means = refl;
  quiet = λ side entries. refl;
  at = refl;
  moves = refl;
  outcome = refl;
}

pub close_call : (terms : Terms) (w : World) (at : Place) (seq : ℕ)
    → IsCall terms w (said.Close at seq) (Close (side_of at) seq) (side_of at)
    (step_of terms (node w (side_of at)) (asks.Close seq) (call.Close seq))
close_call terms w at seq = record {
  means = refl;
  quiet = λ side entries. refl;
  at = refl;
  moves = refl;
  outcome = refl;
}

pub end_call : (terms : Terms) (w : World) (at : Place) (seq : ℕ)
    → IsCall terms w (said.End at seq) (End (side_of at) seq) (side_of at)
    (step_of terms (node w (side_of at)) (asks.End seq) (call.End seq))
end_call terms w at seq = record {
  means = refl;
  quiet = λ side entries. refl;
  at = refl;
  moves = refl;
  outcome = refl;
}

pub ask_call : (terms : Terms) (w : World) (at : Place) (seq : ℕ)
    → IsCall terms w (said.Ask at seq) (Ask (side_of at) seq) (side_of at)
    (step_of terms (node w (side_of at)) (asks.AskAck seq) (call.AskAck seq))
ask_call terms w at seq = record {
  means = refl;
  quiet = λ side entries. refl;
  at = refl;
  moves = refl;
  outcome = refl;
}

pub nack_call : (terms : Terms) (w : World) (at : Place) (seq : ℕ)
    → IsCall terms w (said.Nack at seq) (Nack (side_of at) seq) (side_of at)
    (step_of terms (node w (side_of at)) (asks.NackMissing seq) (call.NackMissing seq))
nack_call terms w at seq = record {
  means = refl;
  quiet = λ side entries. refl;
  at = refl;
  moves = refl;
  outcome = refl;
}

pub consume_call : (terms : Terms) (w : World) (at : Place) (seq upto : ℕ)
    → IsCall terms w (said.Consume at seq upto) (Consume (side_of at) seq upto) (side_of at)
    (step_of terms (node w (side_of at)) (asks.Consume seq upto) (call.Consume seq upto))
consume_call terms w at seq upto = record {
  means = refl;
  quiet = λ side entries. refl;
  at = refl;
  moves = refl;
  outcome = refl;
}

-- the clock is nothing to how a call comes out
outcome_clocked : (x : Node) (now : ℕ) (st : State) (answer : Answer)
    → outcome_by x st answer ≡ outcome_by (with_clock x now) st answer
outcome_clocked x now Up answer = refl
outcome_clocked x now (Writing delta) answer = refl
outcome_clocked x now (Compacting start) answer = refl

tick_moves : (terms : Terms) (w : World) (side : Side) (now : ℕ)
    → happens terms w (Tick side now) ≡ moved terms w side (step_of terms (node w side) (asks.Tick now) (call.Tick now))
tick_moves terms w One now = refl
tick_moves terms w Two now = refl

pub tick_call : (terms : Terms) (w : World) (at : Place) (now : ℕ)
    → IsCall terms w (said.Tick at now) (Tick (side_of at) now) (side_of at)
    (step_of terms (node w (side_of at)) (asks.Tick now) (call.Tick now))
tick_call terms w at now = record {
  means = refl;
  quiet = λ side entries. refl;
  at = refl;
  moves = tick_moves terms w (side_of at) now;
  outcome = ap Called (outcome_clocked (node w (side_of at)) now (node w (side_of at)).state _);
}

-- ---- what comes to a node

pub noise_call : (terms : Terms) (w : World) (at : Place) (bytes : Bor (List ℕ)) (refusal : Refusal)
    → Refuses soap_space bytes.now refusal
    → IsCall terms w (said.Noise at bytes.now) (Noise (side_of at) refusal) (side_of at)
    (step_of terms (node w (side_of at)) (asks.Receive (Err refusal)) (call.Receive bytes))
noise_call terms w at bytes refusal refuses = record {
  means = (refusal, refuses, refl);
  quiet = λ side entries. refl;
  at = refl;
  moves = refl;
  outcome = refl;
}

pub deliver_call : (terms : Terms) (w : World) (k : ℕ) (p : Packet) (bytes : Bor (List ℕ))
    → numbered w.packets k ≡ Some p
    → IsCall terms w (said.Deliver k) (Deliver k) (other p.from)
    (step_of terms (node w (other p.from)) (asks.Receive (terms.read p.message)) (call.Receive bytes))
deliver_call terms w k p bytes there = record {
  means = refl;
  quiet = λ side entries. refl;
  at = ap (λ (packet : Option Packet). option_map receiver packet) there;
  moves = ap (λ (packet : Option Packet). arrives terms w packet) there;
  outcome = ap (λ (packet : Option Packet). arrival_outcome terms w packet) there;
}

-- at the side that the packet names
pub deliver_at : (terms : Terms) (w : World) (k : ℕ) (p : Packet) (side : Side) (bytes : Bor (List ℕ))
    → numbered w.packets k ≡ Some p → side ≡ other p.from
    → IsCall terms w (said.Deliver k) (Deliver k) side
    (step_of terms (node w side) (asks.Receive (terms.read p.message)) (call.Receive bytes))
deliver_at terms w k p side bytes there is =
    subst (λ (s : Side). IsCall terms w (said.Deliver k) (Deliver k) s
    (step_of terms (node w s) (asks.Receive (terms.read p.message)) (call.Receive bytes))) (sym is)
    (deliver_call terms w k p bytes there)

-- ---- packets with a number

numbered_by : (packets : List Packet) (k : ℕ) (b : Bool)
    → cond b None (slice_get (wire_packets packets) (k - 1))
    ≡ option_map wire_packet (cond b None (slice_get packets (k - 1)))
numbered_by packets k true = refl
numbered_by packets k false = slice_get-map wire_packet packets (k - 1)

numbered_wire : (packets : List Packet) (k : ℕ)
    → numbered (wire_packets packets) k ≡ option_map wire_packet (numbered packets k)
numbered_wire packets k = numbered_by packets k (k == 0)

-- a packet on the wire is one of the world
pub record IsThere (w : World) (k : ℕ) (to : ℕ) (bytes : List ℕ) : Type 0 where
  pub packet : Packet
  pub there : numbered w.packets k ≡ Some packet
  pub to_ : to ≡ number_of (other packet.from)
  pub text : bytes ≡ text_of packet.message
  pub read : IsReadRight packet

numbered_get : (packets : List Packet) (k : ℕ) (b : Bool) (p : Packet) → AllByRecursion IsReadRight packets
    → cond b None (slice_get packets (k - 1)) ≡ Some p → IsReadRight p
numbered_get packets k true p all is = absurd cc
numbered_get packets k false p all is = all_get IsReadRight packets (k - 1) p all is

there_by : (w : World) (k : ℕ) (packet : Option Packet) (to : ℕ) (bytes : List ℕ) → numbered w.packets k ≡ packet
    → Some (to, bytes) ≡ option_map wire_packet packet → AllByRecursion IsReadRight w.packets
    → IsThere w k to bytes
there_by w k None to bytes is found all = absurd cc
there_by w k (Some p) to bytes is found all =
    let same : (to, bytes) ≡ wire_packet p = some_same (to, bytes) (wire_packet p) found in
    record {
      packet = p;
      there = is;
      to_ = ap (λ (q : ℕ × List ℕ). q.0) same;
      text = ap (λ (q : ℕ × List ℕ). q.1) same;
      read = numbered_get w.packets k (k == 0) p all is;
    }

pub there_of : (w : World) (scene : Scene) (nodes : Nodes) (k to : ℕ) (bytes : List ℕ) → Shows w scene nodes
    → Some (to, bytes) ≡ numbered scene.packets k → IsThere w k to bytes
there_of w scene nodes k to bytes shows found =
    there_by w k (numbered w.packets k) to bytes refl
    (found ∙ ap (λ (packets : List (ℕ × List ℕ)). numbered packets k) shows.wire ∙ numbered_wire w.packets k)
    shows.read

-- there is no packet with this number
lost_by : (packet : Option Packet) → None ≡ option_map wire_packet packet → packet ≡ None
lost_by None none = refl
lost_by (Some p) none = absurd cc

pub lost : (w : World) (scene : Scene) (nodes : Nodes) (k : ℕ) → Shows w scene nodes
    → None ≡ numbered scene.packets k → numbered w.packets k ≡ None
lost w scene nodes k shows none =
    lost_by (numbered w.packets k)
    (none ∙ ap (λ (packets : List (ℕ × List ℕ)). numbered packets k) shows.wire ∙ numbered_wire w.packets k)

pub happens_lost : (terms : Terms) (w : World) (k : ℕ) (scene : Scene) (nodes : Nodes) → Shows w scene nodes
    → numbered w.packets k ≡ None
    → Happened terms w (said.Deliver k) scene scene nodes (Some told.NoPacket)
happens_lost terms w k scene nodes shows none = record {
  event = Some (Deliver k);
  means = refl;
  comes = ap (λ (packet : Option Packet). Some (outcome_told (arrival_outcome terms w packet))) (sym none);
  shows = subst (λ (packet : Option Packet). Shows (arrives terms w packet) scene nodes) (sym none) shows;
  one = subst (λ (packet : Option Packet). Tells (record {
    crashes = [];
    faults = fault_at One (option_map receiver packet) (outcome_told (arrival_outcome terms w packet));
  }) scene.drives.one scene.drives.one) (sym none) (tells_none scene.drives.one);
  two = subst (λ (packet : Option Packet). Tells (record {
    crashes = [];
    faults = fault_at Two (option_map receiver packet) (outcome_told (arrival_outcome terms w packet));
  }) scene.drives.two scene.drives.two) (sym none) (tells_none scene.drives.two);
}

-- what a packet is read as, as bytes
pub packet_read : (terms : Terms) → AreOfNet terms → (w : World) (k to : ℕ) (bytes : List ℕ)
    → (is : IsThere w k to bytes) → IsReadAs bytes (terms.read is.packet.message)
packet_read terms net w k to bytes is =
    subst (λ (content : Result Message Refusal). IsReadAs bytes content) (sym (net.read is.packet.message))
    (subst (λ (text : List ℕ). IsReadAs text (read_as is.packet.message)) (sym is.text) is.read)
