-- Which step of a node a line of a relay's script is.
use Rattle.std.proofs.Common.{◌≡◌, ◌∙◌, ◌-◌, ◌==◌, ℕ, cond, Bool, true, false, List, [], ◌∷◌, Option, Some, None}
use Rattle.std.proofs.Common.{map, refl, sym, ap, subst, slice_get}
use Rattle.std.specs.Prelude.{Result}
use Rattle.std.specs.Borrow.{Bor}
use Rattle.std.specs.List.{AllByRecursion}
use Rattle.std.specs.Option.{option_map}
use Rattle.std.proofs.lemmas.Option.{slice_get-map}
use Rattle.rm_base.specs.Numbered.{numbered}
use Rattle.rm_message.specs.declared.message.Message.{Message}
use Rattle.rm_message.specs.declared.refusal.Refusal.{Refusal}
use Rattle.rm_script.specs.declared.report.line.Outcome.TheVariants as told
use Rattle.rm_script.specs.declared.event.Side.{Side}
use Rattle.record_batch.specs.Sequences.Words.{Text}
use Rattle.rm_protocol.specs.Messages.{never}
use Rattle.record_batch.specs.declared.record.Via.TheVariants.{Direct}
use Rattle.rm_protocol.specs.Terms.{Terms}
use Rattle.rm_node.specs.Asked as asks
use Rattle.rm_node.specs.Came.{IsReadAs}
use Rattle.rm_node.specs.declared.call.Call.TheVariants as call
use Rattle.node_laws.specs.declared.answers.answer.Wish.{Wish}
use Rattle.rm_replay.specs.AllLemmas.{all_get, some_same}
use Rattle.rm_replay.specs.Net.{AreOfNet, read_as, text_of}
use Rattle.rm_relay.specs.Word.World.{Event, Packet, World, Close, Create, Deliver, End, Send, Tick, address_of}
use Rattle.rm_relay.specs.Word.World.{arrives}
use Rattle.rm_relay.specs.Word.World.{asker, next, node, number_of, wish_of}
use Rattle.rm_relay.specs.declared.word.station.Station.{Station}
use Rattle.rm_relay.specs.declared.word.station.Station.TheVariants.{One}
use Rattle.rm_relay.specs.Happening.{step_of}
use Rattle.rm_relay.specs.Meaning.{arrival}
use Rattle.rm_relay.specs.Shows.{IsReadRight, Scene, Shows, wire_packet, wire_packets}
use Rattle.rm_relay.specs.declared.event.Event.TheVariants as said
use Rattle.rm_relay.specs.declared.report.Ending.{Ending}
use Rattle.rm_relay.specs.declared.report.Ending.TheVariants.{Came as came_out}
use Rattle.rm_relay.specs.declared.stage.Nodes3.{Nodes3}
use Rattle.rm_relay.proofs.EventLemmas.{IsCall, IsStill}

-- ---- what a line asks for

-- so the code asks for a sequence
abbrev pub wish : Text → Wish
wish to = record { to = to; via = Direct; expires = never; offer = None }

create_by : (terms : Terms) (w : World) (at : Side)
    → IsCall terms w (said.Create at) (Create at) (asker at) None
    (step_of terms (node w (asker at)) (asks.Create (wish_of at)) (call.Create (wish (address_of (next at)))))
create_by terms w at = record {
  means = refl;
  quiet = λ of entries. refl;
  at_ = refl;
  moves = refl;
  outcome = refl;
}

-- a node asks the next one for a sequence
pub create_call : (terms : Terms) (w : World) (side : Side) (at : Station) (to : Text) → at ≡ asker side
    → to ≡ address_of (next side)
    → IsCall terms w (said.Create side) (Create side) at None
    (step_of terms (node w at) (asks.Create (record (wish_of side) { to = to })) (call.Create (wish to)))
create_call terms w side at to from is =
    subst (λ (s : Station). IsCall terms w (said.Create side) (Create side) s None
    (step_of terms (node w s) (asks.Create (record (wish_of side) { to = to })) (call.Create (wish to)))) (sym from)
    (subst (λ (t : Text). IsCall terms w (said.Create side) (Create side) (asker side) None
    (step_of terms (node w (asker side)) (asks.Create (record (wish_of side) { to = t })) (call.Create (wish t))))
    (sym is) (create_by terms w side))

pub send_call : (terms : Terms) (w : World) (seq : ℕ) (text : Text)
    → IsCall terms w (said.Send seq text) (Send seq text) One None
    (step_of terms w.one (asks.Send seq text) (call.Send seq text))
send_call terms w seq text = record {
  means = refl;
  quiet = λ of entries. refl;
  at_ = refl;
  moves = refl;
  outcome = refl;
}

pub tick_call : (terms : Terms) (w : World) (at : Station) (now : ℕ)
    → IsCall terms w (said.Tick at now) (Tick at now) at None
    (step_of terms (node w at) (asks.Tick now) (call.Tick now))
tick_call terms w at now = record {
  means = refl;
  quiet = λ of entries. refl;
  at_ = refl;
  moves = refl;
  outcome = refl;
}

pub close_call : (terms : Terms) (w : World) (at : Station) (seq : ℕ)
    → IsCall terms w (said.Close at seq) (Close at seq) at None
    (step_of terms (node w at) (asks.Close seq) (call.Close seq))
close_call terms w at seq = record {
  means = refl;
  quiet = λ of entries. refl;
  at_ = refl;
  moves = refl;
  outcome = refl;
}

pub end_call : (terms : Terms) (w : World) (at : Station) (seq : ℕ)
    → IsCall terms w (said.End at seq) (End at seq) at None
    (step_of terms (node w at) (asks.End seq) (call.End seq))
end_call terms w at seq = record {
  means = refl;
  quiet = λ of entries. refl;
  at_ = refl;
  moves = refl;
  outcome = refl;
}

-- ---- what comes to a node

deliver_by : (terms : Terms) (w : World) (k : ℕ) (p : Packet) (bytes : Bor (List ℕ)) → numbered w.packets k ≡ Some p
    → IsCall terms w (said.Deliver k) (Deliver k) p.to (Some p.from)
    (step_of terms (node w p.to) (asks.Receive (terms.read p.message)) (call.Receive bytes))
deliver_by terms w k p bytes there = record {
  means = refl;
  quiet = λ of entries. refl;
  at_ = ap (λ (packet : Option Packet). option_map (λ (q : Packet). q.to) packet) there;
  moves = ap (λ (packet : Option Packet). arrives terms w packet) there;
  outcome = ap (λ (packet : Option Packet). arrival terms w packet) there;
}

-- at the node that the packet names, from the one that sent it
pub deliver_call : (terms : Terms) (w : World) (k : ℕ) (p : Packet) (at from : Station) (bytes : Bor (List ℕ))
    → numbered w.packets k ≡ Some p → at ≡ p.to → from ≡ p.from
    → IsCall terms w (said.Deliver k) (Deliver k) at (Some from)
    (step_of terms (node w at) (asks.Receive (terms.read p.message)) (call.Receive bytes))
deliver_call terms w k p at from bytes there to_ sent =
    subst (λ (s : Station). IsCall terms w (said.Deliver k) (Deliver k) s (Some from)
    (step_of terms (node w s) (asks.Receive (terms.read p.message)) (call.Receive bytes))) (sym to_)
    (subst (λ (s : Station). IsCall terms w (said.Deliver k) (Deliver k) p.to (Some s)
    (step_of terms (node w p.to) (asks.Receive (terms.read p.message)) (call.Receive bytes))) (sym sent)
    (deliver_by terms w k p bytes there))

-- ---- packets with a number

numbered_by : {A B : Type 0} (f : A → B) (xs : List A) (k : ℕ) (b : Bool)
    → cond b None (slice_get (map f xs) (k - 1)) ≡ option_map f (cond b None (slice_get xs (k - 1)))
numbered_by f xs k true = refl
numbered_by f xs k false = slice_get-map f xs (k - 1)

numbered_map : {A B : Type 0} (f : A → B) (xs : List A) (k : ℕ) → numbered (map f xs) k ≡ option_map f (numbered xs k)
numbered_map f xs k = numbered_by f xs k (k == 0)

-- a packet on the wire is one of the world
pub record IsThere (w : World) (k : ℕ) (to : ℕ) (bytes : List ℕ) : Type 0 where
  pub packet : Packet
  pub there : numbered w.packets k ≡ Some packet
  pub to_ : to ≡ number_of packet.to
  pub text : bytes ≡ text_of packet.message
  pub read : IsReadRight packet

numbered_get : (packets : List Packet) (k : ℕ) (b : Bool) (p : Packet) → AllByRecursion IsReadRight packets
    → cond b None (slice_get packets (k - 1)) ≡ Some p → IsReadRight p
numbered_get packets k true p all is = absurd cc
numbered_get packets k false p all is = all_get IsReadRight packets (k - 1) p all is

there_by : (w : World) (k : ℕ) (packet : Option Packet) (to : ℕ) (bytes : List ℕ) → numbered w.packets k ≡ packet
    → Some (to, bytes) ≡ option_map wire_packet packet → AllByRecursion IsReadRight w.packets → IsThere w k to bytes
there_by w k None to bytes is found all = absurd cc
there_by w k (Some p) to bytes is found all =
    let same : (to, bytes) ≡ wire_packet p = some_same (to, bytes) (wire_packet p) found in
    record {
      packet = p;
      there = is;
      to_ = ap (λ (q : ℕ × List ℕ). q.0) same;
      text = ap (λ (q : ℕ × List ℕ). q.1) same;
      read = numbered_get w.packets k (k == 0) p all is;
    }

pub there_of : (w : World) (scene : Scene) (nodes : Nodes3) (senders : List Station) (k to : ℕ) (bytes : List ℕ)
    → Shows w scene nodes senders → Some (to, bytes) ≡ numbered scene.packets k → IsThere w k to bytes
there_of w scene nodes senders k to bytes shows found =
    there_by w k (numbered w.packets k) to bytes refl
    (found ∙ ap (λ (packets : List (ℕ × List ℕ)). numbered packets k) shows.wire ∙ numbered_map wire_packet w.packets k)
    shows.read

-- who sent it
pub sent_there : (w : World) (scene : Scene) (nodes : Nodes3) (senders : List Station) (k : ℕ) (p : Packet)
    → Shows w scene nodes senders → numbered w.packets k ≡ Some p → numbered senders k ≡ Some p.from
sent_there w scene nodes senders k p shows there =
    ap (λ (ss : List Station). numbered ss k) shows.sent ∙ numbered_map (λ (q : Packet). q.from) w.packets k
    ∙ ap (option_map (λ (q : Packet). q.from)) there

-- ---- no packet has this number

lost_by : (packet : Option Packet) → None ≡ option_map wire_packet packet → packet ≡ None
lost_by None none = refl
lost_by (Some p) none = absurd cc

pub lost : (w : World) (scene : Scene) (nodes : Nodes3) (senders : List Station) (k : ℕ) → Shows w scene nodes senders
    → None ≡ numbered scene.packets k → numbered w.packets k ≡ None
lost w scene nodes senders k shows none =
    lost_by (numbered w.packets k)
    (none ∙ ap (λ (packets : List (ℕ × List ℕ)). numbered packets k) shows.wire ∙ numbered_map wire_packet w.packets k)

pub lost_still : (terms : Terms) (w : World) (k : ℕ) → numbered w.packets k ≡ None
    → IsStill terms w (said.Deliver k) (Deliver k) (came_out told.NoPacket)
lost_still terms w k none = record {
  means = refl;
  quiet = λ of entries. refl;
  stays = ap (λ (packet : Option Packet). arrives terms w packet) none;
  comes = ap (λ (packet : Option Packet). arrival terms w packet) none;
  well = refl;
}

-- what a packet is read as, as bytes
pub packet_read : (terms : Terms) → AreOfNet terms → (w : World) (k to : ℕ) (bytes : List ℕ)
    → (is : IsThere w k to bytes) → IsReadAs bytes (terms.read is.packet.message)
packet_read terms net w k to bytes is =
    subst (λ (content : Result Message Refusal). IsReadAs bytes content) (sym (net.read is.packet.message))
    (subst (λ (text : List ℕ). IsReadAs text (read_as is.packet.message)) (sym is.text) is.read)
