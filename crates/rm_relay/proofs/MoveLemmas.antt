-- A step of one node in a world of three, and its packets on the wire.
use Rattle.std.proofs.Common.{◌≡◌, ◌∙◌, ℕ, cond, Bool, true, false, List, [], ◌∷◌, ◌++◌, append-nil, map, take, drop}
use Rattle.std.proofs.Common.{refl, sym, ap, subst, inr}
use Rattle.std.proofs.lemmas.List.{take-append-drop}
use Rattle.std.specs.Prelude.{Option, Some, None, Ok, Err}
use Rattle.std.specs.List.{AllByRecursion, flat_map}
use Rattle.rm_base.specs.declared.failures.Memory.{Memory}
use Rattle.rm_message.specs.declared.message.Message.{Message}
use Rattle.rm_node.specs.Packets.{packet_of}
use Rattle.rm_node.specs.declared.packets.Out.{Out}
use Rattle.rm_script.specs.declared.report.line.Outcome.{Outcome}
use Rattle.rm_protocol.specs.Addresses.{place_of}
use Rattle.rm_protocol.specs.Pair.{Acted}
use Rattle.rm_protocol.specs.Terms.{Terms}
use Rattle.rm_protocol.specs.Word.{IsPrefixOf}
use Rattle.rm_replay.specs.Actor.Outcomes.{back_packet, packets_in}
use Rattle.rm_replay.specs.declared.actor.actor.Came.{Came}
use Rattle.rm_replay.specs.AllLemmas.{all_append, all_push, all_take, prefix_then}
use Rattle.rm_replay.specs.Net.{AreOfNet}
use Rattle.rm_replay.specs.ReadLemmas.{IsReadMessage}
use Rattle.rm_relay.specs.Word.World.{Packet, World, goes_to, messages_in, packet_to, packets_of, puts, with_node}
use Rattle.rm_relay.specs.declared.word.station.Station.{Station}
use Rattle.rm_relay.specs.Happening.{Moves, Step, SteppedAt}
use Rattle.rm_relay.specs.Putting.{Going, IsPutInPart, Net, going_of, goings_of, with_all}
use Rattle.rm_relay.specs.Shows.{Drives, IsReadRight, Scene, Shows, StandFor}
use Rattle.rm_relay.specs.declared.report.Ending.TheVariants.{Came as came_out}
use Rattle.rm_relay.specs.declared.stage.Nodes3.{Nodes3}
use Rattle.rm_relay.proofs.LegLemmas.{legs-goings, legs-packets, legs_of}
use Rattle.rm_relay.proofs.PacketLemmas.{all-put, part-put, puts-append, wired}
use Rattle.rm_relay.proofs.PutLemmas.{net}

-- of the disks and the packets of the wire
abbrev pub scene_by : Drives → List (ℕ × List ℕ) → Scene
scene_by drives packets = record { drives = drives; packets = packets }

-- ---- packets that are put come behind those that were there

prefix_put : (packets : List Packet) (p : Packet) (b : Bool) → IsPrefixOf packets (cond b (packets ++ p ∷ []) packets)
prefix_put packets p true = (p ∷ [], refl)
prefix_put packets p false = ([], sym (append-nil packets))

pub puts_behind : (terms : Terms) (more packets : List Packet) → IsPrefixOf packets (puts terms packets more)
puts_behind terms [] packets = ([], sym (append-nil packets))
puts_behind terms (p ∷ more) packets =
    prefix_then packets (cond (terms.takes (messages_in packets) p.message) (packets ++ p ∷ []) packets) _
    (prefix_put packets p (terms.takes (messages_in packets) p.message))
    (puts_behind terms more (cond (terms.takes (messages_in packets) p.message) (packets ++ p ∷ []) packets))

-- some first of them are put first
pub puts_in_part : (terms : Terms) (more packets : List Packet) (count : ℕ)
    → IsPrefixOf (puts terms packets (take count more)) (puts terms packets more)
puts_in_part terms more packets count =
    let behind = puts_behind terms (drop count more) (puts terms packets (take count more)) in (
      behind.0,
      ap (λ (ps : List Packet). puts terms packets ps) (sym (take-append-drop count more))
          ∙ puts-append terms packets (take count more) (drop count more) ∙ behind.1,
    )

-- ---- each packet is read as it was said

all_put : (packets : List Packet) (p : Packet) (b : Bool) → AllByRecursion IsReadRight packets → IsReadRight p
    → AllByRecursion IsReadRight (cond b (packets ++ p ∷ []) packets)
all_put packets p true all h = all_push IsReadRight packets p all h
all_put packets p false all h = all

all_puts : (terms : Terms) (more packets : List Packet) → AllByRecursion IsReadRight packets
    → AllByRecursion IsReadRight more → AllByRecursion IsReadRight (puts terms packets more)
all_puts terms [] packets all new = all
all_puts terms (p ∷ more) packets all new =
    all_puts terms more (cond (terms.takes (messages_in packets) p.message) (packets ++ p ∷ []) packets)
    (all_put packets p (terms.takes (messages_in packets) p.message) all new.0) new.1

read_one : (from : Station) (m : Message) (to : Option Station) → IsReadMessage m
    → AllByRecursion IsReadRight (packet_to from m to)
read_one from m None h = tt
read_one from m (Some to) h = (h, tt)

read_each : (from : Station) (to : Message → Option Station) (ms : List Message) → AllByRecursion IsReadMessage ms
    → AllByRecursion IsReadRight (flat_map (λ (m : Message). packet_to from m (to m)) ms)
read_each from to [] all = tt
read_each from to (m ∷ ms) all =
    all_append IsReadRight (packet_to from m (to m)) (flat_map (λ (n : Message). packet_to from n (to n)) ms)
    (read_one from m (to m) all.0) (read_each from to ms all.1)

-- all that leaves a node with this is read
pub record IsReadAll (made : Acted) : Type 0 where
  pub fetched : AllByRecursion IsReadMessage made.fetched
  pub said : AllByRecursion IsReadMessage made.said

read_packets : (from : Station) (back : Option Station) (made : Acted) → IsReadAll made
    → AllByRecursion IsReadRight (packets_of from back made)
read_packets from back made all =
    all_append IsReadRight (flat_map (λ (m : Message). packet_to from m back) made.fetched)
    (flat_map (λ (m : Message). packet_to from m (goes_to back m.addressing.to (place_of m.addressing.to))) made.said)
    (read_each from (λ (m : Message). back) made.fetched all.fetched)
    (read_each from (λ (m : Message). goes_to back m.addressing.to (place_of m.addressing.to)) made.said all.said)

-- ---- what leaves a node is put on the wire

-- the wire of a scene
abbrev net_at : Scene → List Station → Net
net_at scene senders = net scene.packets senders

shown : (w : World) (scene : Scene) (nodes : Nodes3) (senders : List Station) → Shows w scene nodes senders
    → net_at scene senders ≡ wired w.packets
shown w scene nodes senders shows =
    ap (λ (ps : List (ℕ × List ℕ)). net ps senders) shows.wire
    ∙ ap (λ (ss : List Station). net (wired w.packets).packets ss) shows.sent

-- as packets of the world
put_whole : (terms : Terms) → AreOfNet terms → (packets : List Packet) (at : Station) (back : Option Station)
    (made : Acted) (outs : List Out) (first new : Net) → first ≡ wired packets
    → outs ≡ map back_packet made.fetched ++ map packet_of made.said
    → new ≡ with_all first at (map (going_of back) outs)
    → new ≡ wired (puts terms packets (packets_of at back made))
put_whole terms of packets at back made outs first new was are put =
    put ∙ ap (λ (n : Net). with_all n at (map (going_of back) outs)) was
    ∙ ap (λ (these : List Out). with_all (wired packets) at (map (going_of back) these)) are
    ∙ ap (λ (goings : List Going). with_all (wired packets) at goings) (legs-goings back made)
    ∙ all-put terms of at (legs_of back made) packets
    ∙ ap (λ (ps : List Packet). wired (puts terms packets ps)) (legs-packets at back made)

-- or some first of them
put_part : (terms : Terms) → AreOfNet terms → (packets : List Packet) (at : Station) (back : Option Station)
    (made : Acted) (outs : List Out) (first new : Net) → first ≡ wired packets
    → outs ≡ map back_packet made.fetched ++ map packet_of made.said
    → IsPutInPart first at (map (going_of back) outs) new
    → (count : ℕ) × (new ≡ wired (puts terms packets (take count (packets_of at back made))))
put_part terms of packets at back made outs first new was are (count, put) =
    let part = part-put terms of at (legs_of back made) packets count in (
      part.0,
      put ∙ ap (λ (n : Net). with_all n at (take count (map (going_of back) outs))) was
          ∙ ap (λ (these : List Out). with_all (wired packets) at (take count (map (going_of back) these))) are
          ∙ ap (λ (goings : List Going). with_all (wired packets) at (take count goings)) (legs-goings back made)
          ∙ part.1
          ∙ ap (λ (ps : List Packet). wired (puts terms packets (take part.0 ps))) (legs-packets at back made),
    )

-- a world with these packets
shows_with : (terms : Terms) (v : World) (before more : List Packet) (scene : Scene) (nodes : Nodes3)
    (senders : List Station) → StandFor v scene.drives nodes → AllByRecursion IsReadRight before
    → AllByRecursion IsReadRight more → net_at scene senders ≡ wired (puts terms before more)
    → Shows (record v { packets = puts terms before more }) scene nodes senders
shows_with terms v before more scene nodes senders stand read new is = record {
  stand = record { one = stand.one; two = stand.two; three = stand.three };
  wire = ap (λ (n : Net). n.packets) is;
  sent = ap (λ (n : Net). n.senders) is;
  read = all_puts terms more before read new;
}

-- all of them were put
pub moves_whole : (terms : Terms) → AreOfNet terms → (w : World) (at : Station) (back : Option Station) (step : Step)
    (old new : Scene) (before nodes : Nodes3) (senders after : List Station) (came : Came) (outcome : Outcome)
    → Shows w old before senders → SteppedAt w at step new.drives nodes came → IsReadAll step.acted
    → outcome ≡ came.outcome
    → net new.packets after ≡ with_all (net old.packets senders) at (goings_of back came)
    → Moves terms w at back step new nodes after (Ok (came_out outcome))
moves_whole terms of w at back step old new before nodes senders after came outcome shows stepped read told put = (
  ap came_out (told ∙ stepped.outcome),
  shows_with terms (with_node w at step.acted.node) w.packets (packets_of at back step.acted) new nodes after
      stepped.stand shows.read
      (read_packets at back step.acted read)
      (put_whole terms of w.packets at back step.acted (packets_in came) (net old.packets senders)
      (net new.packets after) (shown w old before senders shows) stepped.outs put),
)

-- memory was wanting for some last of them
pub moves_part : (terms : Terms) → AreOfNet terms → (w : World) (at : Station) (back : Option Station) (step : Step)
    (old new : Scene) (before nodes : Nodes3) (senders after : List Station) (came : Came) (memory : Memory)
    → Shows w old before senders → SteppedAt w at step new.drives nodes came → IsReadAll step.acted
    → IsPutInPart (net old.packets senders) at (goings_of back came) (net new.packets after)
    → Moves terms w at back step new nodes after (Err memory)
moves_part terms of w at back step old new before nodes senders after came memory shows stepped read part =
    let put = put_part terms of w.packets at back step.acted (packets_in came) (net old.packets senders)
    (net new.packets after) (shown w old before senders shows) stepped.outs part in
    inr (
      put.0,
      shows_with terms (with_node w at step.acted.node) w.packets (take put.0 (packets_of at back step.acted)) new
          nodes after stepped.stand shows.read
          (all_take IsReadRight (packets_of at back step.acted) put.0 (read_packets at back step.acted read)) put.1,
    )

-- the scene as it was but for the drives, where nothing was done
pub shows_still : (w : World) (old new : Scene) (before nodes : Nodes3) (senders : List Station)
    → Shows w old before senders → StandFor w new.drives nodes → new.packets ≡ old.packets
    → Shows w new nodes senders
shows_still w old new before nodes senders shows stand same = record {
  stand = stand;
  wire = same ∙ shows.wire;
  sent = shows.sent;
  read = shows.read;
}
