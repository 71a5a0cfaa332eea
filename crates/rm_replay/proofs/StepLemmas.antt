-- A step of one node in a world of two.
use Rattle.std.proofs.Common.{◌≡◌, ◌∙◌, ℕ, zero, suc, Bool, false, List, ◌∷◌, map, take, refl, sym, ap, subst, inr, []}
use Rattle.std.specs.Prelude.{IfOk, OnErr, OnOk, Result, Ok, Err}
use Rattle.std.specs.List.{AllByRecursion}
use Rattle.rm_base.specs.declared.failures.Memory.{Memory}
use Rattle.rm_message.specs.declared.message.Message.{Message}
use Rattle.rm_node.specs.Packets.{packet_of}
use Rattle.rm_node.specs.declared.packets.Out.{Out}
use Rattle.rm_protocol.specs.Node.{Node}
use Rattle.rm_protocol.specs.Terms.{Terms}
use Rattle.rm_protocol.specs.World.{Side, One, Two, World, hands_out, other, with_node}
use Rattle.rm_script.specs.declared.report.line.Outcome.{Outcome}
use Rattle.rm_replay.specs.Actor.Outcomes.{is_disk_outcome, packets_in}
use Rattle.rm_replay.specs.Actor.Stands.{Stands}
use Rattle.rm_replay.specs.declared.actor.actor.Came.{Came}
use Rattle.rm_replay.specs.AllLemmas.{all_take}
use Rattle.rm_replay.specs.Asked.{Step, SteppedAt, Steps, StepsAt, WasAsked, WereAsked, bytes_of}
use Rattle.rm_replay.specs.Meaning.{side_of}
use Rattle.rm_replay.specs.Tales.{Drive}
use Rattle.rm_script.specs.declared.event.Side.{Side as Place}
use Rattle.rm_script.specs.declared.event.Side.TheVariants as place
use Rattle.rm_replay.specs.Happening.{IsPutInPart, Moves, WereAskedFor, moved, moved_in_part, with_all}
use Rattle.rm_replay.specs.Net.{AreOfNet, number_of, text_of, wire_packets}
use Rattle.rm_replay.specs.Shows.{Drives, IsReadRight, Scene, Shows, StandFor, address_one, address_two}
use Rattle.rm_replay.specs.declared.stage.Nodes.{Nodes}
use Rattle.rm_replay.proofs.PutLemmas.{all_puts, bytes_said, put_same, puts_are}
use Rattle.rm_replay.specs.ReadLemmas.{IsReadMessage}
use Rattle.rm_replay.specs.TaleLemmas.{asked_none}

-- ---- at a side

steps_one : (w : World) (step : Step) (d : Drives) (nodes : Nodes) (result : Result Came Memory)
    → Steps w.one step d.one.disk nodes.one result → Stands w.two d.two.disk nodes.two
    → StepsAt w One step d nodes result
steps_one w step d nodes (Ok came) h there =
    record { stand = record { one = h.stands; two = there }; outcome = h.outcome; outs = h.outs }
steps_one w step d nodes (Err memory) h there = record { one = h; two = there }

steps_two : (w : World) (step : Step) (d : Drives) (nodes : Nodes) (result : Result Came Memory)
    → Steps w.two step d.two.disk nodes.two result → Stands w.one d.one.disk nodes.one
    → StepsAt w Two step d nodes result
steps_two w step d nodes (Ok came) h there =
    record { stand = record { one = there; two = h.stands }; outcome = h.outcome; outs = h.outs }
steps_two w step d nodes (Err memory) h there = record { one = there; two = h }

pub steps_at_one : (w : World) (step : Side → Step) (d : Drives) (nodes : Nodes) (at : Place)
    (result : Result Came Memory) → at ≡ place.One → Steps w.one (step One) d.one.disk nodes.one result
    → Stands w.two d.two.disk nodes.two → StepsAt w (side_of at) (step (side_of at)) d nodes result
steps_at_one w step d nodes at result is h there =
    subst (λ (p : Place). StepsAt w (side_of p) (step (side_of p)) d nodes result) (sym is)
    (steps_one w (step One) d nodes result h there)

pub steps_at_two : (w : World) (step : Side → Step) (d : Drives) (nodes : Nodes) (at : Place)
    (result : Result Came Memory) → at ≡ place.Two → Steps w.two (step Two) d.two.disk nodes.two result
    → Stands w.one d.one.disk nodes.one → StepsAt w (side_of at) (step (side_of at)) d nodes result
steps_at_two w step d nodes at result is h there =
    subst (λ (p : Place). StepsAt w (side_of p) (step (side_of p)) d nodes result) (sym is)
    (steps_two w (step Two) d nodes result h there)

pub asked_at_one : (at : Place) (failed : Bool) (old new : Drives) → at ≡ place.One
    → WasAsked failed old.one new.one → new.two ≡ old.two → WereAsked (side_of at) failed old new
asked_at_one at failed old new is asked same =
    subst (λ (p : Place). WereAsked (side_of p) failed old new) (sym is)
    (record { one = asked; two = subst (λ (d : Drive). WasAsked false old.two d) (sym same) (asked_none old.two) })

pub asked_at_two : (at : Place) (failed : Bool) (old new : Drives) → at ≡ place.Two
    → WasAsked failed old.two new.two → new.one ≡ old.one → WereAsked (side_of at) failed old new
asked_at_two at failed old new is asked same =
    subst (λ (p : Place). WereAsked (side_of p) failed old new) (sym is)
    (record { one = subst (λ (d : Drive). WasAsked false old.one d) (sym same) (asked_none old.one); two = asked })

-- of both disks and the packets of the wire
abbrev pub scene_by : Drives → List (ℕ × List ℕ) → Scene
scene_by drives packets = record { drives = drives; packets = packets }

-- ---- what it says is put on the wire

shows_puts : (terms : Terms) → AreOfNet terms → (v : World) (side : Side) (ms : List Message)
    (old : List (ℕ × List ℕ)) (scene : Scene) (nodes : Nodes) → StandFor v scene.drives nodes
    → v.at_one ≡ address_one → v.at_two ≡ address_two → old ≡ wire_packets v.packets
    → AllByRecursion IsReadRight v.packets
    → scene.packets ≡ with_all old (number_of (other side)) (map packet_of ms) → AllByRecursion IsReadMessage ms
    → Shows (hands_out terms v side ms) scene nodes
shows_puts terms net v side ms old scene nodes stand at_one at_two wire read put said = record {
  stand = record { one = stand.one; two = stand.two };
  at_one = at_one;
  at_two = at_two;
  wire = put
      ∙ ap (λ (packets : List (ℕ × List ℕ)). with_all packets (number_of (other side)) (map packet_of ms)) wire
      ∙ puts_are terms net side ms v.packets;
  read = all_puts terms side ms v.packets read said;
}

pub moved_shows : (terms : Terms) → AreOfNet terms → (w : World) (side : Side) (x : Node) (ms : List Message)
    (old scene : Scene) (before nodes : Nodes) → Shows w old before
    → StandFor (with_node w side x) scene.drives nodes
    → scene.packets ≡ with_all old.packets (number_of (other side)) (map packet_of ms)
    → AllByRecursion IsReadMessage ms → Shows (hands_out terms (with_node w side x) side ms) scene nodes
moved_shows terms net w One x ms old scene before nodes shows stand put said =
    shows_puts terms net (with_node w One x) One ms old.packets scene nodes stand shows.at_one shows.at_two shows.wire
    shows.read put said
moved_shows terms net w Two x ms old scene before nodes shows stand put said =
    shows_puts terms net (with_node w Two x) Two ms old.packets scene nodes stand shows.at_one shows.at_two shows.wire
    shows.read put said

map_take : {A B : Type 0} (f : A → B) (xs : List A) (count : ℕ) → take count (map f xs) ≡ map f (take count xs)
map_take f [] zero = refl
map_take f [] (suc count) = refl
map_take f (x ∷ xs) zero = refl
map_take f (x ∷ xs) (suc count) = ap (λ rest. f x ∷ rest) (map_take f xs count)

-- all of what it says
pub moved_whole : (terms : Terms) → AreOfNet terms → (w : World) (side : Side) (step : Step)
    (old scene : Scene) (before nodes : Nodes) (outs : List Out) → Shows w old before
    → StandFor (with_node w side step.node) scene.drives nodes → bytes_of outs ≡ map text_of step.said
    → scene.packets ≡ with_all old.packets (number_of (other side)) outs → AllByRecursion IsReadMessage step.said
    → Shows (moved terms w side step) scene nodes
moved_whole terms net w side step old scene before nodes outs shows stand is put said =
    moved_shows terms net w side step.node step.said old scene before nodes shows stand
    (put ∙ put_same old.packets (number_of (other side)) outs (map packet_of step.said)
    (is ∙ sym (bytes_said step.said))) said

-- the bytes of some first packets
part_said : (outs : List Out) (ms : List Message) (count : ℕ) → bytes_of outs ≡ map text_of ms
    → bytes_of (take count outs) ≡ bytes_of (map packet_of (take count ms))
part_said outs ms count is =
    sym (map_take (λ (out : Out). out.bytes) outs count) ∙ ap (λ (texts : List (List ℕ)). take count texts) is
    ∙ map_take text_of ms count ∙ sym (bytes_said (take count ms))

-- some first of it
pub moved_part : (terms : Terms) → AreOfNet terms → (w : World) (side : Side) (step : Step) (count : ℕ)
    (old scene : Scene) (before nodes : Nodes) (outs : List Out) → Shows w old before
    → StandFor (with_node w side step.node) scene.drives nodes → bytes_of outs ≡ map text_of step.said
    → scene.packets ≡ with_all old.packets (number_of (other side)) (take count outs)
    → AllByRecursion IsReadMessage step.said → Shows (moved_in_part terms w side step count) scene nodes
moved_part terms net w side step count old scene before nodes outs shows stand is put said =
    moved_shows terms net w side step.node (take count step.said) old scene before nodes shows stand
    (put ∙ put_same old.packets (number_of (other side)) (take count outs) (map packet_of (take count step.said))
    (part_said outs step.said count is))
    (all_take IsReadMessage step.said count said)

-- the scene as it was but for the drives, where nothing was said
pub shows_still : (w : World) (old scene : Scene) (before nodes : Nodes) → Shows w old before
    → StandFor w scene.drives nodes → scene.packets ≡ old.packets → Shows w scene nodes
shows_still w old scene before nodes shows stand same = record {
  stand = stand;
  at_one = shows.at_one;
  at_two = shows.at_two;
  wire = same ∙ shows.wire;
  read = shows.read;
}

-- ---- a call and its packets

pub call_moves : (terms : Terms) → AreOfNet terms → (w : World) (side : Side) (step : Step) (old scene : Scene)
    (before nodes : Nodes) (to : ℕ) (came : Came) (result : Result Outcome Memory) → Shows w old before
    → SteppedAt w side step scene.drives nodes came → to ≡ number_of (other side)
    → OnOk result (scene.packets ≡ with_all old.packets to (packets_in came))
    → IfOk result (λ (outcome : Outcome). outcome ≡ came.outcome)
    → OnErr result (IsPutInPart old.packets to (packets_in came) scene.packets)
    → AllByRecursion IsReadMessage step.said → Moves terms w side step scene nodes result
call_moves terms net w side step old scene before nodes to came (Ok outcome) shows stepped is put told err said = (
  told ∙ stepped.outcome,
  moved_whole terms net w side step old scene before nodes (packets_in came) shows stepped.stand stepped.outs
      (put ∙ ap (λ (n : ℕ). with_all old.packets n (packets_in came)) is) said,
)
call_moves terms net w side step old scene before nodes to came (Err memory) shows stepped is ok told err said =
    inr (
      err.0,
      moved_part terms net w side step err.0 old scene before nodes (packets_in came) shows stepped.stand stepped.outs
          (err.1 ∙ ap (λ (n : ℕ). with_all old.packets n (take err.0 (packets_in came))) is) said,
    )

pub asked_for : (side : Side) (came : Came) (result : Result Outcome Memory) (old new : Drives)
    → WereAsked side (is_disk_outcome came.outcome) old new
    → IfOk result (λ (outcome : Outcome). outcome ≡ came.outcome) → WereAskedFor side result old new
asked_for side came (Ok outcome) old new asked told =
    subst (λ (o : Outcome). WereAsked side (is_disk_outcome o) old new) (sym told) asked
asked_for side came (Err memory) old new asked told = (is_disk_outcome came.outcome, asked)
