-- What a line does is what its event does to three nodes of the protocol.
use Rattle.std.proofs.Common.{◌≡◌, ◌∙◌, ◌&&◌, ℕ, Bool, false, List, [], Option, Some, None, take, refl, sym, ap}
use Rattle.std.proofs.Common.{subst, inl, inr}
use Rattle.std.specs.Prelude.{◌⊎◌, Result, Ok, Err}
use Rattle.record_batch.specs.Fact.{Fact}
use Rattle.rm_base.specs.declared.failures.Memory.{Memory}
use Rattle.rm_script.specs.declared.report.line.Outcome.{Outcome}
use Rattle.rm_script.specs.declared.report.line.Outcome.TheVariants as told
use Rattle.rm_protocol.specs.Compact.{compacted as compacted_node}
use Rattle.rm_protocol.specs.Node.{Node, armed as armed_by, mounted}
use Rattle.rm_protocol.specs.Terms.{Terms}
use Rattle.rm_protocol.specs.Word.{IsPrefixOf}
use Rattle.rm_replay.specs.Actor.Outcomes.{call_told, is_disk_outcome}
use Rattle.rm_replay.specs.Tales.{Tells}
use Rattle.rm_disk.specs.Told.{Told}
use Rattle.rm_replay.specs.Actor.Actored.{Actored}
use Rattle.rm_replay.specs.Actor.Stands.{Leaves, Stands}
use Rattle.rm_replay.specs.TaleLemmas.{tells_asked, tells_none}
use Rattle.rm_relay.specs.Word.World.{Event, World, happens, node, packets_of, with_node}
use Rattle.rm_relay.specs.Word.World.{Arm, Compact, Crash}
use Rattle.rm_relay.specs.declared.word.station.Station.{Station}
use Rattle.rm_relay.specs.declared.word.station.Station.TheVariants.{One, Two, Three}
use Rattle.rm_relay.specs.Happening.{CompactsAt, CrashedAt, CrashedShort, Happened, Happens, Moves, Step, WereAsked}
use Rattle.rm_relay.specs.Happening.{WereAskedBy, WereAskedFor, armed, compacted, moved, moved_in_part, told_of}
use Rattle.rm_relay.specs.Meaning.{Means, ending_of}
use Rattle.rm_relay.specs.Played.{IsCut, crash_in, ends_by_disk, fault_at, node_of, same_station}
use Rattle.rm_relay.specs.Shows.{Drives, Holds, IsCutIn, IsLeftOfLine, Scene, Shows, StandFor}
use Rattle.rm_relay.specs.declared.event.Event.{Event as Said}
use Rattle.rm_relay.specs.declared.event.Event.TheVariants as said
use Rattle.rm_relay.specs.declared.report.Ending.{Ending}
use Rattle.rm_relay.specs.declared.report.Ending.TheVariants.{Idle, Came as came_out}
use Rattle.rm_relay.specs.declared.stage.Nodes3.{Nodes3}
use Rattle.rm_relay.proofs.MoveLemmas.{puts_behind, puts_in_part, shows_still}
use Rattle.rm_relay.proofs.TaleLemmas.{grew_asked, grew_none, tale, tells_of, tells_well}

-- each image of a node's disk is left by it
abbrev pub EachIsLeft : Type 0
EachIsLeft = (x : Node) (now : Told) (a : Actored) → Stands x now a → Leaves x now.past

pub holds_of : EachIsLeft → (w : World) (scene : Scene) (nodes : Nodes3) (senders : List Station)
    → Shows w scene nodes senders → Holds w scene
holds_of each w scene nodes senders shows = record {
  one = each w.one scene.drives.one.disk nodes.one shows.stand.one;
  two = each w.two scene.drives.two.disk nodes.two shows.stand.two;
  three = each w.three scene.drives.three.disk nodes.three shows.stand.three;
  wire = shows.wire;
}

-- ---- lines that call a node

-- the line means an event that is a step of one node
pub record IsCall (terms : Terms) (w : World) (line : Said) (event : Event) (at : Station) (back : Option Station)
    (step : Step) : Type 0 where
  pub means : Means line (Some event)
  pub quiet : (of : Station) (entries : List (List Fact)) → crash_in of line entries ≡ []
  pub at_ : node_of w event ≡ Some at
  pub moves : happens terms w event ≡ moved terms w at back step
  pub outcome : ending_of terms w event ≡ came_out (call_told step.outcome)

cut_in : (terms : Terms) (w : World) (line : Said) (event : Event) (at : Station) (back : Option Station) (step : Step)
    (count : ℕ) → IsCall terms w line event at back step
    → IsCutIn terms w event (moved_in_part terms w at back step count)
cut_in terms w line event at back step count is = record {
  one = ap (λ (u : World). u.one) (sym is.moves);
  two = ap (λ (u : World). u.two) (sym is.moves);
  three = ap (λ (u : World). u.three) (sym is.moves);
  before = puts_behind terms (take count (packets_of at back step.acted)) w.packets;
  some = subst (λ (u : World). IsPrefixOf (moved_in_part terms w at back step count).packets u.packets) (sym is.moves)
      (puts_in_part terms (packets_of at back step.acted) w.packets count);
}

left_of : EachIsLeft → (terms : Terms) (w : World) (line : Said) (event : Event) (at : Station) (back : Option Station)
    (step : Step) (scene : Scene) (nodes : Nodes3) (senders : List Station) → IsCall terms w line event at back step
    → Shows w scene nodes senders
    ⊎ ((count : ℕ) × Shows (moved_in_part terms w at back step count) scene nodes senders)
    → IsLeftOfLine terms w line scene
left_of each terms w line event at back step scene nodes senders is (inl shows) =
    inl (holds_of each w scene nodes senders shows)
left_of each terms w line event at back step scene nodes senders is (inr (count, shows)) =
    let v = moved_in_part terms w at back step count in
    inr (
      event,
      is.means,
      v,
      cut_in terms w line event at back step count is,
      holds_of each v scene nodes senders shows,
    )

pub happens_call : EachIsLeft → (terms : Terms) (w : World) (line : Said) (event : Event) (at : Station)
    (back : Option Station) (step : Step) (old new : Scene) (nodes : Nodes3) (senders : List Station)
    (result : Result Ending Memory) → IsCall terms w line event at back step
    → Moves terms w at back step new nodes senders result → WereAskedFor at result old.drives new.drives
    → Happens terms w line old new nodes senders (told_of result)
happens_call each terms w line event at back step old new nodes senders (Ok (came_out outcome)) is moves asked =
    let same : ending_of terms w event ≡ came_out outcome = is.outcome ∙ sym moves.0 in
    let failed = is_disk_outcome outcome in
    record {
      event = Some event;
      means = is.means;
      comes = ap (λ (e : Ending). Some e) (sym same);
      shows = subst (λ (u : World). Shows u new nodes senders) (sym is.moves) moves.1;
      one = tells_of One (node_of w event) at _ (came_out outcome) _ old.drives.one new.drives.one (is.quiet One _)
          is.at_ same (tells_asked old.drives.one new.drives.one (same_station at One && failed) asked.one);
      two = tells_of Two (node_of w event) at _ (came_out outcome) _ old.drives.two new.drives.two (is.quiet Two _)
          is.at_ same (tells_asked old.drives.two new.drives.two (same_station at Two && failed) asked.two);
      three = tells_of Three (node_of w event) at _ (came_out outcome) _ old.drives.three new.drives.three
          (is.quiet Three _) is.at_ same
          (tells_asked old.drives.three new.drives.three (same_station at Three && failed) asked.three);
    }
happens_call each terms w line event at back step old new nodes senders (Ok Idle) is moves asked =
    let no : Idle ≡ came_out (call_told step.outcome) = moves.0 in absurd cc
happens_call each terms w line event at back step old new nodes senders (Err memory) is moves (failed, asked) = record {
  left = left_of each terms w line event at back step new nodes senders is moves;
  one = grew_asked One line old.drives.one new.drives.one (same_station at One && failed) asked.one;
  two = grew_asked Two line old.drives.two new.drives.two (same_station at Two && failed) asked.two;
  three = grew_asked Three line old.drives.three new.drives.three (same_station at Three && failed) asked.three;
}

-- a line that is this one
pub happens_line : (terms : Terms) (w : World) (old new : Scene) (nodes : Nodes3) (senders : List Station)
    (line this : Said) (came : Result Ending Memory) (result : Result (Option Ending) Memory) → line ≡ this
    → result ≡ told_of came → Happens terms w this old new nodes senders (told_of came)
    → Happens terms w line old new nodes senders result
happens_line terms w old new nodes senders line this came result is same happens =
    subst (λ (l : Said). Happens terms w l old new nodes senders result) (sym is)
    (subst (λ (r : Result (Option Ending) Memory). Happens terms w this old new nodes senders r) (sym same) happens)

-- ---- lines that nothing comes of

-- memory was wanting before anything was done
pub cut_none : EachIsLeft → (terms : Terms) (w : World) (line : Said) (scene : Scene) (nodes : Nodes3)
    (senders : List Station) → Shows w scene nodes senders → IsCut terms w line scene scene
cut_none each terms w line scene nodes senders shows = record {
  left = inl (holds_of each w scene nodes senders shows);
  one = grew_none One line scene.drives.one;
  two = grew_none Two line scene.drives.two;
  three = grew_none Three line scene.drives.three;
}

-- the line means an event that changes nothing, and comes out so
pub record IsStill (terms : Terms) (w : World) (line : Said) (event : Event) (ending : Ending) : Type 0 where
  pub means : Means line (Some event)
  pub quiet : (of : Station) (entries : List (List Fact)) → crash_in of line entries ≡ []
  pub stays : happens terms w event ≡ w
  pub comes : ending_of terms w event ≡ ending
  pub well : ends_by_disk ending ≡ false

pub happens_still : (terms : Terms) (w : World) (line : Said) (event : Event) (ending : Ending) (scene : Scene)
    (nodes : Nodes3) (senders : List Station) → IsStill terms w line event ending → Shows w scene nodes senders
    → Happened terms w line scene scene nodes senders (Some ending)
happens_still terms w line event ending scene nodes senders is shows =
    let well : ends_by_disk (ending_of terms w event) ≡ false = ap ends_by_disk is.comes ∙ is.well in
    record {
      event = Some event;
      means = is.means;
      comes = ap (λ (e : Ending). Some e) (sym is.comes);
      shows = subst (λ (u : World). Shows u scene nodes senders) (sym is.stays) shows;
      one = tells_well One (node_of w event) _ _ scene.drives.one scene.drives.one (is.quiet One _) well
          (tells_none scene.drives.one);
      two = tells_well Two (node_of w event) _ _ scene.drives.two scene.drives.two (is.quiet Two _) well
          (tells_none scene.drives.two);
      three = tells_well Three (node_of w event) _ _ scene.drives.three scene.drives.three (is.quiet Three _) well
          (tells_none scene.drives.three);
    }

-- ---- lines that change one node

shows_node : (w : World) (at : Station) (x : Node) (old new : Scene) (before nodes : Nodes3) (senders : List Station)
    → Shows w old before senders → StandFor (with_node w at x) new.drives nodes → new.packets ≡ old.packets
    → Shows (record (with_node w at x) { packets = w.packets }) new nodes senders
shows_node w at x old new before nodes senders shows stand same = record {
  stand = record { one = stand.one; two = stand.two; three = stand.three };
  wire = same ∙ shows.wire;
  sent = shows.sent;
  read = shows.read;
}

-- the disk of a node is armed
pub happens_arm : (terms : Terms) (w : World) (at : Station) (calls : ℕ) (old new : Scene) (before nodes : Nodes3)
    (senders : List Station) → Shows w old before senders → StandFor (armed w at calls) new.drives nodes
    → new.packets ≡ old.packets → WereAsked at false old.drives new.drives
    → Happened terms w (said.Arm at calls) old new nodes senders (Some (came_out told.Done))
happens_arm terms w at calls old new before nodes senders shows stand same asked = record {
  event = Some (Arm at calls);
  means = refl;
  comes = refl;
  shows = shows_node w at (record (node w at) { fuse = armed_by calls (node w at).fuse }) old new before nodes senders
      shows stand same;
  one = tells_asked old.drives.one new.drives.one (same_station at One && false) asked.one;
  two = tells_asked old.drives.two new.drives.two (same_station at Two && false) asked.two;
  three = tells_asked old.drives.three new.drives.three (same_station at Three && false) asked.three;
}

-- a node writes its journal anew
pub happens_compact : (terms : Terms) (w : World) (at : Station) (old new : Scene) (before nodes : Nodes3)
    (senders : List Station) (outcome : Outcome) → Shows w old before senders → new.packets ≡ old.packets
    → CompactsAt terms w at new.drives nodes (Ok outcome) → WereAskedBy at (Ok outcome) old.drives new.drives
    → Happened terms w (said.Compact at) old new nodes senders (Some (came_out outcome))
happens_compact terms w at old new before nodes senders outcome shows same did asked =
    let failed = is_disk_outcome outcome in
    let came : ending_of terms w (Compact at) ≡ came_out outcome = ap came_out (sym did.0) in
    record {
      event = Some (Compact at);
      means = refl;
      comes = ap (λ (e : Ending). Some e) (sym came);
      shows = shows_node w at (compacted_node terms (node w at)) old new before nodes senders shows did.1 same;
      one = tells_of One (Some at) at _ (came_out outcome) _ old.drives.one new.drives.one refl refl came
          (tells_asked old.drives.one new.drives.one (same_station at One && failed) asked.one);
      two = tells_of Two (Some at) at _ (came_out outcome) _ old.drives.two new.drives.two refl refl came
          (tells_asked old.drives.two new.drives.two (same_station at Two && failed) asked.two);
      three = tells_of Three (Some at) at _ (came_out outcome) _ old.drives.three new.drives.three refl refl came
          (tells_asked old.drives.three new.drives.three (same_station at Three && failed) asked.three);
    }

-- memory was wanting for it
pub cut_compact : EachIsLeft → (terms : Terms) (w : World) (at : Station) (old new : Scene) (before nodes : Nodes3)
    (senders : List Station) (memory : Memory) → Shows w old before senders → new.packets ≡ old.packets
    → CompactsAt terms w at new.drives nodes (Err memory) → WereAskedBy at (Err memory) old.drives new.drives
    → IsCut terms w (said.Compact at) old new
cut_compact each terms w at old new before nodes senders memory shows same did asked =
    let line = said.Compact at in
    record {
      left = inl (holds_of each w new nodes senders (shows_still w old new before nodes senders shows did same));
      one = grew_asked One line old.drives.one new.drives.one (same_station at One && false) asked.one;
      two = grew_asked Two line old.drives.two new.drives.two (same_station at Two && false) asked.two;
      three = grew_asked Three line old.drives.three new.drives.three (same_station at Three && false) asked.three;
    }

-- ---- a crash

-- what it tells of each node
tells_one : (terms : Terms) (w : World) (at : Station) (choice : ℕ) (kept : Bool) (old new : Drives)
    → Tells (tale (crash_in One (said.Crash at choice) (mounted w.one kept).entries) 0) old.one new.one
    → Tells (tale (crash_in One (said.Crash at choice) (node (happens terms w (Crash at kept)) One).entries)
    (fault_at One (Some at) (came_out told.Done))) old.one new.one
tells_one terms w One choice kept old new tells = tells
tells_one terms w Two choice kept old new tells = tells
tells_one terms w Three choice kept old new tells = tells

tells_two : (terms : Terms) (w : World) (at : Station) (choice : ℕ) (kept : Bool) (old new : Drives)
    → Tells (tale (crash_in Two (said.Crash at choice) (mounted w.two kept).entries) 0) old.two new.two
    → Tells (tale (crash_in Two (said.Crash at choice) (node (happens terms w (Crash at kept)) Two).entries)
    (fault_at Two (Some at) (came_out told.Done))) old.two new.two
tells_two terms w One choice kept old new tells = tells
tells_two terms w Two choice kept old new tells = tells
tells_two terms w Three choice kept old new tells = tells

tells_three : (terms : Terms) (w : World) (at : Station) (choice : ℕ) (kept : Bool) (old new : Drives)
    → Tells (tale (crash_in Three (said.Crash at choice) (mounted w.three kept).entries) 0) old.three new.three
    → Tells (tale (crash_in Three (said.Crash at choice) (node (happens terms w (Crash at kept)) Three).entries)
    (fault_at Three (Some at) (came_out told.Done))) old.three new.three
tells_three terms w One choice kept old new tells = tells
tells_three terms w Two choice kept old new tells = tells
tells_three terms w Three choice kept old new tells = tells

pub happens_crash : (terms : Terms) (w : World) (at : Station) (choice : ℕ) (old new : Scene) (before nodes : Nodes3)
    (senders : List Station) → Shows w old before senders → new.packets ≡ old.packets
    → CrashedAt w at choice old.drives new.drives nodes
    → Happened terms w (said.Crash at choice) old new nodes senders (Some (came_out told.Done))
happens_crash terms w at choice old new before nodes senders shows same crashed = record {
  event = Some (Crash at crashed.kept);
  means = (crashed.kept, refl);
  comes = refl;
  shows = shows_node w at (mounted (node w at) crashed.kept) old new before nodes senders shows crashed.stand same;
  one = tells_one terms w at choice crashed.kept old.drives new.drives crashed.one;
  two = tells_two terms w at choice crashed.kept old.drives new.drives crashed.two;
  three = tells_three terms w at choice crashed.kept old.drives new.drives crashed.three;
}

-- memory was wanting for it
pub cut_crash : (terms : Terms) (w : World) (at : Station) (choice : ℕ) (old new : Scene) (before : Nodes3)
    (senders : List Station) → Shows w old before senders → new.packets ≡ old.packets
    → CrashedShort w at choice old.drives new.drives → IsCut terms w (said.Crash at choice) old new
cut_crash terms w at choice old new before senders shows same crashed = record {
  left = inl (record {
    one = crashed.one;
    two = crashed.two;
    three = crashed.three;
    wire = same ∙ shows.wire;
  });
  one = crashed.grew_one;
  two = crashed.grew_two;
  three = crashed.grew_three;
}

-- ---- an empty line

pub happens_nothing : (terms : Terms) (w : World) (scene : Scene) (nodes : Nodes3) (senders : List Station)
    → Shows w scene nodes senders → Happened terms w said.Nothing scene scene nodes senders None
happens_nothing terms w scene nodes senders shows = record {
  event = None;
  means = refl;
  comes = refl;
  shows = shows;
  one = tells_none scene.drives.one;
  two = tells_none scene.drives.two;
  three = tells_none scene.drives.three;
}
