-- What a line does is what its event does in the protocol.
use Rattle.std.proofs.Common.{◌≡◌, ◌∙◌, ◌&&◌, ℕ, cond, Bool, false, List, Option, Some, take, refl, []}
use Rattle.std.proofs.Common.{sym, ap, subst, inl, inr}
use Rattle.std.specs.Prelude.{◌⊎◌, Result, Ok, Err}
use Rattle.record_batch.specs.Fact.{Fact}
use Rattle.rm_base.specs.declared.failures.Memory.{Memory}
use Rattle.rm_base.specs.declared.message.Behaviour.{Behaviour}
use Rattle.rm_protocol.specs.Node.{Node, armed as armed_by, mounted}
use Rattle.rm_protocol.specs.Sent.{Called, outcome_of, same_side}
use Rattle.rm_protocol.specs.Terms.{Terms}
use Rattle.rm_protocol.specs.Word.{IsPrefixOf}
use Rattle.rm_protocol.specs.World.{Side, One, Two, World, Event, Grant, Arm, Crash, happens, node, sent, with_node}
use Rattle.rm_script.specs.declared.report.line.Outcome.{Outcome}
use Rattle.rm_script.specs.declared.report.line.Outcome.TheVariants as told
use Rattle.rm_script.specs.declared.event.Event.{Event as Said}
use Rattle.rm_script.specs.declared.event.Event.TheVariants as said
use Rattle.rm_script.specs.declared.event.Side.{Side as Place}
use Rattle.rm_replay.specs.Actor.Actored.{Actored}
use Rattle.rm_replay.specs.Actor.Outcomes.{is_disk_outcome}
use Rattle.rm_replay.specs.Actor.Stands.{Leaves, Stands}
use Rattle.rm_disk.specs.Told.{Told}
use Rattle.rm_replay.specs.Asked.{Step, WereAsked}
use Rattle.rm_replay.specs.Happening.{CrashedAt, Happened, Happens, Moves, WereAskedFor, armed}
use Rattle.rm_replay.specs.Happening.{granted, moved, moved_in_part, told_of}
use Rattle.rm_replay.specs.Meaning.{Means, outcome_told, side_of}
use Rattle.rm_replay.specs.Shows.{Drives, Holds, IsCut, IsCutIn, IsLeftOfLine, Scene, Shows, StandFor}
use Rattle.rm_replay.specs.Tales.{Drive, Tale, Tells, crash_in, crash_of, fault_at, node_of}
use Rattle.rm_replay.specs.declared.stage.Nodes.{Nodes}
use Rattle.rm_replay.proofs.PutLemmas.{puts_behind, puts_in_part}
use Rattle.rm_replay.specs.TaleLemmas.{asked_still, grew_asked, grew_none, tells_asked}

-- each image of a node's disk is left by it
abbrev pub EachIsLeft : Type 0
EachIsLeft = (x : Node) (now : Told) (a : Actored) → Stands x now a → Leaves x now.past

pub holds_of : EachIsLeft → (w : World) (scene : Scene) (nodes : Nodes) → Shows w scene nodes → Holds w scene
holds_of each w scene nodes shows = record {
  one = each w.one scene.drives.one.disk nodes.one shows.stand.one;
  two = each w.two scene.drives.two.disk nodes.two shows.stand.two;
  wire = shows.wire;
}

-- ---- lines that call a node

-- the line means an event that is a step of one node
pub record IsCall (terms : Terms) (w : World) (line : Said) (event : Event) (side : Side) (step : Step) : Type 0 where
  pub means : Means line (Some event)
  pub quiet : (at : Side) (entries : List (List Fact)) → crash_in at line entries ≡ []
  pub at : node_of w event ≡ Some side
  pub moves : happens terms w event ≡ moved terms w side step
  pub outcome : outcome_of terms w event ≡ Called step.outcome

-- a tale of these
abbrev tale : List (ℕ × List (List Fact)) → ℕ → Tale
tale crashes faults = record { crashes = crashes; faults = faults }

pub tells_of : (at : Side) (of : Option Side) (side : Side) (came outcome : Outcome)
    (crashes : List (ℕ × List (List Fact))) (old new : Drive) → crashes ≡ [] → of ≡ Some side → came ≡ outcome
    → Tells (tale [] (cond (same_side side at && is_disk_outcome outcome) 1 0)) old new
    → Tells (tale crashes (fault_at at of came)) old new
tells_of at of side came outcome crashes old new none is same tells =
    subst (λ (c : List (ℕ × List (List Fact))). Tells (tale c (fault_at at of came)) old new) (sym none)
    (subst (λ (n : Option Side). Tells (tale [] (fault_at at n came)) old new) (sym is)
    (subst (λ (o : Outcome). Tells (tale [] (fault_at at (Some side) o)) old new) (sym same) tells))

cut_before : (terms : Terms) (w : World) (side : Side) (step : Step) (count : ℕ)
    → IsPrefixOf w.packets (moved_in_part terms w side step count).packets
cut_before terms w One step count = puts_behind terms (sent One (take count step.said)) w.packets
cut_before terms w Two step count = puts_behind terms (sent Two (take count step.said)) w.packets

cut_some : (terms : Terms) (w : World) (side : Side) (step : Step) (count : ℕ)
    → IsPrefixOf (moved_in_part terms w side step count).packets (moved terms w side step).packets
cut_some terms w One step count = puts_in_part terms One step.said count w.packets
cut_some terms w Two step count = puts_in_part terms Two step.said count w.packets

cut_in : (terms : Terms) (w : World) (line : Said) (event : Event) (side : Side) (step : Step) (count : ℕ)
    → IsCall terms w line event side step → IsCutIn terms w event (moved_in_part terms w side step count)
cut_in terms w line event side step count is = record {
  one = ap (λ (u : World). u.one) (sym is.moves);
  two = ap (λ (u : World). u.two) (sym is.moves);
  before = cut_before terms w side step count;
  some = subst (λ (u : World). IsPrefixOf (moved_in_part terms w side step count).packets u.packets) (sym is.moves)
      (cut_some terms w side step count);
}

left_of : EachIsLeft → (terms : Terms) (w : World) (line : Said) (event : Event) (side : Side) (step : Step)
    (scene : Scene) (nodes : Nodes) → IsCall terms w line event side step
    → Shows w scene nodes ⊎ ((count : ℕ) × Shows (moved_in_part terms w side step count) scene nodes)
    → IsLeftOfLine terms w line scene
left_of each terms w line event side step scene nodes is (inl shows) = inl (holds_of each w scene nodes shows)
left_of each terms w line event side step scene nodes is (inr (count, shows)) =
    let v = moved_in_part terms w side step count in
    inr (event, is.means, v, cut_in terms w line event side step count is, holds_of each v scene nodes shows)

pub happens_call : EachIsLeft → (terms : Terms) (w : World) (line : Said) (event : Event) (side : Side) (step : Step)
    (old new : Scene) (nodes : Nodes) (result : Result Outcome Memory) → IsCall terms w line event side step
    → Moves terms w side step new nodes result → WereAskedFor side result old.drives new.drives
    → Happens terms w line old new nodes (told_of result)
happens_call each terms w line event side step old new nodes (Ok outcome) is moves asked =
    let same : outcome_told (outcome_of terms w event) ≡ outcome = ap outcome_told is.outcome ∙ sym moves.0 in
    record {
      event = Some event;
      means = is.means;
      comes = ap (λ (o : Outcome). Some o) (sym same);
      shows = subst (λ (u : World). Shows u new nodes) (sym is.moves) moves.1;
      one = tells_of One (node_of w event) side _ outcome _ old.drives.one new.drives.one (is.quiet One _) is.at same
          (tells_asked old.drives.one new.drives.one (same_side side One && is_disk_outcome outcome) asked.one);
      two = tells_of Two (node_of w event) side _ outcome _ old.drives.two new.drives.two (is.quiet Two _) is.at same
          (tells_asked old.drives.two new.drives.two (same_side side Two && is_disk_outcome outcome) asked.two);
    }
happens_call each terms w line event side step old new nodes (Err memory) is moves (failed, asked) = record {
  left = left_of each terms w line event side step new nodes is moves;
  one = grew_asked One line old.drives.one new.drives.one (same_side side One && failed) asked.one;
  two = grew_asked Two line old.drives.two new.drives.two (same_side side Two && failed) asked.two;
}

-- a line that is this one
pub happens_line : (terms : Terms) (w : World) (old new : Scene) (nodes : Nodes) (line this : Said)
    (came : Result Outcome Memory) (result : Result (Option Outcome) Memory) → line ≡ this → result ≡ told_of came
    → Happens terms w this old new nodes (told_of came) → Happens terms w line old new nodes result
happens_line terms w old new nodes line this came result is same happens =
    subst (λ (l : Said). Happens terms w l old new nodes result) (sym is)
    (subst (λ (r : Result (Option Outcome) Memory). Happens terms w this old new nodes r) (sym same) happens)

-- ---- lines that nothing comes of

-- memory was wanting before anything was done
pub cut_none : EachIsLeft → (terms : Terms) (w : World) (line : Said) (scene : Scene) (nodes : Nodes)
    → Shows w scene nodes → IsCut terms w line scene scene
cut_none each terms w line scene nodes shows = record {
  left = inl (holds_of each w scene nodes shows);
  one = grew_none One line scene.drives.one;
  two = grew_none Two line scene.drives.two;
}

-- ---- lines that change one node

pub shows_node : (w : World) (side : Side) (x : Node) (old new : Scene) (before nodes : Nodes) → Shows w old before
    → StandFor (with_node w side x) new.drives nodes → new.packets ≡ old.packets → Shows (with_node w side x) new nodes
shows_node w One x old new before nodes shows stand same = record {
  stand = stand;
  at_one = shows.at_one;
  at_two = shows.at_two;
  wire = same ∙ shows.wire;
  read = shows.read;
}
shows_node w Two x old new before nodes shows stand same = record {
  stand = stand;
  at_one = shows.at_one;
  at_two = shows.at_two;
  wire = same ∙ shows.wire;
  read = shows.read;
}

-- a node is changed without a call
record IsChange (terms : Terms) (w : World) (line : Said) (event : Event) (side : Side) (x : Node) : Type 0 where
  pub means : Means line (Some event)
  pub quiet : (at : Side) (entries : List (List Fact)) → crash_in at line entries ≡ []
  pub at : node_of w event ≡ Some side
  pub outcome : outcome_told (outcome_of terms w event) ≡ told.Done
  pub changes : happens terms w event ≡ with_node w side x

happens_change : (terms : Terms) (w : World) (line : Said) (event : Event) (side : Side) (x : Node) (old new : Scene)
    (before nodes : Nodes) → IsChange terms w line event side x → Shows w old before
    → StandFor (with_node w side x) new.drives nodes → new.packets ≡ old.packets
    → WereAsked side false old.drives new.drives → Happened terms w line old new nodes (Some told.Done)
happens_change terms w line event side x old new before nodes is shows stand same asked = record {
  event = Some event;
  means = is.means;
  comes = ap (λ (o : Outcome). Some o) (sym is.outcome);
  shows = subst (λ (u : World). Shows u new nodes) (sym is.changes)
      (shows_node w side x old new before nodes shows stand same);
  one = tells_of One (node_of w event) side _ told.Done _ old.drives.one new.drives.one (is.quiet One _) is.at
      is.outcome (tells_asked old.drives.one new.drives.one (same_side side One && false) asked.one);
  two = tells_of Two (node_of w event) side _ told.Done _ old.drives.two new.drives.two (is.quiet Two _) is.at
      is.outcome (tells_asked old.drives.two new.drives.two (same_side side Two && false) asked.two);
}

pub happens_grant : (terms : Terms) (w : World) (at : Place) (behaviour : Behaviour) (scene : Scene)
    (before nodes : Nodes) → Shows w scene before → StandFor (granted w (side_of at) behaviour) scene.drives nodes
    → Happened terms w (said.Grant at behaviour) scene scene nodes (Some told.Done)
happens_grant terms w at behaviour scene before nodes shows stand =
    happens_change terms w (said.Grant at behaviour) (Grant (side_of at) behaviour) (side_of at)
    (record (node w (side_of at)) { granted = behaviour }) scene scene before nodes
    (record {
      means = refl;
      quiet = λ side entries. refl;
      at = refl;
      outcome = refl;
      changes = refl;
    }) shows stand refl (record {
      one = asked_still (same_side (side_of at) One) scene.drives.one;
      two = asked_still (same_side (side_of at) Two) scene.drives.two;
    })

pub happens_arm : (terms : Terms) (w : World) (at : Place) (calls : ℕ) (old new : Scene) (before nodes : Nodes)
    → Shows w old before → StandFor (armed w (side_of at) calls) new.drives nodes → new.packets ≡ old.packets
    → WereAsked (side_of at) false old.drives new.drives
    → Happened terms w (said.Arm at calls) old new nodes (Some told.Done)
happens_arm terms w at calls old new before nodes shows stand same asked =
    happens_change terms w (said.Arm at calls) (Arm (side_of at) calls) (side_of at)
    (record (node w (side_of at)) { fuse = armed_by calls (node w (side_of at)).fuse }) old new before nodes
    (record {
      means = refl;
      quiet = λ side entries. refl;
      at = refl;
      outcome = refl;
      changes = refl;
    }) shows stand same asked

-- ---- a crash

tale_crash : (terms : Terms) (w : World) (at : Side) (choice : ℕ) (kept : Bool) (old new : Drives)
    → Tells (tale (crash_of One at choice (mounted w.one kept).entries) 0) old.one new.one
    → Tells (tale (crash_of One at choice (node (happens terms w (Crash at kept)) One).entries)
    (fault_at One (Some at) told.Done)) old.one new.one
tale_crash terms w One choice kept old new tells = tells
tale_crash terms w Two choice kept old new tells = tells

tale_crash_two : (terms : Terms) (w : World) (at : Side) (choice : ℕ) (kept : Bool) (old new : Drives)
    → Tells (tale (crash_of Two at choice (mounted w.two kept).entries) 0) old.two new.two
    → Tells (tale (crash_of Two at choice (node (happens terms w (Crash at kept)) Two).entries)
    (fault_at Two (Some at) told.Done)) old.two new.two
tale_crash_two terms w One choice kept old new tells = tells
tale_crash_two terms w Two choice kept old new tells = tells

pub happens_crash : (terms : Terms) (w : World) (at : Place) (choice : ℕ) (old new : Scene) (before nodes : Nodes)
    → Shows w old before → new.packets ≡ old.packets
    → CrashedAt w (side_of at) choice old.drives new.drives nodes
    → Happened terms w (said.Crash at choice) old new nodes (Some told.Done)
happens_crash terms w at choice old new before nodes shows same crashed = record {
  event = Some (Crash (side_of at) crashed.kept);
  means = (crashed.kept, refl);
  comes = refl;
  shows = shows_node w (side_of at) (mounted (node w (side_of at)) crashed.kept) old new before nodes shows
      crashed.stand same;
  one = tale_crash terms w (side_of at) choice crashed.kept old.drives new.drives crashed.one;
  two = tale_crash_two terms w (side_of at) choice crashed.kept old.drives new.drives crashed.two;
}
