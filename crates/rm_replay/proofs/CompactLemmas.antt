-- One node of two writes its journal anew.
use Rattle.std.proofs.Common.{◌≡◌, ◌&&◌, false, Some, ap, refl, subst, sym, inl}
use Rattle.std.specs.Prelude.{Result, Ok, Err}
use Rattle.rm_base.specs.declared.failures.Memory.{Memory}
use Rattle.rm_disk.specs.Told.{Told}
use Rattle.rm_protocol.specs.Compact.{compacted as compacted_node}
use Rattle.rm_protocol.specs.Sent.{same_side}
use Rattle.rm_protocol.specs.Terms.{Terms}
use Rattle.rm_protocol.specs.World.{Compact, One, Two, World, node}
use Rattle.rm_script.specs.declared.report.line.Outcome.{Outcome}
use Rattle.rm_script.specs.declared.event.Event.TheVariants as said
use Rattle.rm_script.specs.declared.event.Side.{Side as Place}
use Rattle.rm_script.specs.declared.event.Side.TheVariants as place
use Rattle.rm_replay.specs.Actor.Actored.{Actored}
use Rattle.rm_replay.specs.Actor.Outcomes.{ends_by_disk, is_disk_outcome}
use Rattle.rm_replay.specs.Actor.Rewrites.{IsRewrite, Rewrites}
use Rattle.rm_replay.specs.Actor.Stands.{Stands}
use Rattle.rm_replay.specs.Asked.{WasAsked, WereAsked}
use Rattle.rm_replay.specs.Happening.{Compacts, Happens, told_of}
use Rattle.rm_replay.specs.Meaning.{side_of}
use Rattle.rm_replay.specs.Shows.{Drives, Scene, Shows}
use Rattle.rm_replay.specs.declared.stage.Nodes.{Nodes}
use Rattle.rm_replay.proofs.AskLemmas.{drive}
use Rattle.rm_replay.proofs.EventLemmas.{EachIsLeft, holds_of, shows_node, tells_of}
use Rattle.rm_replay.proofs.StepLemmas.{shows_still}
use Rattle.rm_replay.specs.TaleLemmas.{grew_asked, tells_asked}

-- ---- at a side

by_one : (terms : Terms) (w : World) (d : Drives) (nodes : Nodes) (result : Result Outcome Memory)
    → Rewrites terms w.one d.one.disk nodes.one result → Stands w.two d.two.disk nodes.two
    → Compacts terms w One d nodes result
by_one terms w d nodes (Ok outcome) did there = (did.came_out, record { one = did.stands; two = there })
by_one terms w d nodes (Err memory) did there = record { one = did; two = there }

by_two : (terms : Terms) (w : World) (d : Drives) (nodes : Nodes) (result : Result Outcome Memory)
    → Rewrites terms w.two d.two.disk nodes.two result → Stands w.one d.one.disk nodes.one
    → Compacts terms w Two d nodes result
by_two terms w d nodes (Ok outcome) did there = (did.came_out, record { one = there; two = did.stands })
by_two terms w d nodes (Err memory) did there = record { one = there; two = did }

pub compacts_at_one : (terms : Terms) (w : World) (d : Drives) (nodes : Nodes) (at : Place)
    (result : Result Outcome Memory) → at ≡ place.One → Rewrites terms w.one d.one.disk nodes.one result
    → Stands w.two d.two.disk nodes.two → Compacts terms w (side_of at) d nodes result
compacts_at_one terms w d nodes at result is did there =
    subst (λ (p : Place). Compacts terms w (side_of p) d nodes result) (sym is)
    (by_one terms w d nodes result did there)

pub compacts_at_two : (terms : Terms) (w : World) (d : Drives) (nodes : Nodes) (at : Place)
    (result : Result Outcome Memory) → at ≡ place.Two → Rewrites terms w.two d.two.disk nodes.two result
    → Stands w.one d.one.disk nodes.one → Compacts terms w (side_of at) d nodes result
compacts_at_two terms w d nodes at result is did there =
    subst (λ (p : Place). Compacts terms w (side_of p) d nodes result) (sym is)
    (by_two terms w d nodes result did there)

-- nothing crashed
pub was_compacted : (first now : Told) (old new : Actored) (result : Result Outcome Memory)
    → IsRewrite first now old new result → WasAsked (ends_by_disk result) (drive first) (drive now)
was_compacted first now old new result did = record { crashes = did.crashes; cause = did.cause }

-- ---- the line

pub happens_compact : EachIsLeft → (terms : Terms) (w : World) (at : Place) (old new : Scene) (before nodes : Nodes)
    (result : Result Outcome Memory) → Shows w old before → new.packets ≡ old.packets
    → Compacts terms w (side_of at) new.drives nodes result
    → WereAsked (side_of at) (ends_by_disk result) old.drives new.drives
    → Happens terms w (said.Compact at) old new nodes (told_of result)
happens_compact each terms w at old new before nodes (Ok outcome) shows same did asked =
    let side = side_of at in
    record {
      event = Some (Compact side);
      means = refl;
      comes = ap (λ (o : Outcome). Some o) did.0;
      shows = shows_node w side (compacted_node terms (node w side)) old new before nodes shows did.1 same;
      one = tells_of One (Some side) side _ outcome _ old.drives.one new.drives.one refl refl (sym did.0)
          (tells_asked old.drives.one new.drives.one (same_side side One && is_disk_outcome outcome) asked.one);
      two = tells_of Two (Some side) side _ outcome _ old.drives.two new.drives.two refl refl (sym did.0)
          (tells_asked old.drives.two new.drives.two (same_side side Two && is_disk_outcome outcome) asked.two);
    }
happens_compact each terms w at old new before nodes (Err memory) shows same did asked =
    let line = said.Compact at in
    record {
      left = inl (holds_of each w new nodes (shows_still w old new before nodes shows did same));
      one = grew_asked One line old.drives.one new.drives.one (same_side (side_of at) One && false) asked.one;
      two = grew_asked Two line old.drives.two new.drives.two (same_side (side_of at) Two && false) asked.two;
    }
