-- One of three nodes is asked for something, writes its journal anew, or crashes.
use Rattle.std.proofs.Common.{◌≡◌, ℕ, Bool, false, List, [], ◌∷◌, ◌++◌, refl, sym, subst, inl, inr}
use Rattle.std.specs.Prelude.{◌⊎◌, OnErr, OnOk, Result, Ok, Err}
use Rattle.rm_base.specs.Count.{RoseBy}
use Rattle.rm_base.specs.declared.failures.Memory.{Memory}
use Rattle.rm_disk.specs.Call.{crashes_of}
use Rattle.rm_disk.specs.Told.{Told}
use Rattle.rm_script.specs.declared.report.line.Outcome.{Outcome}
use Rattle.rm_protocol.specs.Node.{Node, mounted}
use Rattle.rm_protocol.specs.Terms.{Terms}
use Rattle.rm_node.specs.Asked.{Asked}
use Rattle.rm_node.specs.declared.call.Call.{Call}
use Rattle.rm_replay.specs.Actor.Actored.{Actored}
use Rattle.rm_replay.specs.Actor.Outcomes.{ends_by_disk, is_disk}
use Rattle.rm_replay.specs.Actor.Rewrites.{IsRewrite, Rewrites}
use Rattle.rm_replay.specs.Actor.Stands.{Crashed, Leaves, Stands}
use Rattle.rm_replay.specs.Actor.Steps.{Plays, Steps as CallSteps}
use Rattle.rm_replay.specs.declared.actor.actor.Came.{Came}
use Rattle.rm_replay.specs.Asked.{WasAsked}
use Rattle.rm_replay.specs.TaleLemmas.{asked_none, rose_by_none, tells_none}
use Rattle.rm_replay.specs.Tales.{Drive, Tells}
use Rattle.rm_relay.specs.Word.World.{World, node}
use Rattle.rm_relay.specs.declared.word.station.Station.{Station}
use Rattle.rm_relay.specs.declared.word.station.Station.TheVariants.{One, Two, Three}
use Rattle.rm_relay.specs.Happening.{CompactsAt, CrashesAt, StepsAt, WereAsked, WereAskedBy, step_of}
use Rattle.rm_relay.specs.Played.{Grew}
use Rattle.rm_relay.specs.Shows.{Drives}
use Rattle.rm_relay.specs.declared.event.Event.TheVariants as said
use Rattle.rm_relay.specs.declared.stage.Nodes3.{Nodes3}

-- ---- a disk that stays

abbrev pub drive : Told → Drive
drive d = record { disk = d; failed = d.faults }

asked_same : (old new : Drive) → new ≡ old → WasAsked false old new
asked_same old new same = subst (λ (d : Drive). WasAsked false old d) (sym same) (asked_none old)

-- nothing crashed
pub was_asked : (first now : Told) (old new : Actored) (this : Call) (result : Result Came Memory)
    → CallSteps first now old new this result → WasAsked (is_disk result) (drive first) (drive now)
was_asked first now old new this result steps = record { crashes = steps.crashes; cause = steps.cause }

-- ---- it is asked

pub steps_one : (terms : Terms) (w : World) (asked : Asked) (this : Call) (d : Drives) (nodes : Nodes3)
    (result : Result Came Memory) → Plays terms this w.one asked d.one.disk nodes.one result
    → Stands w.two d.two.disk nodes.two → Stands w.three d.three.disk nodes.three
    → StepsAt w One (step_of terms w.one asked this) d nodes result
steps_one terms w asked this d nodes (Ok came) h two three = record {
  stand = record { one = h.stands; two = two; three = three };
  outcome = h.outcome;
  outs = h.outs;
}
steps_one terms w asked this d nodes (Err memory) h two three = record { one = h; two = two; three = three }

pub steps_two : (terms : Terms) (w : World) (asked : Asked) (this : Call) (d : Drives) (nodes : Nodes3)
    (result : Result Came Memory) → Plays terms this w.two asked d.two.disk nodes.two result
    → Stands w.one d.one.disk nodes.one → Stands w.three d.three.disk nodes.three
    → StepsAt w Two (step_of terms w.two asked this) d nodes result
steps_two terms w asked this d nodes (Ok came) h one three = record {
  stand = record { one = one; two = h.stands; three = three };
  outcome = h.outcome;
  outs = h.outs;
}
steps_two terms w asked this d nodes (Err memory) h one three = record { one = one; two = h; three = three }

pub steps_three : (terms : Terms) (w : World) (asked : Asked) (this : Call) (d : Drives) (nodes : Nodes3)
    (result : Result Came Memory) → Plays terms this w.three asked d.three.disk nodes.three result
    → Stands w.one d.one.disk nodes.one → Stands w.two d.two.disk nodes.two
    → StepsAt w Three (step_of terms w.three asked this) d nodes result
steps_three terms w asked this d nodes (Ok came) h one two = record {
  stand = record { one = one; two = two; three = h.stands };
  outcome = h.outcome;
  outs = h.outs;
}
steps_three terms w asked this d nodes (Err memory) h one two = record { one = one; two = two; three = h }

-- at the station that it is
pub steps_at : (terms : Terms) (w : World) (asked : Asked) (this : Call) (d : Drives) (nodes : Nodes3)
    (result : Result Came Memory) (at is : Station) → at ≡ is
    → StepsAt w is (step_of terms (node w is) asked this) d nodes result
    → StepsAt w at (step_of terms (node w at) asked this) d nodes result
steps_at terms w asked this d nodes result at is e h =
    subst (λ (s : Station). StepsAt w s (step_of terms (node w s) asked this) d nodes result) (sym e) h

pub asked_one : (at : Station) (failed : Bool) (old new : Drives) → at ≡ One → WasAsked failed old.one new.one
    → new.two ≡ old.two → new.three ≡ old.three → WereAsked at failed old new
asked_one at failed old new e asked two three =
    subst (λ (s : Station). WereAsked s failed old new) (sym e) (record {
      one = asked;
      two = asked_same old.two new.two two;
      three = asked_same old.three new.three three;
    })

pub asked_two : (at : Station) (failed : Bool) (old new : Drives) → at ≡ Two → WasAsked failed old.two new.two
    → new.one ≡ old.one → new.three ≡ old.three → WereAsked at failed old new
asked_two at failed old new e asked one three =
    subst (λ (s : Station). WereAsked s failed old new) (sym e) (record {
      one = asked_same old.one new.one one;
      two = asked;
      three = asked_same old.three new.three three;
    })

pub asked_three : (at : Station) (failed : Bool) (old new : Drives) → at ≡ Three
    → WasAsked failed old.three new.three → new.one ≡ old.one → new.two ≡ old.two → WereAsked at failed old new
asked_three at failed old new e asked one two =
    subst (λ (s : Station). WereAsked s failed old new) (sym e) (record {
      one = asked_same old.one new.one one;
      two = asked_same old.two new.two two;
      three = asked;
    })

-- ---- it writes its journal anew

pub was_compacted : (first now : Told) (old new : Actored) (result : Result Outcome Memory)
    → IsRewrite first now old new result → WasAsked (ends_by_disk result) (drive first) (drive now)
was_compacted first now old new result did = record { crashes = did.crashes; cause = did.cause }

pub compacts_one : (terms : Terms) (w : World) (d : Drives) (nodes : Nodes3) (result : Result Outcome Memory)
    → Rewrites terms w.one d.one.disk nodes.one result → Stands w.two d.two.disk nodes.two
    → Stands w.three d.three.disk nodes.three → CompactsAt terms w One d nodes result
compacts_one terms w d nodes (Ok outcome) did two three =
    (did.came_out, record { one = did.stands; two = two; three = three })
compacts_one terms w d nodes (Err memory) did two three = record { one = did; two = two; three = three }

pub compacts_two : (terms : Terms) (w : World) (d : Drives) (nodes : Nodes3) (result : Result Outcome Memory)
    → Rewrites terms w.two d.two.disk nodes.two result → Stands w.one d.one.disk nodes.one
    → Stands w.three d.three.disk nodes.three → CompactsAt terms w Two d nodes result
compacts_two terms w d nodes (Ok outcome) did one three =
    (did.came_out, record { one = one; two = did.stands; three = three })
compacts_two terms w d nodes (Err memory) did one three = record { one = one; two = did; three = three }

pub compacts_three : (terms : Terms) (w : World) (d : Drives) (nodes : Nodes3) (result : Result Outcome Memory)
    → Rewrites terms w.three d.three.disk nodes.three result → Stands w.one d.one.disk nodes.one
    → Stands w.two d.two.disk nodes.two → CompactsAt terms w Three d nodes result
compacts_three terms w d nodes (Ok outcome) did one two =
    (did.came_out, record { one = one; two = two; three = did.stands })
compacts_three terms w d nodes (Err memory) did one two = record { one = one; two = two; three = did }

pub compacts_at : (terms : Terms) (w : World) (d : Drives) (nodes : Nodes3) (result : Result Outcome Memory)
    (at is : Station) → at ≡ is → CompactsAt terms w is d nodes result → CompactsAt terms w at d nodes result
compacts_at terms w d nodes result at is e h =
    subst (λ (s : Station). CompactsAt terms w s d nodes result) (sym e) h

-- the disk there was used
pub asked_by : (at : Station) (result : Result Outcome Memory) (old new : Drives)
    → WereAsked at (ends_by_disk result) old new → WereAskedBy at result old new
asked_by at (Ok outcome) old new h = h
asked_by at (Err memory) old new h = h

-- ---- it crashes

-- what a crash tells of its node
tells_crash : (x : Node) (choice : ℕ) (old new : Drive) (a : Actored) (crashed : Crashed x choice old.disk new.disk a)
    → new.failed ≡ old.failed
    → Tells (record { crashes = (choice, (mounted x crashed.kept).entries) ∷ []; faults = 0 }) old new
tells_crash x choice old new a crashed same = record {
  pairs = (choice, crashed.bytes) ∷ [];
  crashes = crashed.crashes;
  left = (refl, record { bank = crashed.left.bank; stands = crashed.left.stands }, tt);
  faults = subst (λ (n : ℕ). RoseBy old.failed n 0) (sym same) (tells_none old).faults;
}

tells_same : (old new : Drive) → new ≡ old → Tells (record { crashes = []; faults = 0 }) old new
tells_same old new same =
    subst (λ (d : Drive). Tells (record { crashes = []; faults = 0 }) old d) (sym same) (tells_none old)

-- there may be one crash more
abbrev pub OneMore : ℕ → Drive → Drive → Type 0
OneMore choice old new =
    (crashes_of new.disk.past ≡ crashes_of old.disk.past)
    ⊎ ((bytes : List ℕ) × (crashes_of new.disk.past ≡ crashes_of old.disk.past ++ (choice, bytes) ∷ []))

grew_at : (at : Station) (choice : ℕ) (old new : Drive) → OneMore choice old new → new.failed ≡ old.failed
    → Grew at (said.Crash at choice) old new
grew_at at choice old new (inl same) failed = record {
  crashes = inl same;
  faults = subst (λ (n : ℕ). RoseBy old.failed n 0) (sym failed) (tells_none old).faults;
}
grew_at at choice old new (inr (bytes, one)) failed = record {
  crashes = inr (refl, (bytes, one));
  faults = subst (λ (n : ℕ). RoseBy old.failed n 0) (sym failed) (tells_none old).faults;
}

grew_same : (of at : Station) (choice : ℕ) (old new : Drive) → new ≡ old → Grew of (said.Crash at choice) old new
grew_same of at choice old new same =
    subst (λ (d : Drive). Grew of (said.Crash at choice) old d) (sym same)
    (record { crashes = inl refl; faults = rose_by_none old.failed })

pub crash_one : (w : World) (choice : ℕ) (old new : Drives) (nodes : Nodes3) (result : Result Unit Memory)
    → OnOk result (Crashed w.one choice old.one.disk new.one.disk nodes.one)
    → OnErr result (Leaves w.one new.one.disk.past) → OnErr result (OneMore choice old.one new.one)
    → new.one.failed ≡ old.one.failed → Stands w.two new.two.disk nodes.two → Leaves w.two new.two.disk.past
    → new.two ≡ old.two → Stands w.three new.three.disk nodes.three → Leaves w.three new.three.disk.past
    → new.three ≡ old.three → CrashesAt w One choice old new nodes result
crash_one w choice old new nodes (Ok done) ok err more failed twos twol twoe threes threel threee = record {
  kept = ok.kept;
  stand = record { one = ok.stands; two = twos; three = threes };
  one = tells_crash w.one choice old.one new.one nodes.one ok failed;
  two = tells_same old.two new.two twoe;
  three = tells_same old.three new.three threee;
}
crash_one w choice old new nodes (Err memory) ok err more failed twos twol twoe threes threel threee = record {
  one = err;
  two = twol;
  three = threel;
  grew_one = grew_at One choice old.one new.one more failed;
  grew_two = grew_same Two One choice old.two new.two twoe;
  grew_three = grew_same Three One choice old.three new.three threee;
}

pub crash_two : (w : World) (choice : ℕ) (old new : Drives) (nodes : Nodes3) (result : Result Unit Memory)
    → OnOk result (Crashed w.two choice old.two.disk new.two.disk nodes.two)
    → OnErr result (Leaves w.two new.two.disk.past) → OnErr result (OneMore choice old.two new.two)
    → new.two.failed ≡ old.two.failed → Stands w.one new.one.disk nodes.one → Leaves w.one new.one.disk.past
    → new.one ≡ old.one → Stands w.three new.three.disk nodes.three → Leaves w.three new.three.disk.past
    → new.three ≡ old.three → CrashesAt w Two choice old new nodes result
crash_two w choice old new nodes (Ok done) ok err more failed ones onel onee threes threel threee = record {
  kept = ok.kept;
  stand = record { one = ones; two = ok.stands; three = threes };
  one = tells_same old.one new.one onee;
  two = tells_crash w.two choice old.two new.two nodes.two ok failed;
  three = tells_same old.three new.three threee;
}
crash_two w choice old new nodes (Err memory) ok err more failed ones onel onee threes threel threee = record {
  one = onel;
  two = err;
  three = threel;
  grew_one = grew_same One Two choice old.one new.one onee;
  grew_two = grew_at Two choice old.two new.two more failed;
  grew_three = grew_same Three Two choice old.three new.three threee;
}

pub crash_three : (w : World) (choice : ℕ) (old new : Drives) (nodes : Nodes3) (result : Result Unit Memory)
    → OnOk result (Crashed w.three choice old.three.disk new.three.disk nodes.three)
    → OnErr result (Leaves w.three new.three.disk.past) → OnErr result (OneMore choice old.three new.three)
    → new.three.failed ≡ old.three.failed → Stands w.one new.one.disk nodes.one → Leaves w.one new.one.disk.past
    → new.one ≡ old.one → Stands w.two new.two.disk nodes.two → Leaves w.two new.two.disk.past
    → new.two ≡ old.two → CrashesAt w Three choice old new nodes result
crash_three w choice old new nodes (Ok done) ok err more failed ones onel onee twos twol twoe = record {
  kept = ok.kept;
  stand = record { one = ones; two = twos; three = ok.stands };
  one = tells_same old.one new.one onee;
  two = tells_same old.two new.two twoe;
  three = tells_crash w.three choice old.three new.three nodes.three ok failed;
}
crash_three w choice old new nodes (Err memory) ok err more failed ones onel onee twos twol twoe = record {
  one = onel;
  two = twol;
  three = err;
  grew_one = grew_same One Three choice old.one new.one onee;
  grew_two = grew_same Two Three choice old.two new.two twoe;
  grew_three = grew_at Three choice old.three new.three more failed;
}

pub crashes_at : (w : World) (choice : ℕ) (old new : Drives) (nodes : Nodes3) (result : Result Unit Memory)
    (at is : Station) → at ≡ is → CrashesAt w is choice old new nodes result
    → CrashesAt w at choice old new nodes result
crashes_at w choice old new nodes result at is e h =
    subst (λ (s : Station). CrashesAt w s choice old new nodes result) (sym e) h
