-- A crash of one node in a world of two.
use Rattle.std.proofs.Common.{◌≡◌, ℕ, List, ◌∷◌, ◌++◌, refl, sym, subst, inl, inr, []}
use Rattle.std.specs.Prelude.{◌⊎◌, OnErr, OnOk, Result, Ok, Err}
use Rattle.rm_base.specs.Count.{RoseBy}
use Rattle.rm_base.specs.declared.failures.Memory.{Memory}
use Rattle.rm_disk.specs.Call.{crashes_of}
use Rattle.rm_protocol.specs.Node.{Node, mounted}
use Rattle.rm_protocol.specs.World.{One, Two, World}
use Rattle.rm_script.specs.declared.event.Event.TheVariants as said
use Rattle.rm_script.specs.declared.event.Side.{Side as Place}
use Rattle.rm_script.specs.declared.event.Side.TheVariants as place
use Rattle.rm_replay.specs.Actor.Actored.{Actored}
use Rattle.rm_replay.specs.Actor.Stands.{Crashed, Leaves, Stands}
use Rattle.rm_replay.specs.Happening.{Crashes}
use Rattle.rm_replay.specs.Meaning.{side_of}
use Rattle.rm_replay.specs.Shows.{Drives}
use Rattle.rm_replay.specs.Tales.{Drive, Grew, Tells}
use Rattle.rm_replay.specs.declared.stage.Nodes.{Nodes}
use Rattle.rm_replay.specs.ImageLemmas.{stands_for}
use Rattle.rm_replay.specs.TaleLemmas.{grew_none, tells_none}

-- what a crash tells of its node
tells_crash : (x : Node) (choice : ℕ) (old new : Drive) (a : Actored) (crashed : Crashed x choice old.disk new.disk a)
    → new.failed ≡ old.failed
    → Tells (record { crashes = (choice, (mounted x crashed.kept).entries) ∷ []; faults = 0 }) old new
tells_crash x choice old new a crashed same = record {
  pairs = (choice, crashed.bytes) ∷ [];
  crashes = crashed.crashes;
  left = (
    refl,
    stands_for (mounted x crashed.kept).start (mounted x crashed.kept).entries crashed.bytes crashed.left,
    tt,
  );
  faults = subst (λ (n : ℕ). RoseBy old.failed n 0) (sym same) (tells_none old).faults;
}

-- there may be one crash more
abbrev pub OneMore : ℕ → Drive → Drive → Type 0
OneMore choice old new =
    (crashes_of new.disk.past ≡ crashes_of old.disk.past)
    ⊎ ((bytes : List ℕ) × (crashes_of new.disk.past ≡ crashes_of old.disk.past ++ (choice, bytes) ∷ []))

grew_at : (at : Place) (choice : ℕ) (old new : Drive) → OneMore choice old new → new.failed ≡ old.failed
    → Grew (side_of at) (said.Crash at choice) old new
grew_at at choice old new (inl same) failed = record {
  crashes = inl same;
  faults = subst (λ (n : ℕ). RoseBy old.failed n 0) (sym failed) (tells_none old).faults;
}
grew_at at choice old new (inr (bytes, one)) failed = record {
  crashes = inr (refl, (bytes, one));
  faults = subst (λ (n : ℕ). RoseBy old.failed n 0) (sym failed) (tells_none old).faults;
}

by_one : (w : World) (choice : ℕ) (old new : Drives) (nodes : Nodes) (result : Result Unit Memory)
    → OnOk result (Crashed w.one choice old.one.disk new.one.disk nodes.one)
    → OnErr result (Leaves w.one new.one.disk.past) → OnErr result (OneMore choice old.one new.one)
    → new.one.failed ≡ old.one.failed → Stands w.two new.two.disk nodes.two → Leaves w.two new.two.disk.past
    → new.two ≡ old.two → Crashes w place.One choice old new nodes result
by_one w choice old new nodes (Ok done) ok err more failed stands leaves same = record {
  kept = ok.kept;
  stand = record { one = ok.stands; two = stands };
  one = tells_crash w.one choice old.one new.one nodes.one ok failed;
  two = subst (λ (d : Drive). Tells (record { crashes = []; faults = 0 }) old.two d) (sym same) (tells_none old.two);
}
by_one w choice old new nodes (Err memory) ok err more failed stands leaves same = record {
  one = err;
  two = leaves;
  grew_one = grew_at place.One choice old.one new.one more failed;
  grew_two = subst (λ (d : Drive). Grew Two (said.Crash place.One choice) old.two d) (sym same)
      (grew_none Two (said.Crash place.One choice) old.two);
}

by_two : (w : World) (choice : ℕ) (old new : Drives) (nodes : Nodes) (result : Result Unit Memory)
    → OnOk result (Crashed w.two choice old.two.disk new.two.disk nodes.two)
    → OnErr result (Leaves w.two new.two.disk.past) → OnErr result (OneMore choice old.two new.two)
    → new.two.failed ≡ old.two.failed → Stands w.one new.one.disk nodes.one → Leaves w.one new.one.disk.past
    → new.one ≡ old.one → Crashes w place.Two choice old new nodes result
by_two w choice old new nodes (Ok done) ok err more failed stands leaves same = record {
  kept = ok.kept;
  stand = record { one = stands; two = ok.stands };
  one = subst (λ (d : Drive). Tells (record { crashes = []; faults = 0 }) old.one d) (sym same) (tells_none old.one);
  two = tells_crash w.two choice old.two new.two nodes.two ok failed;
}
by_two w choice old new nodes (Err memory) ok err more failed stands leaves same = record {
  one = leaves;
  two = err;
  grew_one = subst (λ (d : Drive). Grew One (said.Crash place.Two choice) old.one d) (sym same)
      (grew_none One (said.Crash place.Two choice) old.one);
  grew_two = grew_at place.Two choice old.two new.two more failed;
}

pub crash_at_one : (w : World) (at : Place) (choice : ℕ) (old new : Drives) (nodes : Nodes)
    (result : Result Unit Memory) → at ≡ place.One
    → OnOk result (Crashed w.one choice old.one.disk new.one.disk nodes.one)
    → OnErr result (Leaves w.one new.one.disk.past) → OnErr result (OneMore choice old.one new.one)
    → new.one.failed ≡ old.one.failed → Stands w.two new.two.disk nodes.two → Leaves w.two new.two.disk.past
    → new.two ≡ old.two → Crashes w at choice old new nodes result
crash_at_one w at choice old new nodes result is ok err more failed stands leaves same =
    subst (λ (p : Place). Crashes w p choice old new nodes result) (sym is)
    (by_one w choice old new nodes result ok err more failed stands leaves same)

pub crash_at_two : (w : World) (at : Place) (choice : ℕ) (old new : Drives) (nodes : Nodes)
    (result : Result Unit Memory) → at ≡ place.Two
    → OnOk result (Crashed w.two choice old.two.disk new.two.disk nodes.two)
    → OnErr result (Leaves w.two new.two.disk.past) → OnErr result (OneMore choice old.two new.two)
    → new.two.failed ≡ old.two.failed → Stands w.one new.one.disk nodes.one → Leaves w.one new.one.disk.past
    → new.one ≡ old.one → Crashes w at choice old new nodes result
crash_at_two w at choice old new nodes result is ok err more failed stands leaves same =
    subst (λ (p : Place). Crashes w p choice old new nodes result) (sym is)
    (by_two w choice old new nodes result ok err more failed stands leaves same)
