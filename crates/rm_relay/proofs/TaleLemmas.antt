-- What befalls the disks of three nodes, line by line.
use Rattle.std.proofs.Common.{◌≡◌, ◌&&◌, ℕ, cond, Bool, true, false, List, ◌∷◌, ◌++◌, [], Option, Some, None}
use Rattle.std.proofs.Common.{◌∙◌, refl, sym, subst, ap, inl, inr}
use Rattle.std.specs.Prelude.{◌⊎◌}
use Rattle.record_batch.specs.Fact.{Fact}
use Rattle.rm_disk.specs.Call.{crashes_of}
use Rattle.rm_replay.specs.Asked.{WasAsked}
use Rattle.rm_replay.specs.Tales.{AreLeftBy, Drive, Tale, Tells}
use Rattle.rm_replay.specs.TaleLemmas.{asked_none, none_more, one_more, risen, rose_some}
use Rattle.rm_relay.specs.declared.word.station.Station.{Station}
use Rattle.rm_relay.specs.declared.word.station.Station.TheVariants.{One, Two, Three}
use Rattle.rm_relay.specs.Played.{Grew, HasCrashed, crash_in, ends_by_disk, fault_at, same_station}
use Rattle.rm_relay.specs.declared.event.Event.{Event as Said}
use Rattle.rm_relay.specs.declared.event.Event.TheVariants as said
use Rattle.rm_relay.specs.declared.report.Ending.{Ending}

-- ---- where memory was wanting

pub grew_asked : (of : Station) (line : Said) (old new : Drive) (failed : Bool) → WasAsked failed old new
    → Grew of line old new
grew_asked of line old new failed asked = record {
  crashes = inl asked.crashes;
  faults = risen old.failed new.failed asked.cause.later;
}

pub grew_none : (of : Station) (line : Said) (d : Drive) → Grew of line d d
grew_none of line d = grew_asked of line d d false (asked_none d)

-- ---- a tale of one line

-- of these
abbrev pub tale : List (ℕ × List (List Fact)) → ℕ → Tale
tale crashes faults = record { crashes = crashes; faults = faults }

-- a line of one node, which came out so
pub tells_of : (of : Station) (o : Option Station) (at : Station) (came ending : Ending)
    (crashes : List (ℕ × List (List Fact))) (old new : Drive) → crashes ≡ [] → o ≡ Some at → came ≡ ending
    → Tells (tale [] (cond (same_station at of && ends_by_disk ending) 1 0)) old new
    → Tells (tale crashes (fault_at of o came)) old new
tells_of of o at came ending crashes old new none is same tells =
    subst (λ (c : List (ℕ × List (List Fact))). Tells (tale c (fault_at of o came)) old new) (sym none)
    (subst (λ (n : Option Station). Tells (tale [] (fault_at of n came)) old new) (sym is)
    (subst (λ (e : Ending). Tells (tale [] (fault_at of (Some at) e)) old new) (sym same) tells))

and_false : (b : Bool) → ◌≡◌ {A = ℕ} (cond (b && false) 1 0) 0
and_false true = refl
and_false false = refl

no_fault : (of : Station) (o : Option Station) (ending : Ending) → ends_by_disk ending ≡ false
    → fault_at of o ending ≡ 0
no_fault of None ending well = refl
no_fault of (Some at) ending well =
    ap (λ (b : Bool). cond (same_station at of && b) 1 0) well ∙ and_false (same_station at of)

-- one that came out so that no disk failed
pub tells_well : (of : Station) (o : Option Station) (came : Ending) (crashes : List (ℕ × List (List Fact)))
    (old new : Drive) → crashes ≡ [] → ends_by_disk came ≡ false → Tells (tale [] 0) old new
    → Tells (tale crashes (fault_at of o came)) old new
tells_well of o came crashes old new none well tells =
    subst (λ (c : List (ℕ × List (List Fact))). Tells (tale c (fault_at of o came)) old new) (sym none)
    (subst (λ (n : ℕ). Tells (tale [] n) old new) (sym (no_fault of o came well)) tells)

-- ---- a line that was played tells the crash that it makes

-- there is no crash more, or one of this node
abbrev OneMore : Station → Station → ℕ → List (ℕ × List ℕ) → List (ℕ × List ℕ) → Type 0
OneMore of at choice old all =
    (all ≡ old) ⊎ ((at ≡ of) × ((bytes : List ℕ) × (all ≡ old ++ (choice, bytes) ∷ [])))

one_of : (of at : Station) (choice : ℕ) (entries : List (List Fact)) (old all pairs : List (ℕ × List ℕ))
    → all ≡ old ++ pairs → AreLeftBy (crash_in of (said.Crash at choice) entries) pairs → OneMore of at choice old all
one_of One One choice entries old all pairs is left = inr (refl, one_more choice entries old all pairs is left)
one_of Two Two choice entries old all pairs is left = inr (refl, one_more choice entries old all pairs is left)
one_of Three Three choice entries old all pairs is left = inr (refl, one_more choice entries old all pairs is left)
one_of One Two choice entries old all pairs is left = inl (none_more old all pairs is left)
one_of One Three choice entries old all pairs is left = inl (none_more old all pairs is left)
one_of Two One choice entries old all pairs is left = inl (none_more old all pairs is left)
one_of Two Three choice entries old all pairs is left = inl (none_more old all pairs is left)
one_of Three One choice entries old all pairs is left = inl (none_more old all pairs is left)
one_of Three Two choice entries old all pairs is left = inl (none_more old all pairs is left)

crashes_told : (of : Station) (line : Said) (entries : List (List Fact)) (old new : Drive) (pairs : List (ℕ × List ℕ))
    → crashes_of new.disk.past ≡ crashes_of old.disk.past ++ pairs → AreLeftBy (crash_in of line entries) pairs
    → (crashes_of new.disk.past ≡ crashes_of old.disk.past) ⊎ HasCrashed of line old new
crashes_told of said.Nothing entries old new pairs is left = inl (none_more _ _ pairs is left)
crashes_told of (said.Create at) entries old new pairs is left = inl (none_more _ _ pairs is left)
crashes_told of (said.Send seq text) entries old new pairs is left = inl (none_more _ _ pairs is left)
crashes_told of said.Forward entries old new pairs is left = inl (none_more _ _ pairs is left)
crashes_told of said.Trim entries old new pairs is left = inl (none_more _ _ pairs is left)
crashes_told of (said.Tick at now) entries old new pairs is left = inl (none_more _ _ pairs is left)
crashes_told of (said.Deliver packet) entries old new pairs is left = inl (none_more _ _ pairs is left)
crashes_told of (said.Close at seq) entries old new pairs is left = inl (none_more _ _ pairs is left)
crashes_told of (said.End at seq) entries old new pairs is left = inl (none_more _ _ pairs is left)
crashes_told of (said.Compact at) entries old new pairs is left = inl (none_more _ _ pairs is left)
crashes_told of (said.Arm at calls) entries old new pairs is left = inl (none_more _ _ pairs is left)
crashes_told of (said.Crash at choice) entries old new pairs is left =
    one_of of at choice entries (crashes_of old.disk.past) (crashes_of new.disk.past) pairs is left

pub grew_line : (of : Station) (line : Said) (entries : List (List Fact)) (t : Tale) (old new : Drive)
    → t.crashes ≡ crash_in of line entries → Tells t old new → Grew of line old new
grew_line of line entries t old new is tells = record {
  crashes = crashes_told of line entries old new tells.pairs tells.crashes
      (subst (λ (c : List (ℕ × List (List Fact))). AreLeftBy c tells.pairs) is tells.left);
  faults = rose_some old.failed new.failed t.faults tells.faults;
}
