-- What befalls the disks, line by line.
use Rattle.std.proofs.Common.{◌≡◌, ◌∙◌, ◌&&◌, ◌≤◌, ℕ, cond, Bool, true, false, List, ◌∷◌, ◌++◌, append_assoc, []}
use Rattle.std.proofs.Common.{append-nil}
use Rattle.std.proofs.Common.{refl, sym, ap, subst, inl, inr, arith}
use Rattle.std.specs.Prelude.{◌⊎◌}
use Rattle.record_batch.specs.Fact.{Fact}
use Rattle.rm_base.specs.Count.{RoseBy}
use Rattle.rm_base.specs.CountLemmas.{RoseBy-more}
use Rattle.rm_disk.specs.Call.{crashes_of}
use Rattle.rm_disk.specs.Cause.{HasCause}
use Rattle.rm_replay.specs.Asked.{WasAsked}
use Rattle.rm_protocol.specs.World.{Side, One, Two}
use Rattle.rm_script.specs.declared.event.Event.{Event as Said}
use Rattle.rm_script.specs.declared.event.Event.TheVariants as said
use Rattle.rm_replay.specs.Meaning.{side_of}
use Rattle.rm_replay.specs.Tales.{AreLeftBy, Drive, Grew, HasCrashed, Tale, Tells, crash_in, crash_of, joined}

-- ---- the same disk

pub rose_by_none : (n : ℕ) → RoseBy n n 0
rose_by_none n = inl (omega arith)

-- no crash and no fault
pub tells_none : (d : Drive) → Tells (record { crashes = []; faults = 0 }) d d
tells_none d = record {
  pairs = [];
  crashes = sym (append-nil (crashes_of d.disk.past));
  left = tt;
  faults = rose_by_none d.failed;
}

-- nothing was asked of the disk
pub asked_none : (d : Drive) → WasAsked false d d
asked_none d = record { crashes = refl; cause = record { later = omega arith; cause = refl } }

-- nor was anything asked where no call failed
pub asked_still : (b : Bool) (d : Drive) → WasAsked (b && false) d d
asked_still true d = asked_none d
asked_still false d = asked_none d

-- ---- a call

faults_by : (old new : ℕ) (failed : Bool) → HasCause old new failed → RoseBy old new (cond failed 1 0)
faults_by old new true has = has.cause
faults_by old new false has = subst (λ (n : ℕ). RoseBy old n 0) (sym has.cause) (rose_by_none old)

pub tells_asked : (old new : Drive) (failed : Bool) → WasAsked failed old new
    → Tells (record { crashes = []; faults = cond failed 1 0 }) old new
tells_asked old new failed asked = record {
  pairs = [];
  crashes = asked.crashes ∙ sym (append-nil (crashes_of old.disk.past));
  left = tt;
  faults = faults_by old.failed new.failed failed asked.cause;
}

pub risen : (old new : ℕ) → old ≤ new → RoseBy old new 0
risen old new later = inl (omega (arith, later))

pub grew_asked : (side : Side) (line : Said) (old new : Drive) (failed : Bool) → WasAsked failed old new
    → Grew side line old new
grew_asked side line old new failed asked = record {
  crashes = inl asked.crashes;
  faults = risen old.failed new.failed asked.cause.later;
}

pub grew_none : (side : Side) (line : Said) (d : Drive) → Grew side line d d
grew_none side line d = grew_asked side line d d false (asked_none d)

-- ---- one tale behind another

left_append : (one two : List (ℕ × List (List Fact))) (a b : List (ℕ × List ℕ)) → AreLeftBy one a → AreLeftBy two b
    → AreLeftBy (one ++ two) (a ++ b)
left_append [] two [] b left more = more
left_append (crash ∷ one) two (pair ∷ a) b left more = (left.0, left.1, left_append one two a b left.2 more)
left_append [] two (pair ∷ a) b left more = absurd left
left_append (crash ∷ one) two [] b left more = absurd left

pub tells_then : (one two : Tale) (first mid now : Drive) → Tells one first mid → Tells two mid now
    → Tells (joined one two) first now
tells_then one two first mid now a b = record {
  pairs = a.pairs ++ b.pairs;
  crashes = b.crashes ∙ ap (λ (front : List (ℕ × List ℕ)). front ++ b.pairs) a.crashes
      ∙ append_assoc (crashes_of first.disk.past) a.pairs b.pairs;
  left = left_append one.crashes two.crashes a.pairs b.pairs a.left b.left;
  faults = RoseBy-more first.failed mid.failed now.failed one.faults two.faults a.faults b.faults;
}

-- ---- a tale of one line

pub rose_some : (old new n : ℕ) → RoseBy old new n → RoseBy old new 0
rose_some old new n (inl rose) = inl (omega (arith, rose))
rose_some old new n (inr most) = inr most

-- no crash was told
pub none_more : (old all pairs : List (ℕ × List ℕ)) → all ≡ old ++ pairs → AreLeftBy [] pairs → all ≡ old
none_more old all [] is left = is ∙ append-nil old
none_more old all (pair ∷ pairs) is left = absurd left

-- or one of the node at this side
abbrev OneMore : Side → Side → ℕ → List (ℕ × List ℕ) → List (ℕ × List ℕ) → Type 0
OneMore side at choice old all =
    (all ≡ old) ⊎ ((at ≡ side) × ((bytes : List ℕ) × (all ≡ old ++ (choice, bytes) ∷ [])))

pub one_more : (choice : ℕ) (entries : List (List Fact)) (old all pairs : List (ℕ × List ℕ)) → all ≡ old ++ pairs
    → AreLeftBy ((choice, entries) ∷ []) pairs → (bytes : List ℕ) × (all ≡ old ++ (choice, bytes) ∷ [])
one_more choice entries old all [] is left = absurd left
one_more choice entries old all ((same, bytes) ∷ []) is left =
    (bytes, is ∙ ap (λ (n : ℕ). old ++ (n, bytes) ∷ []) left.0)
one_more choice entries old all (pair ∷ other ∷ more) is left = absurd left.2

one_of : (side at : Side) (choice : ℕ) (entries : List (List Fact)) (old all pairs : List (ℕ × List ℕ))
    → all ≡ old ++ pairs → AreLeftBy (crash_of side at choice entries) pairs → OneMore side at choice old all
one_of One One choice entries old all pairs is left = inr (refl, one_more choice entries old all pairs is left)
one_of Two Two choice entries old all pairs is left = inr (refl, one_more choice entries old all pairs is left)
one_of One Two choice entries old all pairs is left = inl (none_more old all pairs is left)
one_of Two One choice entries old all pairs is left = inl (none_more old all pairs is left)

-- the crash that a line makes
crashes_told : (side : Side) (line : Said) (entries : List (List Fact)) (old new : Drive) (pairs : List (ℕ × List ℕ))
    → crashes_of new.disk.past ≡ crashes_of old.disk.past ++ pairs → AreLeftBy (crash_in side line entries) pairs
    → (crashes_of new.disk.past ≡ crashes_of old.disk.past) ⊎ HasCrashed side line old new
crashes_told side said.Nothing entries old new pairs is left = inl (none_more _ _ pairs is left)
crashes_told side (said.Create at expires polled offer) entries old new pairs is left =
    inl (none_more _ _ pairs is left)
crashes_told side (said.Grant at behaviour) entries old new pairs is left = inl (none_more _ _ pairs is left)
crashes_told side (said.Send at seq text) entries old new pairs is left = inl (none_more _ _ pairs is left)
crashes_told side (said.Tick at now) entries old new pairs is left = inl (none_more _ _ pairs is left)
crashes_told side (said.Deliver packet) entries old new pairs is left = inl (none_more _ _ pairs is left)
crashes_told side (said.Close at seq) entries old new pairs is left = inl (none_more _ _ pairs is left)
crashes_told side (said.End at seq) entries old new pairs is left = inl (none_more _ _ pairs is left)
crashes_told side (said.Ask at seq) entries old new pairs is left = inl (none_more _ _ pairs is left)
crashes_told side (said.Nack at seq) entries old new pairs is left = inl (none_more _ _ pairs is left)
crashes_told side (said.Poll at) entries old new pairs is left = inl (none_more _ _ pairs is left)
crashes_told side (said.Compact at) entries old new pairs is left = inl (none_more _ _ pairs is left)
crashes_told side (said.Consume at seq upto) entries old new pairs is left = inl (none_more _ _ pairs is left)
crashes_told side (said.Arm at calls) entries old new pairs is left = inl (none_more _ _ pairs is left)
crashes_told side (said.Crash at choice) entries old new pairs is left =
    one_of side (side_of at) choice entries (crashes_of old.disk.past) (crashes_of new.disk.past) pairs is left
crashes_told side (said.Noise at bytes) entries old new pairs is left = inl (none_more _ _ pairs is left)

-- so a line that was played tells it
pub grew_line : (side : Side) (line : Said) (entries : List (List Fact)) (tale : Tale) (old new : Drive)
    → tale.crashes ≡ crash_in side line entries → Tells tale old new → Grew side line old new
grew_line side line entries tale old new of tells = record {
  crashes = crashes_told side line entries old new tells.pairs tells.crashes
      (subst (λ (c : List (ℕ × List (List Fact))). AreLeftBy c tells.pairs) of tells.left);
  faults = rose_some old.failed new.failed tale.faults tells.faults;
}

-- ---- nothing befell a disk while its node was made

pub spared_by : (old new : Drive) → crashes_of new.disk.past ≡ crashes_of old.disk.past → new.failed ≡ old.failed
    → WasAsked false old new
spared_by old new crashes same =
    record { crashes = crashes; cause = record { later = omega (arith, same); cause = same } }

pub tells_from : (tale : Tale) (old mid now : Drive) → WasAsked false old mid → Tells tale mid now → Tells tale old now
tells_from tale old mid now asked tells = record {
  pairs = tells.pairs;
  crashes = tells.crashes ∙ ap (λ (front : List (ℕ × List ℕ)). front ++ tells.pairs) asked.crashes;
  left = tells.left;
  faults = subst (λ (n : ℕ). RoseBy n now.failed tale.faults) asked.cause.cause tells.faults;
}
