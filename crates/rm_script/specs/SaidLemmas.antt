-- A script of any kind as it is read line by line.
use Rattle.std.proofs.Common.{◌≡◌, ℕ, zero, suc, ◌+◌, ◌-◌, List, [], ◌∷◌, ◌++◌, length, refl, ap, arith}
use Rattle.std.proofs.Common.{append_assoc, slice_get, Some, subst}
use Rattle.std.specs.List.{AllByRecursion}
use Rattle.std.proofs.lemmas.List.{take_at}
use Rattle.rm_script.specs.PlaceLemmas.{slice_get-at}
use Rattle.rm_script.specs.Said.{AreSaid, IsFirstUnsaid}

-- the first lines were read, and the rest is still to come
pub record ReadSoFar {E : Type 0} (says : List ℕ → E → Type 0) (lines rest : List (List ℕ))
    (events : List E) : Type 0 where
  pub before : List (List ℕ)
  pub parts : lines ≡ before ++ rest
  pub script : AreSaid says before events

AreSaid-push : {E : Type 0} (says : List ℕ → E → Type 0) (lines : List (List ℕ)) (events : List E) (line : List ℕ)
    (event : E) → AreSaid says lines events → says line event
    → AreSaid says (lines ++ line ∷ []) (events ++ event ∷ [])
AreSaid-push says [] [] line event s e = (e, tt)
AreSaid-push says [] (a ∷ events) line event s e = absurd s
AreSaid-push says (l ∷ lines) [] line event s e = absurd s
AreSaid-push says (l ∷ lines) (a ∷ events) line event s e = (s.0, AreSaid-push says lines events line event s.1 e)

AreSaid-length : {E : Type 0} (says : List ℕ → E → Type 0) (lines : List (List ℕ)) (events : List E)
    → AreSaid says lines events → length lines ≡ length events
AreSaid-length says [] [] s = refl
AreSaid-length says [] (a ∷ events) s = absurd s
AreSaid-length says (l ∷ lines) [] s = absurd s
AreSaid-length says (l ∷ lines) (a ∷ events) s = ap suc (AreSaid-length says lines events s.1)

-- one more line was read
pub read_more : {E : Type 0} (says : List ℕ → E → Type 0) (lines rest : List (List ℕ)) (events : List E)
    (line : List ℕ) (event : E) → ReadSoFar says lines (line ∷ rest) events → says line event
    → ReadSoFar says lines rest (events ++ event ∷ [])
read_more says lines rest events line event r e = record {
  before = r.before ++ line ∷ [];
  parts = rw append_assoc r.parts;
  script = AreSaid-push says r.before events line event r.script e;
}

-- the line at which reading stops is the first bad one
pub read_bad : {E : Type 0} (says : List ℕ → E → Type 0) (lines rest : List (List ℕ)) (events : List E)
    (line : List ℕ) → ReadSoFar says lines (line ∷ rest) events → ((event : E) → says line event → ⊥)
    → IsFirstUnsaid says lines (length events + 1)
read_bad says lines rest events line r bad =
    let len : length r.before ≡ length events = AreSaid-length says r.before events r.script in
    let n : length events + 1 - 1 ≡ length r.before = omega arith in
    record {
      from_one = omega arith;
      before = events;
      script = rw (n, r.parts, take_at r.before (line ∷ rest) (length r.before) refl) r.script;
      line = line;
      there = rw (n, r.parts) (slice_get-at r.before line rest);
      bad = bad;
    }

-- each line of a script says something
AreSaid-at : {E : Type 0} (says : List ℕ → E → Type 0) (lines : List (List ℕ)) (events : List E) (i : ℕ)
    (line : List ℕ) → AreSaid says lines events → slice_get lines i ≡ Some line → (event : E) × says line event
AreSaid-at says [] events i line s e = absurd (cc)
AreSaid-at says (l ∷ lines) [] i line s e = absurd s
AreSaid-at says (l ∷ lines) (x ∷ events) zero line s e =
    let same : l ≡ line = cc in (x, subst (λ m. says m x) same s.0)
AreSaid-at says (l ∷ lines) (x ∷ events) (suc i) line s e = AreSaid-at says lines events i line s.1 e

-- a script has no bad line
pub IsFirstUnsaid-none : {E : Type 0} (says : List ℕ → E → Type 0) (lines : List (List ℕ)) (events : List E) (k : ℕ)
    → AreSaid says lines events → IsFirstUnsaid says lines k → ⊥
IsFirstUnsaid-none says lines events k s bad =
    let said = AreSaid-at says lines events (k - 1) bad.line s bad.there in bad.bad said.0 said.1

-- what each event has that a line says, each event of a script has
pub AreSaid-All : {E : Type 0} (says : List ℕ → E → Type 0) (P : E → Type 0)
    (each : (line : List ℕ) (event : E) → says line event → P event) (lines : List (List ℕ)) (events : List E)
    → AreSaid says lines events → AllByRecursion P events
AreSaid-All says P each [] [] s = tt
AreSaid-All says P each [] (a ∷ events) s = absurd s
AreSaid-All says P each (l ∷ lines) [] s = absurd s
AreSaid-All says P each (l ∷ lines) (a ∷ events) s = (each l a s.0, AreSaid-All says P each lines events s.1)
