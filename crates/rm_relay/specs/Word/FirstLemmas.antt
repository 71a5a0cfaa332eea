-- The first sequence of a node that passes a test.
use Rattle.std.proofs.Common.{◌≡◌, ℕ, suc, ◌+◌, ◌-◌, ◌<◌, Bool, true, false, cond, List, [], ◌∷◌, length, drop, get_or}
use Rattle.std.proofs.Common.{refl, sym, ap, subst, ◌∙◌, arith, Some, None, Option}
use Rattle.std.specs.Prelude.{slice_get}
use Rattle.std.proofs.lemmas.Bool.{ne_eqb}
use Rattle.std.proofs.lemmas.List.{at_drop_more}
use Rattle.std.proofs.lemmas.Option.{slice_get-get_or}
use Rattle.rm_base.specs.Numbered.{numbered}
use Rattle.record_batch.specs.Fact.{Fact}
use Rattle.record_batch.specs.Sequences.Find.{find_from}
use Rattle.record_batch.specs.Sequences.Makers.{Maker, maker, makers}

-- whether a sequence passes the test
abbrev pub tested : (Option Maker → Bool) → ℕ → Maker → Bool
tested test s m = test (Some m)

-- the element with number k + 1 stands at place k
pub numbered-at : {A : Type 0} (xs : List A) (k : ℕ) → numbered xs (k + 1) ≡ slice_get xs k
numbered-at xs k = ap (λ b. cond b None (slice_get xs (k + 1 - 1))) (ne_eqb (k + 1) 0 (λ e. absurd (omega (arith, e))))
    ∙ ap (λ i. slice_get xs i) (let e : k + 1 - 1 ≡ k = omega arith in e)

next : (k : ℕ) → suc k ≡ k + 1
next k = omega arith

-- one more sequence is tried
pub find-step : (test : Option Maker → Bool) (ms : List Maker) (k : ℕ) → k < length ms
    → find_from (tested test) k (drop k ms)
    ≡ cond (test (numbered ms (k + 1))) (Some (k + 1)) (find_from (tested test) (k + 1) (drop (k + 1) ms))
find-step test [] k lt = absurd (omega (arith, lt))
find-step test (m ∷ ms) k lt =
    let all = m ∷ ms in
    let d = get_or all k m in
    let there : numbered all (k + 1) ≡ Some d = numbered-at all k ∙ slice_get-get_or all k m lt in
    at_drop_more (λ xs. find_from (tested test) k xs) all k m lt
    ∙ ap (λ n. cond (test (Some d)) (Some n) (find_from (tested test) n (drop (k + 1) all))) (next k)
    ∙ ap (λ o. cond (test o) (Some (k + 1)) (find_from (tested test) (k + 1) (drop (k + 1) all))) (sym there)

found-from : (test : Option Maker → Bool) (k : ℕ) (ms : List Maker) (s : ℕ) → find_from (tested test) k ms ≡ Some s
    → (j : ℕ) × (s ≡ k + j + 1) × (test (slice_get ms j) ≡ true)
found-from test k [] s e = absurd (cc)
found-from test k (m ∷ ms) s e =
    elim (test (Some m)) as (λ b. test (Some m) ≡ b
    → cond b (Some (suc k)) (find_from (tested test) (suc k) ms) ≡ Some s
    → (j : ℕ) × (s ≡ k + j + 1) × (test (slice_get (m ∷ ms) j) ≡ true)) [
      | true ↦ λ d h.
          let same : suc k ≡ s = cc in
          (0, omega arith, d)
      | false ↦ λ d h.
          let rest = found-from test (suc k) ms s h in
          let place : s ≡ suc k + rest.0 + 1 = rest.1 in
          (suc rest.0, omega arith, rest.2)
    ] refl e

-- the sequence that was found passes the test
pub found-side : (test : Option Maker → Bool) (r : List Fact) (s : ℕ) → find_from (tested test) 0 (makers r) ≡ Some s
    → test (maker r s) ≡ true
found-side test r s e =
    let found = found-from test 0 (makers r) s e in
    let place : s ≡ found.0 + 1 = omega (arith, found.1) in
    subst (λ n. test (numbered (makers r) n) ≡ true) (sym place)
    (ap test (numbered-at (makers r) found.0) ∙ found.2)
