-- Text that is read whole.
use Rattle.std.proofs.Common.{◌≡◌, ℕ, ◌+◌, ◌-◌, ◌≤◌, List, [], ◌∷◌, ◌++◌, Option, Some, None, length, take, drop}
use Rattle.std.proofs.Common.{refl, sym, ap, ap₂, subst, ◌∙◌, arith, length-append}
use Rattle.std.proofs.lemmas.List.{drop_at}
use Rattle.soap_lex.specs.Cut.{IsTextFirst}
use Rattle.soap_lex.specs.TextMachine.{TextState, begun, to_stop, run, ended, counted, with_rest, reads}
use Rattle.soap_lex.proofs.TextFed.{run_still}
use Rattle.soap_lex.proofs.TextFound.{reads_found}
use Rattle.soap_lex.proofs.TextRead.{reads_only}

-- ---- the end

-- what is there is one thing
pub some_is : {A : Type 0} {a b : A} → Some a ≡ Some b → a ≡ b
some_is e = cc

pub some_none : {A : Type 0} {a : A} → Some a ≡ None → ⊥
some_none e = cc

counted_rest : (o : Option (List ℕ × List ℕ)) (x : List ℕ) (n : ℕ) (rest : List ℕ) → counted o ≡ Some (x, n)
    → counted (with_rest o rest) ≡ Some (x, n + length rest)
counted_rest None x n rest e = cc
counted_rest (Some p) x n rest e =
    let same : (p.0, length p.1) ≡ (x, n) = some_is e in
    ap (λ (k : ℕ). Some (p.0, k)) (length-append p.1 rest) ∙ ap (λ (q : List ℕ × ℕ). Some (q.0, q.1 + length rest)) same

none_rest : (o : Option (List ℕ × List ℕ)) (rest : List ℕ) → counted o ≡ None → with_rest o rest ≡ None
none_rest None rest e = refl
none_rest (Some p) rest e = cc

-- what was appended in front of what is appended now
pub front_whole : (a : List ℕ) → take (length a) a ≡ a
front_whole [] = refl
front_whole (x ∷ a) = ap (λ (l : List ℕ). x ∷ l) (front_whole a)

pub front_then : (a b d : List ℕ) → take (length a) b ≡ a → take (length b) d ≡ b → take (length a) d ≡ a
front_then [] b d e f = refl
front_then (x ∷ a) [] d e f = cc
front_then (x ∷ a) (y ∷ b) [] e f = cc
front_then (x ∷ a) (y ∷ b) (z ∷ d) e f =
    let first : y ≡ x = cc in
    let second : z ≡ y = cc in
    let rest : take (length a) b ≡ a = cc in
    let later : take (length b) d ≡ b = cc in
    ap₂ (λ (c : ℕ) (l : List ℕ). c ∷ l) (second ∙ first) (front_then a b d rest later)

-- nothing was taken, so text ends or was refused
module _ (text bytes rest : List ℕ) (s t : TextState) (taken : ℕ) (so : run s rest ≡ run (begun text) bytes)
    (fed : to_stop s rest ≡ (t, drop taken rest)) (none : taken ≡ 0) where
  still : to_stop s rest ≡ (t, rest)
  still = fed ∙ ap (λ k. (t, drop k rest)) none

  end_state : run (begun text) bytes ≡ (t, rest)
  end_state = sym so ∙ run_still s t rest still

  pub whole_some : (x : List ℕ) (n : ℕ) → counted (ended t) ≡ Some (x, n)
      → counted (reads (begun text) bytes) ≡ Some (x, n + length rest)
  whole_some x n e =
      ap (λ (p : TextState × List ℕ). counted (with_rest (ended p.0) p.1)) end_state ∙ counted_rest (ended t) x n rest e

  pub whole_none : counted (ended t) ≡ None → reads (begun text) bytes ≡ None
  whole_none e = ap (λ (p : TextState × List ℕ). with_rest (ended p.0) p.1) end_state ∙ none_rest (ended t) rest e

-- ---- what was read

counted_from : (o : Option (List ℕ × List ℕ)) (x : List ℕ) (n : ℕ) → counted o ≡ Some (x, n)
    → (rest : List ℕ) × (o ≡ Some (x, rest)) × (length rest ≡ n)
counted_from None x n e = cc
counted_from (Some p) x n e =
    let same : (p.0, length p.1) ≡ (x, n) = some_is e in
    (p.1, ap (λ (q : List ℕ × ℕ). Some (q.0, p.1)) same, ap (λ (q : List ℕ × ℕ). q.1) same)

pub left_within : (text bytes x : List ℕ) (n : ℕ) → counted (reads (begun text) bytes) ≡ Some (x, n) → n ≤ length bytes
left_within text bytes x n e =
    let r = counted_from (reads (begun text) bytes) x n e in
    let found = reads_found text bytes x r.0 r.1 in
    omega (arith, r.2, ap length found.there, length-append found.front r.0)

rest_at : (bytes front rest : List ℕ) (n : ℕ) → bytes ≡ front ++ rest → length rest ≡ n
    → rest ≡ drop (length bytes - n) bytes
rest_at bytes front rest n there size =
    let place : length front ≡ length bytes - n = omega (arith, ap length there, length-append front rest, size) in
    sym (drop_at front rest (length bytes - n) place) ∙ ap (λ (l : List ℕ). drop (length bytes - n) l) (sym there)

pub text_found : (bytes old new : List ℕ) (n : ℕ) → counted (reads (begun old) bytes) ≡ Some (new, n)
    → (text : List ℕ) × (meaning : List ℕ) × IsTextFirst bytes text (drop (length bytes - n) bytes) meaning
    × (new ≡ old ++ meaning)
text_found bytes old new n e =
    let r = counted_from (reads (begun old) bytes) new n e in
    let found = reads_found old bytes new r.0 r.1 in
    let cut : IsTextFirst bytes found.front r.0 found.meaning =
    record { there = found.there; is = found.is; ends = found.stop } in (
      found.front,
      found.meaning,
      subst (λ (l : List ℕ). IsTextFirst bytes found.front l found.meaning)
          (rest_at bytes found.front r.0 n found.there r.2) cut,
      found.sum,
    )

pub text_only : (bytes old new : List ℕ) (n : ℕ) → counted (reads (begun old) bytes) ≡ Some (new, n)
    → (text rest meaning : List ℕ) → IsTextFirst bytes text rest meaning → rest ≡ drop (length bytes - n) bytes
text_only bytes old new n e text rest meaning cut =
    let read = reads_only bytes text rest meaning old cut in
    let size : Some (old ++ meaning, length rest) ≡ Some (new, n) = sym (ap counted read) ∙ e in
    rest_at bytes text rest n cut.there (ap (λ (q : List ℕ × ℕ). q.1) (some_is size))

pub text_refused : (bytes old : List ℕ) → reads (begun old) bytes ≡ None
    → (text rest meaning : List ℕ) → IsTextFirst bytes text rest meaning → ⊥
text_refused bytes old e text rest meaning cut =
    some_none (sym (reads_only bytes text rest meaning old cut) ∙ e)
