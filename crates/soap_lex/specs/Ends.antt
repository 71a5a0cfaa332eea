-- What ends in a word: lemmas that stand beside the definition of `without`, since the layers above need them too.
use Rattle.std.proofs.Common.{◌≡◌, ◌≢◌, ℕ, ◌⊎◌, inl, inr, List, [], ◌∷◌, ◌++◌, Bool, true, false, Option, Some, None}
use Rattle.std.proofs.Common.{option_map, MatchOption, Bor, length, refl, sym, ap, ◌∙◌, arith, append_assoc}
use Rattle.std.proofs.Common.{append-nil, length-append}
use Rattle.std.specs.Str.{bytes_eq}
use Rattle.soap_lex.specs.Facts.{same, differ, equal}
use Rattle.soap_lex.specs.Tests.{without}
use Rattle.soap_lex.specs.Bytes.{greater_than}

pub without-append : (word front : List ℕ) → without word (front ++ word) ≡ Some front
without-append [] [] = refl
without-append (w ∷ word) [] = rw (equal (w ∷ word) (w ∷ word) refl)
without-append word (c ∷ front) = rw (
  differ word (c ∷ (front ++ word)) (λ e. omega (
    arith,
    ap length e,
    length-append front word,
  )),
  without-append word front,
)

without_more : (word : List ℕ) (b : ℕ) (bytes front : List ℕ) (t : Bool) (o : Option (List ℕ))
    → bytes_eq word (b ∷ bytes) ≡ t → without word bytes ≡ o → without word (b ∷ bytes) ≡ Some front
    → ((b ∷ bytes ≡ word) × (front ≡ [])) ⊎ ((later : List ℕ) × (o ≡ Some later) × (front ≡ b ∷ later))
without_more word b bytes front true o e f h = let x = rw e at h in inl (sym (same word (b ∷ bytes) e), cc)
without_more word b bytes front false None e f h = let x = rw (e, f) at h in cc
without_more word b bytes front false (Some later) e f h = let x = rw (e, f) at h in inr (later, refl, cc)

without_nil : (word front : List ℕ) → without word [] ≡ Some front → [] ≡ front ++ word
without_nil [] front e = let f : [] ≡ front = cc in ap (λ (x : List ℕ). x ++ []) f
without_nil (w ∷ word) front e = cc

pub without_from : (word bytes front : List ℕ) → without word bytes ≡ Some front → bytes ≡ front ++ word
without_from word [] front e = without_nil word front e
without_from word (b ∷ bytes) front e =
    elim (without_more word b bytes front (bytes_eq word (b ∷ bytes)) (without word bytes) refl refl e) [
      | inl h ↦ h.0 ∙ ap (λ (x : List ℕ). x ++ word) (sym h.1)
      | inr h ↦ ap (λ x. b ∷ x) (without_from word bytes h.0 h.1) ∙ ap (λ (x : List ℕ). x ++ word) (sym h.2)
    ]

-- what a search for the word at the end answers
pub without_cases : (word bytes : List ℕ) (r : Option (Bor (List ℕ))) → MatchOption r ((front : List ℕ)
    → bytes ≢ front ++ word) (λ x. bytes ≡ x.now ++ word) → option_map (λ (x : Bor (List ℕ)). x.now) r
    ≡ without word bytes
without_cases word bytes None h = go (without word bytes) refl
  where
    go : (o : Option (List ℕ)) → without word bytes ≡ o → None ≡ without word bytes
    go None e = sym e
    go (Some front) e = absurd (h front (without_from word bytes front e))
without_cases word bytes (Some x) h = sym (ap (without word) h ∙ without-append word x.now)

-- no > in the bytes stands behind the word
abbrev pub IsOpen : List ℕ → List ℕ → List ℕ → Type 0
IsOpen word before bytes = (a b : List ℕ) → bytes ≡ a ++ greater_than ∷ b → without word (before ++ a) ≡ None

pub IsOpen-tail : (word before : List ℕ) (c : ℕ) (bytes : List ℕ) → IsOpen word before (c ∷ bytes)
    → IsOpen word (before ++ c ∷ []) bytes
IsOpen-tail word before c bytes h a b e = ap (without word) (append_assoc before (c ∷ []) a)
    ∙ h (c ∷ a) b (ap (λ x. c ∷ x) e)

pub IsOpen-here : (word before : List ℕ) (c : ℕ) (bytes : List ℕ) → IsOpen word before (c ∷ bytes) → c ≡ greater_than
    → without word before ≡ None
IsOpen-here word before c bytes h e = ap (without word) (sym (append-nil before)) ∙ h [] bytes (ap (λ x. x ∷ bytes) e)
