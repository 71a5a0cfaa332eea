-- Where a byte cuts others: lemmas that stand beside the definition of `cut`, since the layers above need them too.
use Rattle.std.proofs.Common.{◌≡◌, ℕ, ◌⊎◌, inl, inr, List, [], ◌∷◌, ◌++◌, Bool, true, false, nat_eq, Option, Some}
use Rattle.std.proofs.Common.{None, refl, sym, ap, ◌∙◌}
use Rattle.std.specs.List.{AllByRecursion}
use Rattle.std.proofs.lemmas.Bool.{eqb-true, eq-eqb}
use Rattle.soap_document.specs.Tokens.{cut}

pub cut_none : (k : ℕ) (bytes : List ℕ) → AllByRecursion (λ c. nat_eq c k ≡ false) bytes → cut k bytes ≡ None
cut_none k [] h = refl
cut_none k (c ∷ bytes) h = rw (h.0, cut_none k bytes h.1)

pub cut-append : (k : ℕ) (word rest : List ℕ) → AllByRecursion (λ c. nat_eq c k ≡ false) word
    → cut k (word ++ k ∷ rest) ≡ Some (word, rest)
cut-append k [] rest h = rw (eq-eqb k k refl)
cut-append k (c ∷ word) rest h = rw (h.0, cut-append k word rest h.1)

cut_more : (k b : ℕ) (bytes : List ℕ) (p : List ℕ × List ℕ) (t : Bool) (o : Option (List ℕ × List ℕ)) → nat_eq b k
    ≡ t → cut k bytes ≡ o → cut k (b ∷ bytes) ≡ Some p
    → ((b ≡ k) × (p ≡ ([], bytes))) ⊎ ((q : List ℕ × List ℕ) × (o ≡ Some q) × (p ≡ (b ∷ q.0, q.1)))
cut_more k b bytes p true o e f h = let x = rw e at h in inl (eqb-true b k e, cc)
cut_more k b bytes p false None e f h = let x = rw (e, f) at h in cc
cut_more k b bytes p false (Some q) e f h = let x = rw (e, f) at h in inr (q, refl, cc)

pub cut_from : (k : ℕ) (bytes : List ℕ) (p : List ℕ × List ℕ) → cut k bytes ≡ Some p → bytes ≡ p.0 ++ k ∷ p.1
cut_from k [] p e = cc
cut_from k (b ∷ bytes) p e =
    elim (cut_more k b bytes p (nat_eq b k) (cut k bytes) refl refl e) [
      | inl h ↦ ap (λ x. x ∷ bytes) h.0 ∙ ap (λ (q : List ℕ × List ℕ). q.0 ++ k ∷ q.1) (sym h.1)
      | inr h ↦ ap (λ x. b ∷ x) (cut_from k bytes h.0 h.1) ∙ ap (λ (q : List ℕ × List ℕ). q.0 ++ k ∷ q.1) (sym h.2)
    ]
