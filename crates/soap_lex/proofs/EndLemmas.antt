-- What ends in a word, and where a comment and a CDATA section end.
use Rattle.std.proofs.Common.{◌≡◌, ℕ, ◌⊎◌, inl, inr, List, [], ◌∷◌, ◌++◌, false, nat_eq, Option}
use Rattle.std.proofs.Common.{Some, None, length, codes, refl, sym, ap, ap₂, ◌∙◌, arith}
use Rattle.std.proofs.Common.{append_assoc, length-append}
use Rattle.std.proofs.lemmas.Bool.{eq-eqb, true≢false}
use Rattle.soap_lex.specs.Characters.{Holds}
use Rattle.soap_lex.specs.Text.{IsCdata, IsComment}
use Rattle.soap_lex.specs.Tests.{without}
use Rattle.soap_lex.specs.Facts.{same}
use Rattle.soap_lex.specs.Ends.{without_from}

-- a list has a last element, or none
last_of : (bytes : List ℕ) → (bytes ≡ []) ⊎ ((init : List ℕ) × (last : ℕ) × (bytes ≡ init ++ last ∷ []))
last_of [] = inl refl
last_of (c ∷ bytes) = elim (last_of bytes) [
  | inl e ↦ inr ([], c, ap (λ x. c ∷ x) e)
  | inr r ↦ inr (c ∷ r.0, r.1, ap (λ x. c ∷ x) r.2)
]

snoc_same : (xs ys : List ℕ) (x y : ℕ) → xs ++ x ∷ [] ≡ ys ++ y ∷ [] → (xs ≡ ys) × (x ≡ y)
snoc_same [] [] x y e = (refl, cc)
snoc_same [] (b ∷ ys) x y e = absurd (omega (arith, ap length e, length-append ys (y ∷ [])))
snoc_same (a ∷ xs) [] x y e = absurd (omega (arith, ap length e, length-append xs (x ∷ [])))
snoc_same (a ∷ xs) (b ∷ ys) x y e =
    let tails : xs ++ x ∷ [] ≡ ys ++ y ∷ [] = cc in
    let heads : a ≡ b = cc in
    let h = snoc_same xs ys x y tails in (ap₂ (λ (c : ℕ) (cs : List ℕ). c ∷ cs) heads h.0, h.1)

-- without the last byte on both sides
drop_last : (xs front : List ℕ) (x c : ℕ) (rest : List ℕ) → xs ++ x ∷ [] ≡ front ++ c ∷ rest → ((c ≡ x) × (xs
    ≡ front)) ⊎ ((more : List ℕ) × (xs ≡ front ++ c ∷ more) × (rest ≡ more ++ x ∷ []))
drop_last xs front x c rest e =
    elim (last_of rest) [
      | inl none ↦ let h = snoc_same xs front x c (e ∙ ap (λ (r : List ℕ). front ++ c ∷ r) none) in inl (sym h.1, h.0)
      | inr r ↦
          let h = snoc_same xs (front ++ c ∷ r.0) x r.1 (e ∙ ap (λ (t : List ℕ). front ++ c ∷ t) r.2
          ∙ sym (append_assoc front (c ∷ r.0) (r.1 ∷ []))) in
          inr (r.0, h.0, r.2 ∙ ap (λ z. r.0 ++ z ∷ []) (sym h.1))
    ]

unlike : (n k : ℕ) → nat_eq n k ≡ false → n ≡ k → ⊥
unlike n k e same = true≢false (sym (eq-eqb n k same) ∙ e)

none_from : (o : Option (List ℕ)) → ((x : List ℕ) → o ≡ Some x → ⊥) → o ≡ None
none_from None h = refl
none_from (Some x) h = absurd (h x refl)

-- a comment or a CDATA section does not end before its end
comment_early : (bytes front b : List ℕ) → bytes ++ codes "--" ≡ (front ++ codes "--") ++ 62 ∷ b
    → Holds (bytes ++ codes "-") (codes "--")
comment_early bytes front b e =
    elim (drop_last (bytes ++ codes "-") (front ++ codes "--") 45 62 b (append_assoc bytes (codes "-") (codes "-")
    ∙ e)) [
      | inl h ↦ absurd (unlike 62 45 refl h.0)
      | inr h ↦ record { before = front; after = 62 ∷ h.0; there = h.1 ∙ append_assoc front (codes "--") (62 ∷ h.0) }
    ]

pub comment_open : (bytes a b : List ℕ) → IsComment bytes → bytes ++ codes "--" ≡ a ++ 62 ∷ b
    → without (codes "--") a ≡ None
comment_open bytes a b h e =
    none_from (without (codes "--") a) (λ front f. h.no_dashes (comment_early bytes front b (e
    ∙ ap (λ (x : List ℕ). x ++ 62 ∷ b) (without_from (codes "--") a front f))))

cdata_early : (bytes front b : List ℕ) → bytes ++ codes "]]" ≡ (front ++ codes "]]") ++ 62 ∷ b
    → Holds bytes (codes "]]>")
cdata_early bytes front b e =
    elim (drop_last (bytes ++ codes "]") (front ++ codes "]]") 93 62 b (append_assoc bytes (codes "]") (codes "]")
    ∙ e)) [
      | inl h ↦ absurd (unlike 62 93 refl h.0)
      | inr h ↦ elim (drop_last bytes (front ++ codes "]]") 93 62 h.0 h.1) [
        | inl k ↦ absurd (unlike 62 93 refl k.0)
        | inr k ↦ record { before = front; after = k.0; there = k.1 ∙ append_assoc front (codes "]]") (62 ∷ k.0) }
      ]
    ]

pub cdata_open : (bytes a b : List ℕ) → IsCdata bytes → bytes ++ codes "]]" ≡ a ++ 62 ∷ b → without (codes "]]") a
    ≡ None
cdata_open bytes a b h e =
    none_from (without (codes "]]") a) (λ front f. h.no_close (cdata_early bytes front b (e
    ∙ ap (λ (x : List ℕ). x ++ 62 ∷ b) (without_from (codes "]]") a front f))))
