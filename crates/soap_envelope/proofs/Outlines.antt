-- The outline of an Envelope: each outcome of the walk over its parts.
use Rattle.std.proofs.Common.{◌≡◌, ℕ, ◌⊎◌, inl, inr, List, Option, Some, None, option_map, IfSome, codes, length}
use Rattle.std.proofs.Common.{refl, sym, ap, subst, ◌∙◌, arith, ◌↔◌, IsTrue}
use Rattle.xml_chars.specs.Classes.{is_space}
use Rattle.soap_lex.specs.Facts.{all_passes, all_from_passes}
use Rattle.soap_document.specs.Grammar.{IsWhite}
use Rattle.soap_document.specs.Tokens.{is_white}
use Rattle.soap_document.specs.Profile.Tree.{Element, Parts, none, text, child, name_of}
use Rattle.soap_document.specs.declared.profile.name.Expanded.{Expanded}
use Rattle.soap_document.specs.Profile.View.{element_view}
use Rattle.soap_document.specs.declared.profile.tree.Element.{Element as CodeElement}
use Rattle.soap_envelope.specs.Envelope.{name_in, IsSpaced, bare, spaced, IsBodyAlone, IsOutline, headless, headed}
use Rattle.soap_envelope.specs.Steps.{Comes, IsSpacing, IsOther, Follows, BodyFound, Outlined}
use Rattle.soap_envelope.specs.declared.outline.Next.{Next}
use Rattle.soap_envelope.specs.declared.outline.Next.TheVariants.{Child, Text, End}

-- what the test of white space tells
pub white_is_tested : (bytes : List ℕ) → IsTrue (is_white bytes) ↔ IsWhite bytes
white_is_tested bytes = (all_from_passes is_space bytes, all_passes is_space bytes)

pub spaced_cases : (p q : Parts) → IsSpaced p q → (p ≡ q) ⊎ ((s : List ℕ) × (p ≡ text s q) × IsWhite s)
spaced_cases p q (bare _) = inl refl
spaced_cases p q (spaced s _ w) = inr (s, refl, w)

-- ---- what comes next

other_text : (p : Parts) (t : List ℕ) (q : Parts) → p ≡ text t q → (IsWhite t → ⊥) → IsOther p
other_text p t q is h = record {
  child = λ first rest s. elim (spaced_cases p (child first rest) s) as (λ _. ⊥) [
    | inl e ↦ cc
    | inr w ↦ let same : w.0 ≡ t = cc in h (subst IsWhite same w.2)
  ];
  end = λ s. elim (spaced_cases p none s) as (λ _. ⊥) [
    | inl e ↦ cc
    | inr w ↦ let same : w.0 ≡ t = cc in h (subst IsWhite same w.2)
  ];
}

other_texts : (p : Parts) (t u : List ℕ) (q r : Parts) → p ≡ text t q → q ≡ text u r → IsOther p
other_texts p t u q r is then = record {
  child = λ first rest s. elim (spaced_cases p (child first rest) s) as (λ _. ⊥) [ inl e ↦ cc | inr w ↦ cc ];
  end = λ s. elim (spaced_cases p none s) as (λ _. ⊥) [ inl e ↦ cc | inr w ↦ cc ];
}

pub follows_first : (p : Parts) (f : Next) (q : Parts) → (IsSpacing f → ⊥) → Comes p f q → Follows p f q
follows_first p (Child e) q h c = subst (λ (x : Parts). IsSpaced x (child (element_view e) q)) (sym c) (bare (child
    (element_view e) q))
follows_first p (Text t) q h c = other_text p t q c h
follows_first p End q h c = subst (λ (x : Parts). IsSpaced x none) (sym c) (bare none)

pub follows_space : (p : Parts) (f : Next) (q : Parts) (n : Next) (r : Parts) → IsSpacing f → Comes p f q
    → Comes q n r → Follows p n r
follows_space p (Child e) q n r s c d = absurd s
follows_space p (Text t) q (Child e) r s c d =
    let is : text t (child (element_view e) r) ≡ p = sym (c ∙ ap (text t) d) in
    subst (λ (x : Parts). IsSpaced x (child (element_view e) r)) is (spaced t (child (element_view e) r) s)
follows_space p (Text t) q (Text u) r s c d = other_texts p t u q r c d
follows_space p (Text t) q End r s c d =
    subst (λ (x : Parts). IsSpaced x none) (sym (c ∙ ap (text t) d)) (spaced t none s)
follows_space p End q n r s c d = absurd s

pub one_child : (p : Parts) (a b : Element) (q r : Parts) → IsSpaced p (child a q) → IsSpaced p (child b r)
    → (a ≡ b) × (q ≡ r)
one_child p a b q r s t = elim (spaced_cases p (child a q) s) as (λ _. (a ≡ b) × (q ≡ r)) [
  | inl e ↦ elim (spaced_cases p (child b r) t) as (λ _. (a ≡ b) × (q ≡ r)) [ inl f ↦ (cc, cc) | inr w ↦ cc ]
  | inr v ↦ elim (spaced_cases p (child b r) t) as (λ _. (a ≡ b) × (q ≡ r)) [
    | inl f ↦ cc
    | inr w ↦ (cc, cc)
  ]
]

pub no_child : (p : Parts) (a : Element) (q : Parts) → IsSpaced p none → IsSpaced p (child a q) → ⊥
no_child p a q s t = elim (spaced_cases p none s) as (λ _. ⊥) [
  | inl e ↦ elim (spaced_cases p (child a q) t) as (λ _. ⊥) [ inl f ↦ cc | inr w ↦ cc ]
  | inr v ↦ elim (spaced_cases p (child a q) t) as (λ _. ⊥) [ inl f ↦ cc | inr w ↦ cc ]
]

-- ---- a Body alone

pub body_alone : (soap : List ℕ) (p : Parts) (body : Element) (q : Parts) → IsSpaced p (child body q)
    → name_of body ≡ name_in soap (codes "Body") → IsSpaced q none → IsBodyAlone soap p body
body_alone soap p body q s n e = record { after = q; before = s; behind = e; named = n }

pub no_body_next : (soap : List ℕ) (p : Parts) (n : Next) (q : Parts) → Follows p n q → ((e : CodeElement)
    → n ≡ Child e → ⊥)
    → (body : Element) → IsBodyAlone soap p body → ⊥
no_body_next soap p (Child e) q f h body b = h e refl
no_body_next soap p (Text t) q f h body b = f.child body b.after b.before
no_body_next soap p End q f h body b = no_child p body b.after f b.before

pub no_body_here : (soap : List ℕ) (p : Parts) (first : Element) (q : Parts) → IsSpaced p (child first q)
    → (name_of first ≡ name_in soap (codes "Body") → IsSpaced q none → ⊥) → (body : Element)
    → IsBodyAlone soap p body → ⊥
no_body_here soap p first q s h body b =
    let same = one_child p body first b.after q b.before s in
    h (ap name_of (sym same.0) ∙ b.named) (subst (λ (x : Parts). IsSpaced x none) same.1 b.behind)

-- ---- the outline

pub outline_cases : (soap : List ℕ) (p : Parts) (h : Option Element) (b : Element) → IsOutline soap p h b
    → ((h ≡ None) × IsBodyAlone soap p b)
    ⊎ ((x : Element) × (rest : Parts) × (h ≡ Some x) × IsSpaced p (child x rest)
    × (name_of x ≡ name_in soap (codes "Header")) × IsBodyAlone soap rest b)
outline_cases soap p h b (headless _ _ alone) = inl (refl, alone)
outline_cases soap p h b (headed _ rest x _ s n alone) = inr (x, rest, refl, s, n, alone)

pub not_both : (soap : List ℕ) (n : Expanded) → n ≡ name_in soap (codes "Header") → n ≡ name_in soap (codes "Body") → ⊥
not_both soap n h b =
    let same : codes "Header" ≡ codes "Body" = ap (λ (m : Expanded). m.local) (sym h ∙ b) in
    let long : length (codes "Header") ≡ 4 = ap length same in omega arith

pub no_outline_next : (soap : List ℕ) (p : Parts) (n : Next) (q : Parts) → Follows p n q → ((e : CodeElement)
    → n ≡ Child e → ⊥)
    → Outlined soap p None
no_outline_next soap p n q f h header body o = elim (outline_cases soap p header body o) as (λ _. ⊥) [
  | inl l ↦ no_body_next soap p n q f h body l.1
  | inr r ↦ no_header soap p n q f h r.0 r.1 r.3
]
  where
    no_header : (soap : List ℕ) (p : Parts) (n : Next) (q : Parts) → Follows p n q → ((e : CodeElement)
        → n ≡ Child e → ⊥)
        → (x : Element) (rest : Parts) → IsSpaced p (child x rest) → ⊥
    no_header soap p (Child e) q f h x rest s = h e refl
    no_header soap p (Text t) q f h x rest s = f.child x rest s
    no_header soap p End q f h x rest s = no_child p x rest f s

-- behind a Header, a Body alone or none
pub outlined_header : (soap : List ℕ) (p : Parts) (e : CodeElement) (q : Parts) → IsSpaced p (child (element_view e) q)
    → name_of (element_view e) ≡ name_in soap (codes "Header") → (r : Option (Option CodeElement × CodeElement))
    → IfSome r (λ found. found.0 ≡ Some e) → BodyFound soap q (option_map (λ found. found.1) r) → Outlined soap p r
outlined_header soap p e q s n None is alone = λ header body o. elim (outline_cases soap p header body o) as (λ _. ⊥) [
  | inl l ↦ not_both soap (name_of body) (ap name_of (one_child p body (element_view e) l.1.after q l.1.before s).0 ∙ n)
      l.1.named
  | inr r ↦ alone body (subst (λ (x : Parts). IsBodyAlone soap x body) (one_child p r.0 (element_view e) r.1 q r.3
      s).1 r.5)
]
outlined_header soap p e q s n (Some found) is alone =
    subst (λ (h : Option Element). IsOutline soap p h (element_view found.1)) (ap (option_map element_view) (sym is))
    (headed p q (element_view e) (element_view found.1) s n alone)

-- without one
pub outlined_body : (soap : List ℕ) (p : Parts) (e : CodeElement) (q : Parts) → IsSpaced p (child (element_view e) q)
    → name_of (element_view e) ≡ name_in soap (codes "Body") → IsSpaced q none → Outlined soap p (Some (None, e))
outlined_body soap p e q s n end = headless p (element_view e) (body_alone soap p (element_view e) q s n end)

pub no_outline_here : (soap : List ℕ) (p : Parts) (first : Element) (q : Parts) → IsSpaced p (child first q)
    → (name_of first ≡ name_in soap (codes "Header") → ⊥)
    → (name_of first ≡ name_in soap (codes "Body") → IsSpaced q none → ⊥) → Outlined soap p None
no_outline_here soap p first q s h k header body o = elim (outline_cases soap p header body o) as (λ _. ⊥) [
  | inl l ↦ no_body_here soap p first q s k body l.1
  | inr r ↦ h (ap name_of (sym (one_child p r.0 first r.1 q r.3 s).0) ∙ r.4)
]
