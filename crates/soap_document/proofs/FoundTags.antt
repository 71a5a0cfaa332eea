-- Tags that the reader took are tags of the grammar.
use Rattle.std.proofs.Common.{◌≡◌, ℕ, suc, ◌+◌, ◌≤◌, ◌⊎◌, inl, inr, List, [], ◌∷◌, ◌++◌, Bool, true, false, ◌||◌}
use Rattle.std.proofs.Common.{nat_eq, length, codes, refl, sym, ap, subst, ◌∙◌, arith, append_assoc, append-nil}
use Rattle.std.proofs.Common.{length-append}
use Prim.Native.Nat.{zero}
use Rattle.std.proofs.lemmas.Bool.{eqb-true, or_cases}
use Rattle.xml_chars.specs.Classes.{is_space}
use Rattle.soap_lex.specs.ValueMachine.{begun}
use Rattle.soap_lex.specs.Value.{IsValue, double, single, IsInner}
use Rattle.soap_lex.specs.NameBytes.{all_append}
use Rattle.soap_document.specs.Tree.{Attribute, Element, element, none, child}
use Rattle.soap_document.specs.Grammar.{IsWhite, IsSpace, IsQName, IsAttributes, end, more}
use Rattle.soap_document.specs.Machine.{naming, named, valuing, slashed, no_value, Frame, with_parts, is_name_end}
use Rattle.soap_document.proofs.Accepts.{Accepts, sure, chosen, Found, found_here, found_byte, found_on, found_behind}
use Rattle.soap_document.proofs.Accepts.{found_as, no_longer}
use Rattle.soap_document.proofs.Moves.{At, Tag, tag_at, between_at, chars_at}
use Rattle.soap_document.proofs.TokenFacts.{qname_from}
use Rattle.soap_document.proofs.Values.{value_at, added, tag_read}
use Rattle.soap_document.proofs.Lexing.{Lexes}

white_snoc : (space : List ℕ) (c : ℕ) → IsWhite space → is_space c ≡ true → IsWhite (space ++ c ∷ [])
white_snoc space c w e = all_append (λ b. is_space b ≡ true) space (c ∷ []) w (e, tt)

space_snoc : (space : List ℕ) (c : ℕ) → IsWhite space → is_space c ≡ true → IsSpace (space ++ c ∷ [])
space_snoc [] c w e = record { white = (e, tt); some = λ x. cc }
space_snoc (b ∷ space) c w e = record { white = (w.0, white_snoc space c w.1 e); some = λ x. cc }

value_from : (c : ℕ) (inner meaning : List ℕ) → (nat_eq c 34 || nat_eq c 39) ≡ true → IsInner c inner meaning
    → IsValue (c ∷ (inner ++ c ∷ [])) meaning
value_from c inner meaning e h = elim (or_cases (nat_eq c 34) (nat_eq c 39) e) [
  | inl k ↦ let q = eqb-true c 34 k in rw q (double inner meaning (rw q at h))
  | inr k ↦ let q = eqb-true c 39 k in rw q (single inner meaning (rw q at h))
]

-- how a tag ends, of an element without content or of another
abbrev pub closing : Bool → List ℕ
closing true = codes "/>"
closing false = codes ">"

-- behind a tag of this name with these attributes
abbrev pub behind_tag : Frame → List Frame → List ℕ → List Attribute × Bool → At
behind_tag top below name (attributes, true) at =
    chars_at (with_parts top (child (element name attributes at at none) none)) below [] [] at
behind_tag top below name (attributes, false) at =
    chars_at (record { name = name; attributes = attributes; start = at; parts = none }) (top ∷ below) [] [] at

-- what is left of a tag behind these attributes, up to its end
pub record Attributes (before : List Attribute) (x : List Attribute × Bool) (bytes : List ℕ) : Type 0 where
  pub body : List ℕ
  pub attributes : List Attribute
  pub there : bytes ≡ body ++ closing x.1
  pub is : IsAttributes body attributes
  pub all : x.0 ≡ before ++ attributes

no_more : (before : List Attribute) (space bytes : List ℕ) (hollow : Bool) → IsWhite space
    → bytes ≡ space ++ closing hollow → Attributes before (before, hollow) bytes
no_more before space bytes hollow w e = record {
  body = space;
  attributes = [];
  there = e;
  is = end space w;
  all = sym (append-nil before);
}

-- a value behind the name of an attribute
record IsValued (value bytes : List ℕ) : Type 0 where
  left : List ℕ
  right : List ℕ
  quoted : List ℕ
  there : bytes ≡ left ++ (codes "=" ++ (right ++ quoted))
  white_left : IsWhite left
  white_right : IsWhite right
  is : IsValue quoted value

one_more : (before : List Attribute) (space name value front valued rest : List ℕ) (x : List Attribute × Bool)
    → IsSpace space → (front ≡ name) × IsQName name → IsValued value valued
    → Attributes (before ++ record { name = name; value = value } ∷ []) x rest
    → Attributes before x (space ++ (front ++ (valued ++ rest)))
one_more before space name value front valued rest x s n v r = record {
  body = space ++ (name ++ (v.left ++ (codes "=" ++ (v.right ++ (v.quoted ++ r.body)))));
  attributes = record { name = name; value = value } ∷ r.attributes;
  there = rw (n.0, v.there, r.there) (simp append_assoc);
  is = more space name v.left v.right v.quoted value r.body r.attributes s n.1 v.white_left v.white_right v.is r.is;
  all = r.all ∙ append_assoc before (record { name = name; value = value } ∷ []) r.attributes;
}

module _ (tag : Tag) (u : Element) where
  abbrev Behind : List Attribute × Bool → ℕ → List ℕ → Type 0
  Behind x at rest = Accepts (behind_tag tag.top tag.below tag.name x at) rest u

  module _ (before : List Attribute) where
    -- ---- the parts of an attribute

    abbrev named_at : List ℕ → At
    named_at name = tag_at named tag before name no_value []

    abbrev valuing_at : List ℕ → At
    valuing_at name = tag_at valuing tag before name no_value []

    name_found : (b : ℕ) (name : List ℕ) (at : ℕ) (bytes : List ℕ)
        → Accepts (tag_at naming tag before [] no_value (b ∷ name) at) bytes u
        → Found (λ x front. (front ≡ x) × IsQName x) (λ x p rest. Accepts (named_at x p) rest u) (b ∷ name) at bytes
    name_found b name at [] h = cc
    name_found b name at (c ∷ bytes) h = elim (chosen (is_name_end c) _ _ bytes u h) [
      | inl k ↦
          let p = sure _ _ _ bytes u k.1 refl in
          found_here (b ∷ name) (refl, qname_from (b ∷ name) p.0) p.1
      | inr k ↦ found_on (name_found b (name ++ c ∷ []) (at + 1) bytes k.1)
    ]

    module _ (lex : Lexes) (name : List ℕ) where
      abbrev Valued : List ℕ → ℕ → List ℕ → Type 0
      Valued value at rest = Accepts (between_at false tag (added tag before name value) at) rest u

      -- behind =, before which this white space stands
      abbrev QuotedFound : List ℕ → List ℕ → ℕ → List ℕ → Type 0
      QuotedFound left right at bytes =
          Found (λ value front. IsValued value (left ++ front)) Valued (61 ∷ right) at bytes

      quoted_at : (left right : List ℕ) (c : ℕ) (bytes : List ℕ) (at : ℕ) → IsWhite left → IsWhite right
          → (nat_eq c 34 || nat_eq c 39) ≡ true → Accepts (value_at tag before name (begun c []) (at + 1)) bytes u
          → QuotedFound left right at (c ∷ bytes)
      quoted_at left right c bytes at w x e h =
          let r = tag_read tag before name u (begun c []) (at + 1) bytes refl h in
          let v = lex.value_found c bytes [] r.meaning r.rest r.is in
          record {
            meaning = r.meaning;
            front = c ∷ (v.0 ++ c ∷ []);
            rest = r.rest;
            there = ap (λ (x : List ℕ). c ∷ x) (v.2 ∙ sym (append_assoc v.0 (c ∷ []) r.rest));
            is = record {
              left = left;
              right = right;
              quoted = c ∷ (v.0 ++ c ∷ []);
              there = refl;
              white_left = w;
              white_right = x;
              is = value_from c v.0 r.meaning e (subst (IsInner c v.0) (sym v.4) v.3);
            };
            later = subst (λ p. Valued r.meaning p r.rest) (omega (
              arith,
              r.so_far,
              ap length v.2,
              length-append v.0 (c ∷ r.rest),
              length-append v.0 (c ∷ []),
            )) r.later;
          }

      quoted_found : (left right : List ℕ) (at : ℕ) (bytes : List ℕ) → IsWhite left → IsWhite right
          → Accepts (valuing_at name at) bytes u → QuotedFound left right at bytes
      quoted_found left right at [] w x h = cc
      quoted_found left right at (c ∷ bytes) w x h = elim (chosen (is_space c) _ _ bytes u h) [
        | inl k ↦ found_on (quoted_found left (right ++ c ∷ []) (at + 1) bytes w (white_snoc right c x k.0) k.1)
        | inr k ↦ let p = sure _ _ _ bytes u k.1 refl in quoted_at left right c bytes at w x p.0 p.1
      ]

      -- behind the name, and this white space
      valued_found : (left : List ℕ) (at : ℕ) (bytes : List ℕ) → IsWhite left → Accepts (named_at name at) bytes u
          → Found IsValued Valued left at bytes
      valued_found left at [] w h = cc
      valued_found left at (c ∷ bytes) w h = elim (chosen (is_space c) _ _ bytes u h) [
        | inl k ↦ found_on (valued_found (left ++ c ∷ []) (at + 1) bytes (white_snoc left c w k.0) k.1)
        | inr k ↦
            let p = sure (nat_eq c 61) _ _ bytes u k.1 refl in
            let q = found_on {token = []} {at = at} (quoted_found left [] (at + 1) bytes w tt p.1) in
            rw (eqb-true c 61 p.0) (found_as q q.meaning q.is q.later)
      ]

    -- ---- where an attribute may follow

    slash_found : (space : List ℕ) (at : ℕ) (bytes : List ℕ) → IsWhite space
        → Accepts (tag_at slashed tag before [] no_value [] at) bytes u
        → Found (Attributes before) Behind (space ++ 47 ∷ []) at bytes
    slash_found space at [] w h = cc
    slash_found space at (c ∷ bytes) w h =
        let p = sure _ _ _ bytes u h refl in
        found_byte (before, true) (no_more before space _ true w (
        ap (λ k. (space ++ 47 ∷ []) ++ k ∷ []) (eqb-true c 62 p.0) ∙ append_assoc space (47 ∷ []) (62 ∷ [])
        )) p.1

    -- white space, or the end of the tag
    tagging_found : (space : List ℕ) (at c : ℕ) (bytes : List ℕ) → IsWhite space
        → Accepts (between_at false tag before at) (c ∷ bytes) u
        → ((is_space c ≡ true) × Accepts (between_at true tag before (at + 1)) bytes u)
        ⊎ Found (Attributes before) Behind space at (c ∷ bytes)
    tagging_found space at c bytes w h = elim (chosen (is_space c) _ _ bytes u h) [
      | inl k ↦ inl k
      | inr k ↦ elim (chosen (nat_eq c 62) _ _ bytes u k.1) [
        | inl j ↦ inr (found_byte (before, false) (no_more before space _ false w
            (ap (λ k. space ++ k ∷ []) (eqb-true c 62 j.0))) j.1)
        | inr j ↦
            let p = sure (nat_eq c 47) _ _ bytes u j.1 refl in
            inr (rw (eqb-true c 47 p.0) (found_on (slash_found space (at + 1) bytes w p.1)))
      ]
    ]

  abbrev Recur : ℕ → Type 0
  Recur fuel = (before : List Attribute) (at : ℕ) (bytes : List ℕ) → length bytes ≤ fuel
      → Accepts (between_at false tag before at) bytes u → Found (Attributes before) Behind [] at bytes

  module _ (lex : Lexes) (fuel : ℕ) (recur : Recur fuel) (before : List Attribute) where
    attribute_found : (space : List ℕ) (at c : ℕ) (bytes : List ℕ) → IsSpace space → length bytes ≤ fuel
        → Accepts (tag_at naming tag before [] no_value (c ∷ []) (at + 1)) bytes u
        → Found (Attributes before) Behind space at (c ∷ bytes)
    attribute_found space at c bytes s short h =
        let n0 = name_found before c [] (at + 1) bytes h in
        let n = found_on {token = []} {at = at} n0 in
        let v = valued_found before lex n.meaning [] (at + length n.front) n.rest tt n.later in
        let r = recur (added tag before n.meaning v.meaning) (at + length n.front + length v.front) v.rest (omega (
          arith,
          no_longer n0,
          no_longer v,
        )) v.later in
        let all = found_behind n.front n.there (found_behind v.front v.there r) in
        found_as all r.meaning (one_more before space n.meaning v.meaning n.front v.front r.front r.meaning s
        n.is v.is r.is) all.later

    spaced_found : (space : List ℕ) (at : ℕ) (bytes : List ℕ) → IsSpace space → length bytes ≤ suc fuel
        → Accepts (between_at true tag before at) bytes u → Found (Attributes before) Behind space at bytes
    spaced_found space at [] s short h = cc
    spaced_found space at (c ∷ bytes) s short h = elim (chosen (is_name_end c) _ _ bytes u h) [
      | inl k ↦ elim (tagging_found before space at c bytes s.white k.1) [
        | inl j ↦ found_on (spaced_found (space ++ c ∷ []) (at + 1) bytes
            (space_snoc space c s.white j.0) (omega arith) j.1)
        | inr f ↦ f
      ]
      | inr k ↦ attribute_found space at c bytes s (omega arith) k.1
    ]

  pub attributes_found : (lex : Lexes) → (fuel : ℕ) → Recur fuel
  attributes_found lex fuel before at [] short h = cc
  attributes_found lex zero before at (c ∷ bytes) short h = absurd (omega arith)
  attributes_found lex (suc fuel) before at (c ∷ bytes) short h =
      elim (tagging_found before [] at c bytes tt h) [
        | inl k ↦ found_on (spaced_found lex fuel (attributes_found lex fuel) before (c ∷ []) (at + 1)
            bytes (space_snoc [] c tt k.0) (omega arith) k.1)
        | inr f ↦ f
      ]
