-- Elements and content that the reader took are those of the grammar.
use Rattle.std.proofs.Common.{◌≡◌, ℕ, suc, ◌+◌, ◌≤◌, ◌<◌, ◌⊎◌, inl, inr, List, [], ◌∷◌, ◌++◌, Bool, true, false, not}
use Rattle.std.proofs.Common.{◌&&◌, nat_eq, length, codes, refl, sym, ap, ap₂, subst, ◌∙◌, arith, append_assoc}
use Rattle.std.proofs.Common.{length-append}
use Prim.Native.Nat.{zero}
use Rattle.std.proofs.lemmas.Bool.{eqb-true, ltb-true, and_parts, true≢false}
use Rattle.soap_document.specs.Tree.{Attribute, Element, element, Parts, none, child, onto}
use Rattle.soap_document.specs.Grammar.{IsWhite, IsQName, IsAttributes, IsElement, full, empty, IsContent}
use Rattle.soap_document.specs.Grammar.{last as last_text, more as then_child, max_depth, end_tag}
use Rattle.soap_document.specs.Machine.{ending, marking, declaring, Frame, with_parts, has_room, is_end, is_name_end}
use Rattle.soap_document.specs.Tokens.{is_qname}
use Rattle.soap_lex.specs.Tests.{is_nil}
use Rattle.soap_document.proofs.Accepts.{Accepts, sure, chosen, Found, found_byte, found_on, found_behind, found_as}
use Rattle.soap_document.proofs.FoundTags.{closing, behind_tag, attributes_found}
use Rattle.soap_document.proofs.Moves.{plain_at, chars_at, less_at}
use Rattle.soap_document.proofs.OnlyElements.{grown}
use Rattle.soap_document.proofs.TokenFacts.{qname_from, end_from}
use Rattle.soap_document.proofs.Words.{text_found}
use Rattle.soap_document.proofs.Lexing.{Lexes}

-- a start tag, or an empty-element tag
pub record IsTag (room : Bool) (x : List ℕ × (List Attribute × Bool)) (bytes : List ℕ) : Type 0 where
  pub body : List ℕ
  pub there : bytes ≡ codes "<" ++ (x.0 ++ (body ++ closing x.1.1))
  pub name : IsQName x.0
  pub is : IsAttributes body x.1.0
  pub has_room : room ≡ true

module _ (top : Frame) (below : List Frame) (x : List ℕ) (u : Element) where
  abbrev Behind : List ℕ × (List Attribute × Bool) → ℕ → List ℕ → Type 0
  Behind y at rest = Accepts (behind_tag (with_parts top (onto x none)) below y.0 y.1 at) rest u

  -- a tag, with its <
  abbrev pub TagFound : List ℕ → ℕ → List ℕ → Type 0
  TagFound token at bytes = Found (IsTag (has_room below top.parts)) Behind token at bytes

-- ---- behind a <

module _ (fresh : Bool) (markup : ℕ) (top : Frame) (below : List Frame) (x : List ℕ) (u : Element) where
  abbrev settled : Frame
  settled = with_parts top (onto x none)

  -- where a declaration begins
  abbrev pub DeclaringFound : ℕ → List ℕ → Type 0
  DeclaringFound at bytes = (rest : List ℕ) × (bytes ≡ 63 ∷ rest) × (fresh ≡ true) × Accepts (plain_at declaring fresh
      markup top below x [] (at + 1)) rest u

  -- what stands behind the <
  abbrev pub LessFound : ℕ → List ℕ → Type 0
  LessFound at bytes =
      ((rest : List ℕ) × (bytes ≡ 47 ∷ rest) × (is_nil below ≡ false) × Accepts (plain_at ending fresh markup settled
      below [] [] (at + 1)) rest u)
      ⊎ ((rest : List ℕ) × (bytes ≡ 33 ∷ rest) × Accepts (plain_at marking fresh markup top below x [] (at + 1)) rest u)
      ⊎ DeclaringFound at bytes
      ⊎ TagFound top below x u (codes "<") at bytes

  module _ (lex : Lexes) where
    tag_found : (b : ℕ) (name : List ℕ) (at : ℕ) (bytes : List ℕ)
        → Accepts (less_at fresh markup top below x (b ∷ name) at) bytes u
        → TagFound top below x u (60 ∷ b ∷ name) at bytes
    tag_found b name at [] h = cc
    tag_found b name at (c ∷ bytes) h = elim (chosen (is_name_end c) _ _ bytes u h) [
      | inl k ↦
          let p = sure (is_qname (b ∷ name) && has_room below top.parts) _ _ bytes u k.1 refl in
          let (passes, room) = and_parts (is_qname (b ∷ name)) (has_room below top.parts) p.0 in
          let a = attributes_found (record {
            fresh = fresh;
            markup = markup;
            top = settled;
            below = below;
            name = b ∷ name;
          }) u lex (length (c ∷ bytes)) [] at (c ∷ bytes) (omega arith) p.1 in
          found_as a (b ∷ name, a.meaning) (record {
            body = a.is.body;
            there = ap (λ (y : List ℕ). 60 ∷ b ∷ (name ++ y)) a.is.there;
            name = qname_from (b ∷ name) passes;
            is = subst (IsAttributes a.is.body) (sym a.is.all) a.is.is;
            has_room = room;
          }) a.later
      | inr k ↦ found_on (tag_found b (name ++ c ∷ []) (at + 1) bytes k.1)
    ]

    pub less_found : (at : ℕ) (bytes : List ℕ) → Accepts (less_at fresh markup top below x [] at) bytes u
        → LessFound at bytes
    less_found at [] h = cc
    less_found at (c ∷ bytes) h = elim (chosen (is_name_end c) _ _ bytes u h) [
      | inl k ↦ elim (chosen (nat_eq c 47 && not (is_nil below)) _ _ bytes u k.1) [
        | inl j ↦
            let (is, inside) = and_parts (nat_eq c 47) (not (is_nil below)) j.0 in
            inl (bytes, ap (λ k. k ∷ bytes) (eqb-true c 47 is), not_true (is_nil below) inside, j.1)
        | inr j ↦ elim (chosen (nat_eq c 33) _ _ bytes u j.1) [
          | inl i ↦ inr (inl (bytes, ap (λ k. k ∷ bytes) (eqb-true c 33 i.0), i.1))
          | inr i ↦
              let p = sure (nat_eq c 63 && fresh) _ _ bytes u i.1 refl in
              let (is, first) = and_parts (nat_eq c 63) fresh p.0 in
              inr (inr (inl (bytes, ap (λ k. k ∷ bytes) (eqb-true c 63 is), first, p.1)))
        ]
      ]
      | inr k ↦ inr (inr (inr (found_on (tag_found c [] (at + 1) bytes k.1))))
    ]
      where
        not_true : (b : Bool) → not b ≡ true → b ≡ false
        not_true true f = cc
        not_true false f = refl

-- ---- elements and content

room_depth : (below : List Frame) (parts : Parts) → has_room below parts ≡ true → length below < max_depth
room_depth [] parts e = omega arith
room_depth (frame ∷ frames) parts e = ltb-true (length (frame ∷ frames)) max_depth e

-- an end tag
abbrev IsEnd : List ℕ → List ℕ → List ℕ → Type 0
IsEnd name space bytes = (bytes ≡ end_tag name space) × IsWhite space

full_from : (depth at : ℕ) (room : Bool) (name : List ℕ) (attributes : List Attribute) (front content tail space : List
    ℕ) (parts : Parts) → depth < max_depth → IsTag room (name, (attributes, false)) front
    → IsContent (suc depth) (at + length front) content parts → IsEnd name space tail
    → IsElement depth at (front ++ (content ++ tail)) (element name attributes (at + length front) (at + length front +
    length content) parts)
full_from depth at room name attributes front content tail space parts deep t c e = rw (e.0, t.there) (full depth at
    name t.body attributes content parts space deep t.name t.is (rw t.there at c) e.1)

element_some : {depth at : ℕ} {bytes : List ℕ} {first : Element} → IsElement depth at bytes first → 1 ≤ length bytes
element_some (full depth at name tag attributes content parts space d q a c w) = omega arith
element_some (empty depth at name tag attributes d q a) = omega arith

module _ (u : Element) where
  -- content up to an end tag
  abbrev pub ContentFound : Frame → Frame → List Frame → ℕ → List ℕ → Type 0
  ContentFound top frame frames at bytes = Found (λ parts front. IsContent (length (frame ∷ frames)) at front parts)
      (λ parts p rest. (inner : List ℕ) × (rest ≡ 60 ∷ 47 ∷ inner) × Accepts (plain_at ending false p (with_parts top
      parts) (frame ∷ frames) [] [] (p + 1 + 1)) inner u) [] at bytes

  abbrev RecurContent : ℕ → Type 0
  RecurContent fuel = (top frame : Frame) (frames : List Frame) (at : ℕ) (bytes : List ℕ) → length bytes ≤ fuel
      → Accepts (chars_at top (frame ∷ frames) [] [] at) bytes u → ContentFound top frame frames at bytes

  end_found : (top frame : Frame) (frames : List Frame) (markup : ℕ) (token : List ℕ) (at : ℕ) (bytes : List ℕ)
      → Accepts (plain_at ending false markup top (frame ∷ frames) [] token at) bytes u
      → Found (IsEnd top.name) (λ space p rest. Accepts (chars_at (with_parts frame (child (element top.name
      top.attributes top.start markup top.parts) none)) frames [] [] p) rest u) (60 ∷ 47 ∷ token) at bytes
  end_found top frame frames markup token at [] h = cc
  end_found top frame frames markup token at (c ∷ bytes) h = elim (chosen (nat_eq c 62) _ _ bytes u h) [
    | inl k ↦
        let p = sure (is_end top.name token) _ _ bytes u k.1 refl in
        let e = end_from top.name token p.0 in
        found_byte e.0 (
          ap₂ (λ (y : List ℕ) (k : ℕ). codes "</" ++ (y ++ k ∷ [])) e.1 (eqb-true c 62 k.0) ∙ simp append_assoc,
          e.2,
        ) p.1
    | inr k ↦ found_on (end_found top frame frames markup (token ++ c ∷ []) (at + 1) bytes k.1)
  ]

  module _ (top : Frame) (below : List Frame) (x : List ℕ) where
    -- an element in which one begins
    abbrev pub ElementFound : ℕ → List ℕ → Type 0
    ElementFound at bytes = Found (λ first front. IsElement (length below) at front first)
        (λ first p rest. Accepts (chars_at (with_parts (with_parts top (onto x none)) (child first none)) below [] [] p)
        rest u) [] at bytes

    element_by : (y : List ℕ × (List Attribute × Bool)) (at fuel : ℕ) (front rest bytes : List ℕ) → RecurContent fuel
        → bytes ≡ front ++ rest → IsTag (has_room below top.parts) y front → length rest ≤ fuel
        → Behind top below x u y (at + length front) rest → ElementFound at bytes
    element_by (name, (attributes, true)) at fuel front rest bytes recur there t short h = record {
      meaning = element name attributes (at + length front) (at + length front) none;
      front = front;
      rest = rest;
      there = there;
      is = rw t.there (empty (length below) at name t.body attributes (room_depth below top.parts t.has_room) t.name
          t.is);
      later = h;
    }
    element_by (name, (attributes, false)) at fuel front rest bytes recur there t short h =
        let settled : Frame = with_parts top (onto x none) in
        let start : ℕ = at + length front in
        let opened : Frame = record { name = name; attributes = attributes; start = start; parts = none } in
        let c = recur opened settled below start rest short h in
        let markup : ℕ = start + length c.front in
        let (inner, is_end_tag, behind) = c.later in
        let done : Frame = with_parts opened c.meaning in
        let e = found_on {token = []} {at = markup} (found_on {token = codes "<"} {at = markup + 1} (end_found done
        settled below markup [] (markup + 1 + 1) inner behind)) in
        let more = found_behind c.front (c.there ∙ ap (λ (y : List ℕ). c.front ++ y) is_end_tag) e in
        let all = found_behind front there more in
        found_as all (element name attributes start markup c.meaning) (full_from (length below) at _ name attributes
        front c.front e.front e.meaning c.meaning (room_depth below top.parts t.has_room) t c.is e.is) all.later

    pub element_from : (fuel : ℕ) → RecurContent fuel → (at : ℕ) (bytes : List ℕ)
        → TagFound top below x u [] at bytes → length bytes ≤ suc fuel → ElementFound at bytes
    element_from fuel recur at bytes t short = element_by t.meaning at fuel t.front t.rest bytes recur t.there t.is
        (omega (arith, ap length t.there, length-append t.front t.rest, ap length t.is.there)) t.later

  pub content_found : (lex : Lexes) → (fuel : ℕ) → RecurContent fuel
  content_found lex zero top frame frames at bytes short h =
      let t = text_found top frame frames u lex bytes at h in
      absurd (omega (arith, ap length t.there, length-append t.front (60 ∷ t.rest)))
  content_found lex (suc fuel) top frame frames at bytes short h =
      let t = text_found top frame frames u lex bytes at h in
      let place : ℕ = at + length t.front in
      let size : length (60 ∷ t.rest) ≤ suc fuel = omega (
        arith,
        ap length t.there,
        length-append t.front (60 ∷ t.rest),
      ) in
      elim (less_found false place top (frame ∷ frames) t.meaning u lex (place + 1) t.rest t.later) [
        | inl k ↦ record {
          meaning = onto t.meaning none;
          front = t.front;
          rest = 60 ∷ t.rest;
          there = t.there;
          is = last_text (length (frame ∷ frames)) at t.front t.meaning t.is;
          later = (k.0, ap (λ (y : List ℕ). 60 ∷ y) k.1, k.3);
        }
        | inr (inl k) ↦ absurd (t.plain_rest k.0 k.1)
        | inr (inr (inl k)) ↦ absurd (true≢false (sym k.2))
        | inr (inr (inr k)) ↦
            let e = element_from top (frame ∷ frames) t.meaning fuel (content_found lex fuel) place (60 ∷ t.rest)
            (found_on k) size in
            let inner = with_parts (with_parts top (onto t.meaning none)) (child e.meaning none) in
            let c = content_found lex fuel inner frame frames (place + length e.front) e.rest (omega (
              arith,
              size,
              ap length e.there,
              length-append e.front e.rest,
              element_some e.is,
            )) e.later in
            let all = found_behind t.front t.there (found_behind e.front e.there c) in
            found_as all (onto t.meaning (child e.meaning c.meaning)) (then_child (length (frame ∷ frames)) at
            t.front t.meaning e.front e.meaning c.front c.meaning t.is e.is c.is) (
              all.later.0,
              all.later.1,
              subst (λ (f : Frame). Accepts (plain_at ending false (at + length all.front) f (frame ∷ frames) [] []
                  (at + length all.front + 1 + 1)) all.later.0 u) (grown top t.meaning e.meaning c.meaning) all.later.2,
            )
      ]
