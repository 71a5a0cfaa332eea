-- What the reader answers is the tree of a document.
use Rattle.std.proofs.Common.{◌≡◌, ℕ, suc, ◌+◌, ◌<◌, ◌⊎◌, inl, inr, List, [], ◌∷◌, ◌++◌, Bool, true, false, ◌&&◌, ◌||◌}
use Rattle.std.proofs.Common.{nat_eq, cond, Option, Some, None, length, codes, refl, sym, ap, subst, ◌∙◌, arith}
use Rattle.std.proofs.Common.{append_assoc, append-nil}
use Prim.Native.Nat.{zero}
use Rattle.std.proofs.lemmas.Bool.{eqb-true, and_parts, or_cases, true≢false}
use Rattle.xml_chars.specs.Classes.{is_space}
use Rattle.soap_document.specs.Tree.{Element, none, child}
use Rattle.soap_document.specs.Declaration.{is_declaration}
use Rattle.soap_document.specs.Grammar.{IsWhite, IsMisc, white, comment, IsMark, unmarked, marked, IsDeclaration}
use Rattle.soap_document.specs.Grammar.{without as undeclared, IsElement, IsDocument, document}
use Rattle.soap_document.specs.Machine.{beginning, declaring, Frame, run, start, nothing_open, root_of, only_child}
use Rattle.soap_document.specs.Machine.{is_mark, with_parts}
use Rattle.soap_document.specs.Tokens.{is_white}
use Rattle.soap_document.proofs.Accepts.{Accepts, sure, chosen, Found, found_here, found_byte, found_on, found_behind}
use Rattle.soap_document.proofs.Accepts.{found_as, no_longer}
use Rattle.soap_document.proofs.Declarations.{declaration_from}
use Rattle.soap_document.proofs.FoundElements.{DeclaringFound, less_found, TagFound, element_from, content_found}
use Rattle.soap_document.proofs.FoundComments.{HasComment, marked_found}
use Rattle.soap_document.proofs.Moves.{plain_at, chars_at, less_at}
use Rattle.soap_document.proofs.TokenFacts.{white_from}
use Rattle.soap_lex.specs.Facts.{same}
use Rattle.soap_document.proofs.Lexing.{Lexes}

misc_more : (front inner rest : List ℕ) → HasComment (codes "<!--") inner front → IsMisc rest → IsMisc (front ++ rest)
misc_more front inner rest c m = rw c.0 (simp append_assoc (comment [] inner rest tt c.1 m))

misc_white : (space rest : List ℕ) → IsWhite space → IsMisc rest → IsMisc (space ++ rest)
misc_white [] rest w m = m
misc_white (c ∷ space) rest w m = one c (space ++ rest) w.0 (misc_white space rest w.1 m)
  where
    one : (c : ℕ) (bytes : List ℕ) → is_space c ≡ true → IsMisc bytes → IsMisc (c ∷ bytes)
    one c bytes e (white space w) = white (c ∷ space) (e, w)
    one c bytes e (comment space inner rest w i m) = comment (c ∷ space) inner rest (e, w) i m

mark_from : (bytes : List ℕ) → is_mark bytes ≡ true → IsMark bytes
mark_from [] e = unmarked
mark_from (b ∷ bytes) e = subst IsMark (sym (same (b ∷ bytes) (0xEF ∷ 0xBB ∷ 0xBF ∷ []) e)) marked

module _ (u : Element) (lex : Lexes) where
  -- ---- outside of the root

  module _ (top : Frame) where
    abbrev Outside : ℕ → List ℕ → Type 0
    Outside at bytes = Accepts (chars_at top [] [] [] at) bytes u

    -- white space and comments, and then the end of the bytes or a tag
    abbrev MiscFound : List ℕ → ℕ → List ℕ → Type 0
    MiscFound token at bytes = Found (λ (y : List ℕ) front. IsMisc front) (λ y p rest. ((rest ≡ []) ×
        (only_child top.parts ≡ Some u)) ⊎ TagFound top [] [] u [] p rest) token at bytes

    abbrev RecurMisc : ℕ → Type 0
    RecurMisc fuel = (at : ℕ) (bytes : List ℕ) → length bytes < fuel → Outside at bytes → MiscFound [] at bytes

    -- a declaration, or a comment or a tag
    less_found_misc : (fuel : ℕ) → RecurMisc fuel → (fresh : Bool) (markup at : ℕ) (bytes : List ℕ)
        → length bytes < fuel → Accepts (less_at fresh markup top [] [] [] (at + 1)) bytes u
        → DeclaringFound fresh markup top [] [] u (at + 1) bytes ⊎ MiscFound [] at (60 ∷ bytes)
    less_found_misc fuel recur fresh markup at bytes short h =
        elim (less_found fresh markup top [] [] u lex (at + 1) bytes h) [
          | inl k ↦ absurd (true≢false k.2)
          | inr (inl k) ↦
              let c0 = marked_found fresh markup top [] [] u lex (at + 1 + 1) k.0 k.2 in
              let c = found_on {token = []} {at = at} (found_on {token = codes "<"} {at = at + 1} c0) in
              let r = recur (at + length c.front) c.rest (omega (arith, no_longer c0, ap length k.1)) c.later in
              let all = found_behind c.front c.there r in
              inr (rw k.1 (found_as all [] (misc_more c.front c.meaning r.front c.is r.is) all.later))
          | inr (inr (inl k)) ↦ inl k
          | inr (inr (inr k)) ↦ inr (found_here [] (white [] tt) (inr (found_on k)))
        ]

    -- behind white space
    outer_found : (fuel : ℕ) → RecurMisc fuel → (token : List ℕ) (at : ℕ) (bytes : List ℕ) → length bytes < suc fuel
        → Accepts (chars_at top [] [] token at) bytes u → MiscFound token at bytes
    outer_found fuel recur token at [] short h =
        let e = ended (is_white token) (only_child top.parts) h in
        found_here [] (white token (white_from token e.0)) (inl (refl, e.1))
      where
        ended : (t : Bool) (o : Option Element) → cond (true && (true && t)) o None ≡ Some u
            → (t ≡ true) × (o ≡ Some u)
        ended true o h = (refl, h)
        ended false o h = cc
    outer_found fuel recur token at (c ∷ bytes) short h = elim (chosen (nat_eq c 60) _ _ bytes u h) [
      | inl k ↦
          let p = sure (is_white token && nat_eq c 60) _ _ bytes u k.1 refl in
          elim (less_found_misc fuel recur false at at bytes (omega arith) p.1) [
            | inl d ↦ absurd (true≢false (sym d.2))
            | inr m ↦ rw (eqb-true c 60 k.0) (found_as m [] (misc_white token m.front (white_from token (and_parts
                (is_white token) (nat_eq c 60) p.0).0) m.is) m.later)
          ]
      | inr k ↦ found_on (outer_found fuel recur (token ++ c ∷ []) (at + 1) bytes (omega arith) k.1)
    ]

    misc_found : (fuel : ℕ) → RecurMisc fuel
    misc_found zero at bytes short h = absurd (omega arith)
    misc_found (suc fuel) at bytes short h = outer_found fuel (misc_found fuel) [] at bytes short h

  -- ---- the root, and what follows it

  after_found : (root : Element) (at : ℕ) (bytes : List ℕ)
      → Accepts (chars_at (with_parts nothing_open (child root none)) [] [] [] at) bytes u → IsMisc bytes × (root ≡ u)
  after_found root at bytes h =
      let m = misc_found (with_parts nothing_open (child root none)) (suc (length bytes)) at bytes (omega arith) h in
      elim m.later [
        | inl k ↦ (
          subst IsMisc (sym (m.there ∙ ap (λ (x : List ℕ). m.front ++ x) k.0 ∙ append-nil m.front)) m.is,
          only_one root k.1,
        )
        | inr k ↦ absurd (true≢false (sym k.is.has_room))
      ]
    where
      only_one : (root : Element) → only_child (child root none) ≡ Some u → root ≡ u
      only_one root e = cc

  -- the root, and Misc behind it
  abbrev RootFound : ℕ → List ℕ → Type 0
  RootFound at bytes = Found (λ (y : List ℕ) front. IsElement 0 at front u) (λ y p rest. IsMisc rest) [] at bytes

  -- the same behind Misc
  abbrev BodyFound : ℕ → List ℕ → Type 0
  BodyFound at bytes = Found (λ (y : List ℕ) front. IsMisc front) (λ y p rest. RootFound p rest) [] at bytes

  -- the same behind a declaration, or none
  abbrev PrologFound : ℕ → List ℕ → Type 0
  PrologFound at bytes = Found (λ (y : List ℕ) front. IsDeclaration front) (λ y p rest. BodyFound p rest) [] at bytes

  root_from : (at : ℕ) (bytes : List ℕ) → TagFound nothing_open [] [] u [] at bytes → RootFound at bytes
  root_from at bytes t =
      let e = element_from u nothing_open [] [] (length bytes) (content_found u lex (length bytes)) at bytes t (omega
      arith) in
      let a = after_found e.meaning (at + length e.front) e.rest e.later in
      found_as e [] (subst (IsElement 0 at e.front) a.1 e.is) a.0

  body_from : (at : ℕ) (bytes : List ℕ) → MiscFound nothing_open [] at bytes → BodyFound at bytes
  body_from at bytes m = found_as m [] m.is (elim m.later [
    | inl k ↦ cc (k.1)
    | inr t ↦ root_from (at + length m.front) m.rest t
  ])

  body_found : (at : ℕ) (bytes : List ℕ) → Outside nothing_open at bytes → BodyFound at bytes
  body_found at bytes h =
      body_from at bytes (misc_found nothing_open (suc (length bytes)) at bytes (omega arith) h)

  -- ---- from the beginning

  declaration_found : (markup : ℕ) (token : List ℕ) (at : ℕ) (bytes : List ℕ)
      → Accepts (plain_at declaring true markup nothing_open [] [] token at) bytes u
      → Found (λ (y : List ℕ) front. IsDeclaration front) (λ y p rest. BodyFound p rest) (60 ∷ 63 ∷ token) at bytes
  declaration_found markup token at [] h = cc
  declaration_found markup token at (c ∷ bytes) h = elim (chosen (nat_eq c 62) _ _ bytes u h) [
    | inl k ↦
        let p = sure (is_declaration token) _ _ bytes u k.1 refl in
        found_byte [] (rw (eqb-true c 62 k.0) (declaration_from token p.0)) (body_found (at + 1)
        bytes p.1)
    | inr k ↦ found_on (declaration_found markup (token ++ c ∷ []) (at + 1) bytes k.1)
  ]

  -- at the first <
  less_prolog : (at : ℕ) (bytes : List ℕ) → Accepts (less_at true at nothing_open [] [] [] (at + 1)) bytes u
      → PrologFound at (60 ∷ bytes)
  less_prolog at bytes h =
      let size = suc (length bytes) in
      elim (less_found_misc nothing_open size (misc_found nothing_open size) true at at bytes (omega arith) h) [
        | inl k ↦ rw k.1 (found_on (found_on (declaration_found at [] (at + 1 + 1) k.0 k.3)))
        | inr m ↦ found_here [] undeclared (body_from at (60 ∷ bytes) m)
      ]

  mark_found : (token : List ℕ) (at : ℕ) (bytes : List ℕ)
      → Accepts (plain_at beginning true 0 nothing_open [] [] token at) bytes u
      → Found (λ (y : List ℕ) front. IsMark front) (λ y p rest. PrologFound p rest) token at bytes
  mark_found token at [] h = cc
  mark_found token at (c ∷ bytes) h = elim (chosen (is_space c || nat_eq c 60) _ _ bytes u h) [
    | inl k ↦
        let p = sure (is_mark token) _ _ bytes u k.1 refl in
        found_here [] (mark_from token p.0) (elim (chosen (nat_eq c 60) _ _ bytes u p.1) [
          | inl j ↦ rw (eqb-true c 60 j.0) (less_prolog at bytes j.1)
          | inr j ↦ elim (or_cases (is_space c) (nat_eq c 60) k.0) [
            | inl e ↦
                let b = body_found (at + 1) bytes j.1 in
                let all = found_behind (c ∷ []) refl b in
                found_here [] undeclared (found_as all [] (misc_white (c ∷ []) b.front (e, tt)
                b.is) all.later)
            | inr e ↦ absurd (true≢false (sym e ∙ j.0))
          ]
        ])
    | inr k ↦ found_on (mark_found (token ++ c ∷ []) (at + 1) bytes k.1)
  ]

pub document_found : (lex : Lexes) → (bytes : List ℕ) (u : Element) → root_of (run start bytes) ≡ Some u
    → IsDocument bytes u
document_found lex bytes u h =
    let m = mark_found u lex [] 0 bytes h in
    let p = m.later in
    let b = p.later in
    let r = b.later in
    rw (m.there, p.there, b.there, r.there) (document m.front p.front b.front r.front u r.rest m.is p.is b.is
    (subst (λ q. IsElement 0 q r.front u) (omega arith) r.is) r.later)
