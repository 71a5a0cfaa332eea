-- Comments outside of the root that the reader took are those of the grammar.
use Rattle.std.proofs.Common.{◌≡◌, ℕ, ◌+◌, inl, inr, List, [], ◌∷◌, ◌++◌, Bool, nat_eq, Option, Some, None, codes, refl}
use Rattle.std.proofs.Common.{length, ap, ap₂, ◌∙◌, append_assoc}
use Rattle.std.specs.Str.{bytes_eq}
use Rattle.std.proofs.lemmas.Bool.{eqb-true}
use Rattle.soap_lex.specs.Text.{IsComment}
use Rattle.soap_document.specs.Tree.{Element}
use Rattle.soap_document.specs.Machine.{marking, commenting, Frame, counted, at_commenting}
use Rattle.soap_lex.specs.Tests.{without, is_comment}
use Rattle.soap_document.proofs.Accepts.{Accepts, sure, chosen, Found, found_byte, found_on, found_behind, found_as}
use Rattle.soap_document.proofs.Moves.{At, plain_at, chars_at}
use Rattle.soap_lex.specs.Ends.{without_from}
use Rattle.soap_lex.specs.Facts.{same}
use Rattle.soap_document.proofs.Lexing.{Lexes}

-- a comment behind its first bytes
abbrev pub HasComment : List ℕ → List ℕ → List ℕ → Type 0
HasComment front inner bytes = (bytes ≡ front ++ (inner ++ codes "-->")) × IsComment inner

module _ (fresh : Bool) (markup : ℕ) (top : Frame) (below : List Frame) (text : List ℕ) (u : Element)
    (lex : Lexes) where
  abbrev in_comment : List ℕ → At
  in_comment token = plain_at commenting fresh markup top below text token

  abbrev marked : List ℕ → At
  marked token = plain_at marking fresh markup top below text token

  abbrev Behind : List ℕ → ℕ → List ℕ → Type 0
  Behind inner at rest = Accepts (chars_at top below text [] at) rest u

  comment_end : (at : ℕ) (token rest : List ℕ) (o : Option (List ℕ)) → without (codes "--") token ≡ o
      → (Accepts (in_comment (token ++ 62 ∷ []) (at + 1)) rest u → Found (HasComment []) Behind token at (62 ∷ rest))
      → Accepts (counted (at_commenting (in_comment token at) o)) rest u
      → Found (HasComment []) Behind token at (62 ∷ rest)
  comment_end at token rest None e on h = on h
  comment_end at token rest (Some inner) e on h =
      let p = sure (is_comment inner) _ _ rest u h refl in
      found_byte inner (
        ap (λ (x : List ℕ). x ++ 62 ∷ []) (without_from (codes "--") token inner e)
            ∙ append_assoc inner (codes "--") (62 ∷ []),
        (lex.comment_test inner).0 p.0,
      ) p.1

  comment_found : (token : List ℕ) (at : ℕ) (bytes : List ℕ) → Accepts (in_comment token at) bytes u
      → Found (HasComment []) Behind token at bytes
  comment_found token at [] h = cc
  comment_found token at (c ∷ bytes) h =
      let on = λ (d : ℕ) (k : Accepts (in_comment (token ++ d ∷ []) (at + 1)) bytes u).
      found_on {P = HasComment []} {K = Behind} {token = token} {at = at} (comment_found (token ++ d ∷ []) (at + 1)
      bytes k) in
      elim (chosen (nat_eq c 62) _ _ bytes u h) [
        | inl k ↦ rw (eqb-true c 62 k.0) (comment_end at token bytes (without (codes "--") token) refl (on 62) k.1)
        | inr k ↦ on c k.1
      ]

  -- behind <!, of which these bytes were read
  dashes_found : (token : List ℕ) (at : ℕ) (bytes : List ℕ) → Accepts (marked token at) bytes u
      → Found (λ (x : List ℕ) (front : List ℕ). front ≡ codes "<!--") (λ x p rest. Accepts (in_comment [] p) rest u)
      (60 ∷ 33 ∷ token) at bytes
  dashes_found token at [] h = cc
  dashes_found token at (c ∷ bytes) h =
      let t : List ℕ = token ++ c ∷ [] in
      elim (chosen (bytes_eq t (codes "-")) _ _ bytes u h) [
        | inl k ↦ found_on (dashes_found t (at + 1) bytes k.1)
        | inr k ↦
            let p = sure (bytes_eq t (codes "--")) _ _ bytes u k.1 refl in
            found_byte [] (ap (λ (x : List ℕ). 60 ∷ 33 ∷ x) (same t (codes "--") p.0)) p.1
      ]

  -- behind <!, at this place
  pub marked_found : (at : ℕ) (bytes : List ℕ) → Accepts (marked [] at) bytes u
      → Found (HasComment (codes "<!--")) Behind (codes "<!") at bytes
  marked_found at bytes h =
      let d = dashes_found [] at bytes h in
      let c = comment_found [] (at + length d.front) d.rest d.later in
      let both = found_behind d.front d.there c in
      found_as both c.meaning (ap₂ (λ (x y : List ℕ). x ++ y) d.is c.is.0, c.is.1) both.later
