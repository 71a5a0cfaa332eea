-- The reader takes comments outside of the root as the grammar has them.
use Rattle.std.proofs.Common.{◌≡◌, ℕ, ◌+◌, List, [], ◌∷◌, ◌++◌, Bool, true, false, None, length, codes, nat_eq, refl}
use Rattle.std.proofs.Common.{sym, ap, ap₂, ◌∙◌, arith, append_assoc, append-nil, length-append}
use Rattle.std.proofs.lemmas.Bool.{eqb-true}
use Rattle.soap_lex.specs.Text.{IsComment}
use Rattle.soap_document.specs.Machine.{commenting, Frame, step, run}
use Rattle.soap_lex.specs.Tests.{without}
use Rattle.soap_document.proofs.Moves.{At, Moves, place_nil, place_one, plain_at, chars_at, less_at}
use Rattle.soap_lex.specs.Ends.{without-append, IsOpen, IsOpen-tail}
use Rattle.soap_document.proofs.Lexing.{Lexes}

module _ (fresh : Bool) (markup : ℕ) (top : Frame) (below : List Frame) (text : List ℕ) where
  abbrev in_comment : List ℕ → At
  in_comment token = plain_at commenting fresh markup top below text token

  comment_step : (token : List ℕ) (c : ℕ) (b : Bool) (at : ℕ) → nat_eq c 62 ≡ b → (c ≡ 62
      → without (codes "--") token ≡ None) → step (in_comment token at) c ≡ in_comment (token ++ c ∷ []) (at + 1)
  comment_step token c true at e h = let same = eqb-true c 62 e in rw (e, h same) (ap (λ x. in_comment (token ++ x ∷
      []) (at + 1)) (sym same))
  comment_step token c false at e h = rw e

  comment_run : (token bytes : List ℕ) (at : ℕ) → IsOpen (codes "--") token bytes
      → Moves at bytes (in_comment token) (in_comment (token ++ bytes))
  comment_run token [] at h rest =
      ap₂ (λ (p : ℕ) (t : List ℕ). run (in_comment t p) rest) (place_nil at) (sym (append-nil token))
  comment_run token (c ∷ bytes) at h rest =
      let here : c ≡ 62 → without (codes "--") token ≡ None =
      λ e. ap (without (codes "--")) (sym (append-nil token)) ∙ h [] bytes (ap (λ x. x ∷ bytes) e) in
      ap (λ x. run x (bytes ++ rest)) (comment_step token c (nat_eq c 62) at refl here)
      ∙ comment_run (token ++ c ∷ []) bytes (at + 1) (IsOpen-tail (codes "--") token c bytes h) rest
      ∙ ap₂ (λ (p : ℕ) (t : List ℕ). run (in_comment t p) rest) (place_one at c bytes) (append_assoc token (c ∷
      []) bytes)

  -- behind the < of a comment, up to its end
  pub comment_moves : (lex : Lexes) → (bytes : List ℕ) (at : ℕ) → IsComment bytes
      → Moves at (codes "!--" ++ (bytes ++ codes "-->")) (less_at fresh markup top below text []) (chars_at top below
      text [])
  comment_moves lex bytes at h rest =
      let token = bytes ++ codes "--" in
      let place = at + 1 + 1 + 1 + length token in
      let grouped : (bytes ++ codes "-->") ++ rest ≡ token ++ 62 ∷ rest = simp append_assoc in
      let last : step (in_comment token place) 62 ≡ chars_at top below text [] (place + 1) =
      rw (without-append (codes "--") bytes, (lex.comment_test bytes).1 h) in
      ap (run (in_comment [] (at + 1 + 1 + 1))) grouped
      ∙ comment_run [] token (at + 1 + 1 + 1) (λ a b e. lex.comment_end bytes a b h e) (62 ∷ rest)
      ∙ ap (λ x. run x rest) last ∙ ap (λ p. run (chars_at top below text [] p) rest)
      (omega (arith, length-append bytes (codes "--"), length-append bytes (codes "-->")))
