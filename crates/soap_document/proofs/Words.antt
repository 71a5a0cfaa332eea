-- How the reader of documents reads text within an element: as the machine of text does.
use Rattle.std.proofs.Common.{◌≡◌, ℕ, ◌+◌, ◌-◌, List, [], ◌∷◌, ◌++◌, Bool, true, false, cond, nat_eq, codes}
use Rattle.std.proofs.Common.{Some, length, refl, sym, ap, subst, ◌∙◌, arith, length-append}
use Rattle.std.proofs.lemmas.Bool.{true≢false, false_from_ne_true, cond_both}
use Rattle.soap_lex.specs.Text.{IsText}
use Rattle.soap_lex.specs.TextMachine.{TextMode, chars as in_run, referring, opening, commenting, quoting, refused}
use Rattle.soap_lex.specs.TextMachine.{TextState, begun, stops as text_stops, halts_in, halts, is_less_in, is_less}
use Rattle.soap_lex.specs.TextMachine.{step as text_step, is_refused, to_stop, run as text_run, ended, with_rest}
use Rattle.soap_lex.specs.TextMachine.{text_in as in_mode}
use Rattle.soap_document.specs.Tree.{Element}
use Rattle.soap_document.specs.Machine.{chars, Frame, State, step, run, refuse, counted, after_text, in_less}
use Rattle.soap_document.specs.Machine.{root_of}
use Rattle.soap_document.proofs.Accepts.{Accepts, sure, refused_never}
use Rattle.soap_document.proofs.Moves.{At, Moves, plain_at, less_at}
use Rattle.soap_lex.specs.Facts.{same}
use Rattle.soap_lex.specs.TextMachine.{Takes, stay, on, TextEnds}
use Rattle.soap_document.proofs.Lexing.{Lexes}

-- ---- the machine of text

-- text that was refused is not read on
pub refused_halts : (mode : TextMode) (token : List ℕ) → is_refused mode ≡ true → halts_in mode token ≡ true
refused_halts in_run token e = cc
refused_halts referring token e = cc
refused_halts opening token e = cc
refused_halts commenting token e = cc
refused_halts quoting token e = cc
refused_halts refused token e = refl

-- where a < was read last
less_state : (mode : TextMode) (token text : List ℕ) → is_less_in mode token ≡ true
    → in_mode text mode token ≡ in_mode text opening (60 ∷ [])
less_state in_run token text e = cc
less_state referring token text e = cc
less_state opening token text e = ap (in_mode text opening) (same token (codes "<") e)
less_state commenting token text e = cc
less_state quoting token text e = cc
less_state refused token text e = cc

-- it goes over bytes to a state, and leaves the others
abbrev Goes : TextState → List ℕ → TextState × List ℕ → Type 0
Goes v bytes x = (front : List ℕ) × Takes v front x.0 × (bytes ≡ front ++ x.1)

one_more : (v : TextState) (c : ℕ) (bytes : List ℕ) (x : TextState × List ℕ) → halts v c ≡ false
    → Goes (text_step v c) bytes x → Goes v (c ∷ bytes) x
one_more v c bytes x e r = (c ∷ r.0, on v c r.0 x.0 e r.1, ap (λ (y : List ℕ). c ∷ y) r.2)

stopped : (v : TextState) (bytes : List ℕ) → Goes v bytes (to_stop v bytes)
stopped v [] = ([], stay v, refl)
stopped v (c ∷ bytes) =
    let next = text_step v c in
    cond_both (halts v c) (v, c ∷ bytes) (cond (text_stops v.mode c) (next, bytes) (to_stop next bytes))
    (Goes v (c ∷ bytes)) (λ e. ([], stay v, refl)) (λ e. one_more v c bytes _ e
    (cond_both (text_stops v.mode c) (next, bytes) (to_stop next bytes) (Goes next bytes)
    (λ f. ([], stay next, refl)) (λ f. stopped next bytes)))

-- over all up to a byte before which it halts
abbrev Ends : TextState → List ℕ → TextState × List ℕ → Type 0
Ends v bytes x = Goes v bytes x × ((c : ℕ) (more : List ℕ) → x.1 ≡ c ∷ more → halts x.0 c ≡ true)

run_ends : (v : TextState) (bytes : List ℕ) → Ends v bytes (text_run v bytes)
run_ends v [] = (([], stay v, refl), λ c more f. cc)
run_ends v (c ∷ bytes) =
    let next = text_step v c in
    cond_both (halts v c) (v, c ∷ bytes) (text_run next bytes) (Ends v (c ∷ bytes))
    (λ e. (([], stay v, refl), λ d more f. let k : c ≡ d = cc in subst (λ b. halts v b ≡ true) k e))
    (λ e. let r = run_ends next bytes in (one_more v c bytes (text_run next bytes) e r.0, r.1))

-- ---- within text, all else as it is

pub open_text : (s : State) → is_refused s.words.mode ≡ false → after_text s ≡ s
open_text s e = rw e

pub refused_text : (s : State) → is_refused s.words.mode ≡ true → after_text s ≡ refuse s
refused_text s e = rw e

module _ (base : State) where
  abbrev pub within : TextState → ℕ → State
  within w at = record base { mode = chars; words = w; at = at }

  -- the state behind a byte that was read
  abbrev pub behind : TextState → ℕ → State
  behind w at = after_text (within w at)

  counted_behind : (w : TextState) (at : ℕ) → counted (behind w at) ≡ behind w (at + 1)
  counted_behind w at = grind arith

  text_next : (w : TextState) (at c : ℕ) → halts w c ≡ false → step (within w at) c ≡ behind (text_step w c) (at + 1)
  text_next w at c e =
      let first : step (within w at) c ≡ counted (behind (text_step w c) at) = rw e in
      first ∙ counted_behind (text_step w c) at

  moved : {v w : TextState} {bytes : List ℕ} → Takes v bytes w → (at : ℕ) (rest : List ℕ)
      → run (behind v at) (bytes ++ rest) ≡ run (behind w (at + length bytes)) rest
  moved (stay s) at rest = ap (λ p. run (behind s p) rest) (omega arith)
  moved (on s c bytes w h m) at rest =
      let runs = false_from_ne_true (is_refused s.mode) (λ e. true≢false (sym (refused_halts s.mode (s.token ++ c
      ∷ []) e) ∙ h)) in
      ap (λ x. run x (c ∷ (bytes ++ rest))) (open_text (within s at) runs)
      ∙ ap (λ x. run x (bytes ++ rest)) (text_next s at c h) ∙ moved m (at + 1) rest
      ∙ ap (λ p. run (behind w p) rest) (omega arith)

  pub takes_on : {v w : TextState} {bytes : List ℕ} → Takes v bytes w → is_refused v.mode ≡ false
      → (at : ℕ) (rest : List ℕ) → run (within v at) (bytes ++ rest) ≡ run (behind w (at + length bytes)) rest
  takes_on {v} {bytes = bytes} m e at rest =
      ap (λ x. run x (bytes ++ rest)) (sym (open_text (within v at) e)) ∙ moved m at rest

  goes_on : (v : TextState) (bytes : List ℕ) (x : TextState × List ℕ) (r : Goes v bytes x)
      → is_refused v.mode ≡ false → (at : ℕ) → run (within v at) bytes ≡ run (behind x.0 (at + length r.0)) x.1
  goes_on v bytes x r e at = ap (run (within v at)) r.2 ∙ takes_on r.1 e at x.1

  -- what a piece does, up to the end of a token
  pub fed : (v w : TextState) (bytes rest : List ℕ) (q p : ℕ) → is_refused v.mode ≡ false → to_stop v bytes ≡ (w, rest)
      → p + length rest ≡ q + length bytes → run (within v q) bytes ≡ run (behind w p) rest
  fed v w bytes rest q p runs e place =
      let r = subst (Goes v bytes) e (stopped v bytes) in
      let size : length bytes ≡ length (r.0 ++ rest) = ap length r.2 in
      let here : q + length r.0 ≡ p = omega (arith, place, size, length-append r.0 rest) in
      goes_on v bytes (w, rest) r runs q ∙ ap (λ k. run (behind w k) rest) here

-- ---- where text ends

module _ (top frame : Frame) (frames : List Frame) where
  abbrev below : List Frame
  below = frame ∷ frames

  abbrev pub words_at : TextState → At
  words_at w at = record (plain_at chars false 0 top below [] [] at) { words = w }

  -- ---- what the grammar has

  pub words_move : {v w : TextState} {bytes : List ℕ} → Takes v bytes w → is_refused v.mode ≡ false
      → is_refused w.mode ≡ false → (at : ℕ) → Moves at bytes (words_at v) (words_at w)
  words_move {v} {w} {bytes} m e f at rest =
      takes_on (words_at v at) m e at rest ∙ ap (λ x. run x rest) (open_text (words_at w (at + length bytes)) f)

  -- behind text, a < that no ! follows
  pub words_less : (text meaning bytes : List ℕ) (ends : TextEnds text bytes meaning) (at c : ℕ) (rest : List ℕ)
      → nat_eq c 33 ≡ false
      → run (words_at (in_mode ends.before in_run ends.token) at) (60 ∷ c ∷ rest)
      ≡ run (less_at false at top below (text ++ meaning) [] (at + 1)) (c ∷ rest)
  words_less text meaning bytes ends at c rest e =
      let w : TextState = in_mode (text ++ meaning) opening (60 ∷ []) in
      let first : text_step (in_mode ends.before in_run ends.token) 60 ≡ w =
      rw ends.passes (ap (λ x. in_mode x opening (60 ∷ [])) ends.sum) in
      let halted : halts w c ≡ true = rw e in
      let second : step (words_at w (at + 1)) c
      ≡ step (less_at false (at + 1 - 1) top below (text ++ meaning) [] (at + 1)) c = rw e in
      let place : at + 1 - 1 ≡ at = omega arith in
      ap (λ x. run x (c ∷ rest)) (ap (λ x. counted (after_text (words_at x at))) first) ∙ ap (λ x. run x rest) second
      ∙ ap (λ m. run (less_at false m top below (text ++ meaning) [] (at + 1)) (c ∷ rest)) place

  -- ---- what is read

  module _ (u : Element) where
    -- behind all of a text there is a <
    words_end : (w : TextState) (at : ℕ) (rest : List ℕ) (t : Bool) → is_refused w.mode ≡ t
        → ((c : ℕ) (more : List ℕ) → rest ≡ c ∷ more → halts w c ≡ true) → Accepts (after_text (words_at w at)) rest u
        → (is_less w ≡ true) × Accepts (less_at false (at - 1) top below w.text [] at) rest u
    words_end w at rest true e last h =
        absurd (refused_never (words_at w at) rest u (subst (λ s. Accepts s rest u) (refused_text (words_at w at) e) h))
    words_end w at [] false e last h =
        let none : root_of (words_at w at) ≡ Some u = subst (λ s. Accepts s [] u) (open_text (words_at w at) e) h in
        cc
    words_end w at (c ∷ bytes) false e last h =
        let s : State = words_at w at in
        let next : State = in_less (less_at false (at - 1) top below w.text [] at) c in
        let halted = last c bytes refl in
        let here : step s c ≡ counted (cond (is_less w) next (refuse s)) = rw halted in
        sure (is_less w) next (refuse s) bytes u
        (subst (λ x. Accepts x bytes u) (ap (λ x. step x c) (open_text s e) ∙ here) h) refl

    -- text up to a < that begins no markup of text
    pub record TextFound (bytes : List ℕ) (at : ℕ) : Type 0 where
      pub front : List ℕ
      pub meaning : List ℕ
      pub rest : List ℕ
      pub there : bytes ≡ front ++ 60 ∷ rest
      pub is : IsText front meaning
      pub plain_rest : (after : List ℕ) → rest ≡ 33 ∷ after → ⊥
      pub later : Accepts (less_at false (at + length front) top below meaning [] (at + length front + 1)) rest u

    pub text_found : (lex : Lexes) → (bytes : List ℕ) (at : ℕ) → Accepts (words_at (begun []) at) bytes u
        → TextFound bytes at
    text_found lex bytes at h =
        let x = text_run (begun []) bytes in
        let (r, last) = run_ends (begun []) bytes in
        let (less, k) =
        words_end x.0 (at + length r.0) x.1 (is_refused x.0.mode) refl last
        (ap root_of (sym (goes_on (words_at (begun []) at) (begun []) bytes x r refl at)) ∙ h) in
        let opens : x.0 ≡ in_mode x.0.text opening (60 ∷ []) = less_state x.0.mode x.0.token x.0.text less in
        let v = lex.text_found bytes [] x.0.text (60 ∷ x.1) (ap (λ w. with_rest (ended w) x.1) opens) in
        let sizes : length (r.0 ++ x.1) ≡ length (v.0 ++ 60 ∷ x.1) =
        ap (λ (y : List ℕ). length y) (sym r.2 ∙ v.2.there) in
        let place : at + length r.0 ≡ at + length v.0 + 1 =
        omega (arith, sizes, length-append r.0 x.1, length-append v.0 (60 ∷ x.1)) in
        record {
          front = v.0;
          meaning = x.0.text;
          rest = x.1;
          there = v.2.there;
          is = subst (IsText v.0) (sym v.3) v.2.is;
          plain_rest = λ after f. true≢false (sym (last 33 after f) ∙ ap (λ w. halts w 33) opens);
          later = subst (λ m. Accepts (less_at false m top below x.0.text [] (at + length v.0 + 1)) x.1 u) (omega arith)
              (subst (λ p. Accepts (less_at false (p - 1) top below x.0.text [] p) x.1 u) place k);
        }
