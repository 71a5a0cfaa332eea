-- What feeding a piece of text does, up to the end of a token.
use Rattle.std.proofs.Common.{◌≡◌, ℕ, suc, ◌+◌, ◌<◌, List, [], ◌∷◌, ◌++◌, Bool, true, false, Some, None, Option}
use Rattle.std.proofs.Common.{length, get_or, take, drop, refl, sym, ap, subst, ◌∙◌, arith, append_assoc, append-nil}
use Prim.Native.Nat.{zero}
use Rattle.memchr.specs.Find.{IsFirstByte}
use Rattle.soap_lex.specs.TextMachine.{TextMode, chars, referring, opening, commenting, quoting, refused, TextState}
use Rattle.soap_lex.specs.TextMachine.{stops, halts_in, halts, longer, after_token, to_stop, run}
use Rattle.soap_lex.proofs.TextRead.{NoStops, no_halt}
use Rattle.soap_lex.specs.First.{all_fail, around, front_fails}
use Rattle.soap_lex.specs.TextStops.{still}

-- where nothing more is read, each byte ends the token
stopping : (mode : TextMode) (token : List ℕ) → halts_in mode token ≡ true → (d : ℕ) → stops mode d ≡ true
stopping chars token e d = cc
stopping referring token e d = cc
stopping opening token e d = refl
stopping commenting token e d = cc
stopping quoting token e d = cc
stopping refused token e d = refl

-- bytes that end no token don't change that the next one is read
still_read : (mode : TextMode) (token run : List ℕ) (c : ℕ) → NoStops mode run → halts_in mode (token ++ c ∷ []) ≡ false
    → halts_in mode ((token ++ run) ++ c ∷ []) ≡ false
still_read chars token run c h e = refl
still_read referring token run c h e = refl
still_read opening token [] c h e = ap (λ (x : List ℕ). halts_in opening (x ++ c ∷ [])) (append-nil token) ∙ e
still_read opening token (d ∷ run) c h e = cc (h.0)
still_read commenting token run c h e = refl
still_read quoting token run c h e = refl
still_read refused token run c h e = cc

kept_stop : (s : TextState) (bytes rest : List ℕ) → NoStops s.mode bytes
    → to_stop s (bytes ++ rest) ≡ to_stop (longer s bytes) rest
kept_stop s [] rest h = ap (λ t. to_stop (record s { token = t }) rest) (sym (append-nil s.token))
kept_stop s (c ∷ bytes) rest h =
    let here : to_stop s (c ∷ (bytes ++ rest)) ≡ to_stop (longer s (c ∷ [])) (bytes ++ rest) =
    rw (no_halt s.mode (s.token ++ c ∷ []) c h.0, h.0) in
    here ∙ kept_stop (longer s (c ∷ [])) bytes rest h.1
    ∙ ap (λ t. to_stop (record s { token = t }) rest) (append_assoc s.token (c ∷ []) bytes)

pub drop_whole : (bytes : List ℕ) → drop (length bytes) bytes ≡ []
drop_whole [] = refl
drop_whole (c ∷ bytes) = drop_whole bytes

module _ (s : TextState) (bytes : List ℕ) (r : Option ℕ) (found : IsFirstByte (stops s.mode) bytes r) where
  pub fed_none : r ≡ None → to_stop s bytes ≡ (longer s bytes, drop (length bytes) bytes)
  fed_none e =
      let none : IsFirstByte (stops s.mode) bytes None = subst (λ (o : Option ℕ). IsFirstByte (stops s.mode) bytes o) e
      found in
      ap (to_stop s) (sym (append-nil bytes)) ∙ kept_stop s bytes [] (all_fail (stops s.mode) bytes none)
      ∙ ap (λ (x : List ℕ). (longer s bytes, x)) (sym (drop_whole bytes))

  module _ (n : ℕ) (e : r ≡ Some n) where
    first : IsFirstByte (stops s.mode) bytes (Some n)
    first = subst (λ (o : Option ℕ). IsFirstByte (stops s.mode) bytes o) e found

    pub fed_some : halts s (get_or bytes n 0) ≡ false
        → to_stop s bytes ≡ (after_token s.mode (longer s (take n bytes)) (get_or bytes n 0), drop (n + 1) bytes)
    fed_some h =
        let c : ℕ = get_or bytes n 0 in
        let none = front_fails (stops s.mode) bytes n first in
        let last : to_stop (longer s (take n bytes)) (c ∷ drop (n + 1) bytes)
        ≡ (after_token s.mode (longer s (take n bytes)) c, drop (n + 1) bytes) =
        rw (still_read s.mode s.token (take n bytes) c none h, first.1) in
        ap (to_stop s) (around (stops s.mode) bytes n first) ∙ kept_stop s (take n bytes) (c ∷ drop (n + 1) bytes) none
        ∙ last

halted : (s : TextState) (bytes : List ℕ) (n : ℕ) → IsFirstByte (stops s.mode) bytes (Some n)
    → halts s (get_or bytes n 0) ≡ true → to_stop s bytes ≡ (s, bytes)
halted s [] n found h = refl
halted s (c ∷ bytes) zero found h = rw h
halted s (c ∷ bytes) (suc n) found h =
    absurd (found.0.before 0 (omega arith) (omega arith) (stopping s.mode (s.token
    ++ get_or (c ∷ bytes) (suc n) 0 ∷ []) h c))

pub fed_halted : (s : TextState) (bytes : List ℕ) (r : Option ℕ) → IsFirstByte (stops s.mode) bytes r → (n : ℕ)
    → r ≡ Some n → halts s (get_or bytes n 0) ≡ true → to_stop s bytes ≡ (s, bytes)
fed_halted s bytes r found n e h =
    halted s bytes n (subst (λ (o : Option ℕ). IsFirstByte (stops s.mode) bytes o) e found) h

pub within : (p : ℕ → Bool) (bytes : List ℕ) (r : Option ℕ) → IsFirstByte p bytes r → (n : ℕ) → r ≡ Some n
    → n < length bytes
within p bytes r found n e =
    let first : IsFirstByte p bytes (Some n) = subst (λ (o : Option ℕ). IsFirstByte p bytes o) e found in
    first.0.high

-- ---- from one token to the next

one_stop : (s : TextState) (c : ℕ) (bytes : List ℕ) (a b : Bool) → halts s c ≡ a → stops s.mode c ≡ b
    → run (longer s (c ∷ [])) bytes ≡ run (to_stop (longer s (c ∷ [])) bytes).0 (to_stop (longer s (c ∷ [])) bytes).1
    → run s (c ∷ bytes) ≡ run (to_stop s (c ∷ bytes)).0 (to_stop s (c ∷ bytes)).1
one_stop s c bytes true b e f later =
    let none : to_stop s (c ∷ bytes) ≡ (s, c ∷ bytes) = rw e in
    ap (λ (p : TextState × List ℕ). run p.0 p.1) (sym none)
one_stop s c bytes false true e f later = rw (e, f)
one_stop s c bytes false false e f later = rw (e, f) later

run_to_stop : (s : TextState) (bytes : List ℕ) → run s bytes ≡ run (to_stop s bytes).0 (to_stop s bytes).1
run_to_stop s [] = refl
run_to_stop s (c ∷ bytes) = one_stop s c bytes (halts s c) (stops s.mode c) refl refl
    (run_to_stop (longer s (c ∷ [])) bytes)

pub run_fed : (s t : TextState) (bytes rest : List ℕ) → to_stop s bytes ≡ (t, rest) → run s bytes ≡ run t rest
run_fed s t bytes rest e = run_to_stop s bytes ∙ ap (λ (p : TextState × List ℕ). run p.0 p.1) e

-- nor is more read then
pub run_still : (s t : TextState) (bytes : List ℕ) → to_stop s bytes ≡ (t, bytes) → run s bytes ≡ (t, bytes)
run_still s t [] e = e
run_still s t (c ∷ bytes) e =
    let h = still s t c bytes e in
    let halted_here : run s (c ∷ bytes) ≡ (s, c ∷ bytes) = rw h.0 in
    halted_here ∙ ap (λ x. (x, c ∷ bytes)) h.1
