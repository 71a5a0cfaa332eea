-- What feeding a piece of an attribute value does, up to the end of a token.
use Rattle.std.proofs.Common.{◌≡◌, ℕ, ◌+◌, List, [], ◌∷◌, ◌++◌, Bool, true, false, Some, None, Option}
use Rattle.std.proofs.Common.{length, get_or, take, drop, refl, sym, ap, subst, ◌∙◌, append_assoc, append-nil}
use Rattle.memchr.specs.Find.{IsFirstByte}
use Rattle.soap_lex.specs.ValueMachine.{ValueState, stops, halts, longer, after_token, to_stop, run}
use Rattle.soap_lex.proofs.TextFed.{drop_whole}
use Rattle.soap_lex.proofs.ValueRead.{NoStops}
use Rattle.soap_lex.specs.First.{all_fail, around, front_fails}
use Rattle.soap_lex.specs.ValueStops.{still}

kept_stop : (s : ValueState) (bytes rest : List ℕ) → halts s.mode ≡ false → NoStops s.mode s.quote bytes
    → to_stop s (bytes ++ rest) ≡ to_stop (longer s bytes) rest
kept_stop s [] rest e h = ap (λ t. to_stop (record s { token = t }) rest) (sym (append-nil s.token))
kept_stop s (c ∷ bytes) rest e h =
    let here : to_stop s (c ∷ (bytes ++ rest)) ≡ to_stop (longer s (c ∷ [])) (bytes ++ rest) = rw (e, h.0) in
    here ∙ kept_stop (longer s (c ∷ [])) bytes rest e h.1
    ∙ ap (λ t. to_stop (record s { token = t }) rest) (append_assoc s.token (c ∷ []) bytes)

module _ (s : ValueState) (bytes : List ℕ) (r : Option ℕ) (found : IsFirstByte (stops s.mode s.quote) bytes r)
    (unended : halts s.mode ≡ false) where
  pub fed_none : r ≡ None → to_stop s bytes ≡ (longer s bytes, drop (length bytes) bytes)
  fed_none e =
      let none : IsFirstByte (stops s.mode s.quote) bytes None =
      subst (λ (o : Option ℕ). IsFirstByte (stops s.mode s.quote) bytes o) e found in
      ap (to_stop s) (sym (append-nil bytes)) ∙ kept_stop s bytes [] unended (all_fail
      (stops s.mode s.quote) bytes none)
      ∙ ap (λ (x : List ℕ). (longer s bytes, x)) (sym (drop_whole bytes))

  pub fed_some : (n : ℕ) → r ≡ Some n
      → to_stop s bytes ≡ (after_token s.mode (longer s (take n bytes)) (get_or bytes n 0), drop (n + 1) bytes)
  fed_some n e =
      let first : IsFirstByte (stops s.mode s.quote) bytes (Some n) =
      subst (λ (o : Option ℕ). IsFirstByte (stops s.mode s.quote) bytes o) e found in
      let c : ℕ = get_or bytes n 0 in
      let none = front_fails (stops s.mode s.quote) bytes n first in
      let last : to_stop (longer s (take n bytes)) (c ∷ drop (n + 1) bytes)
      ≡ (after_token s.mode (longer s (take n bytes)) c, drop (n + 1) bytes) = rw (unended, first.1) in
      ap (to_stop s) (around (stops s.mode s.quote) bytes n first)
      ∙ kept_stop s (take n bytes) (c ∷ drop (n + 1) bytes) unended none ∙ last

-- ---- from one token to the next

one_stop : (s : ValueState) (c : ℕ) (bytes : List ℕ) (a b : Bool) → halts s.mode ≡ a → stops s.mode s.quote c ≡ b
    → run (longer s (c ∷ [])) bytes ≡ run (to_stop (longer s (c ∷ [])) bytes).0 (to_stop (longer s (c ∷ [])) bytes).1
    → run s (c ∷ bytes) ≡ run (to_stop s (c ∷ bytes)).0 (to_stop s (c ∷ bytes)).1
one_stop s c bytes true b e f later =
    let none : to_stop s (c ∷ bytes) ≡ (s, c ∷ bytes) = rw e in
    ap (λ (p : ValueState × List ℕ). run p.0 p.1) (sym none)
one_stop s c bytes false true e f later = rw (e, f)
one_stop s c bytes false false e f later = rw (e, f) later

run_to_stop : (s : ValueState) (bytes : List ℕ) → run s bytes ≡ run (to_stop s bytes).0 (to_stop s bytes).1
run_to_stop s [] = refl
run_to_stop s (c ∷ bytes) = one_stop s c bytes (halts s.mode) (stops s.mode s.quote c) refl refl
    (run_to_stop (longer s (c ∷ [])) bytes)

pub run_fed : (s t : ValueState) (bytes rest : List ℕ) → to_stop s bytes ≡ (t, rest) → run s bytes ≡ run t rest
run_fed s t bytes rest e = run_to_stop s bytes ∙ ap (λ (p : ValueState × List ℕ). run p.0 p.1) e

-- nor is more read then
pub run_still : (s t : ValueState) (bytes : List ℕ) → to_stop s bytes ≡ (t, bytes) → run s bytes ≡ (t, bytes)
run_still s t [] e = e
run_still s t (c ∷ bytes) e =
    let h = still s t c bytes e in
    let halted : run s (c ∷ bytes) ≡ (s, c ∷ bytes) = rw h.0 in
    halted ∙ ap (λ x. (x, c ∷ bytes)) h.1
