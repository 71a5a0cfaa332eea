-- Where the machine of text takes nothing: lemmas that the layers above need too.
use Rattle.std.proofs.Common.{◌≡◌, ℕ, suc, ◌≤◌, List, [], ◌∷◌, Bool, true, false, length, refl, ap, arith}
use Rattle.soap_lex.specs.TextMachine.{TextState, stops, halts, longer, after_token, to_stop}

shrinks_at : (s : TextState) (c : ℕ) (bytes : List ℕ) (a b : Bool) → halts s c ≡ a → stops s.mode c ≡ b
    → length (to_stop (longer s (c ∷ [])) bytes).1 ≤ length bytes → length (to_stop s (c ∷ bytes)).1 ≤ suc
    (length bytes)
shrinks_at s c bytes true b e f h = rw e (omega arith)
shrinks_at s c bytes false true e f h = rw (e, f) (omega arith)
shrinks_at s c bytes false false e f h = rw (e, f) (omega (arith, h))

shrinks : (s : TextState) (bytes : List ℕ) → length (to_stop s bytes).1 ≤ length bytes
shrinks s [] = omega arith
shrinks s (c ∷ bytes) =
    let h : length (to_stop s (c ∷ bytes)).1 ≤ suc (length bytes) =
    shrinks_at s c bytes (halts s c) (stops s.mode c) refl refl
    (shrinks (longer s (c ∷ [])) bytes) in
    omega (arith, h)

-- where nothing was taken, the machine halts
pub still : (s t : TextState) (c : ℕ) (bytes : List ℕ) → to_stop s (c ∷ bytes) ≡ (t, c ∷ bytes)
    → (halts s c ≡ true) × (s ≡ t)
still s t c bytes h = go (halts s c) (stops s.mode c) refl refl
  where
    go : (a b : Bool) → halts s c ≡ a → stops s.mode c ≡ b → (halts s c ≡ true) × (s ≡ t)
    go true b e f =
        let x : (s, c ∷ bytes) ≡ (t, c ∷ bytes) = rw e at h in
        (e, ap (λ (p : TextState × List ℕ). p.0) x)
    go false true e f =
        let x : (after_token s.mode s c, bytes) ≡ (t, c ∷ bytes) = rw (e, f) at h in
        let same : bytes ≡ c ∷ bytes = ap (λ (p : TextState × List ℕ). p.1) x in
        absurd (omega (arith, ap length same))
    go false false e f =
        let x : to_stop (longer s (c ∷ [])) bytes ≡ (t, c ∷ bytes) = rw (e, f) at h in
        let size : length (to_stop (longer s (c ∷ [])) bytes).1 ≡ length (c ∷ bytes) =
        ap (λ (p : TextState × List ℕ). length p.1) x in
        absurd (omega (arith, size, shrinks (longer s (c ∷ [])) bytes))
