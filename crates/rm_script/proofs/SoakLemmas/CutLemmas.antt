-- Bytes that are cut at a byte, and the first of their lines.
use Rattle.std.proofs.Common.{◌≡◌, ℕ, suc, ◌+◌, ◌≤◌, Bool, true, false, cond, not, ◌==◌, List, [], ◌∷◌, length}
use Rattle.std.proofs.Common.{take, drop, refl, arith, position, Some, None}
use Rattle.std.specs.List.{position_or_len, before_first, after_first}
use Rattle.std.proofs.lemmas.Bool.Decides.{nat_tests}
use Rattle.rm_script.specs.Script.{lines_of, onto_first}

-- where the first of such bytes stands, and that there is none before the end
pub position-some : (end : ℕ) (bytes : List ℕ) (i : ℕ) → position (λ byte. byte == end) bytes ≡ Some i
    → i ≡ position_or_len (λ byte. byte == end) bytes
position-some end bytes i h = grind (arith, nat_tests)

pub position-none : (end : ℕ) (bytes : List ℕ) → position (λ byte. byte == end) bytes ≡ None
    → length bytes ≤ position_or_len (λ byte. byte == end) bytes
position-none end bytes h = grind (arith, nat_tests)

-- the first line of such bytes ends at n
abbrev IsFirst : List (List ℕ) → List ℕ → ℕ → Type 0
IsFirst lines bytes n = lines ≡ take n bytes ∷ lines_of (drop (n + 1) bytes)

onto_first-IsFirst : (byte : ℕ) (bytes : List ℕ) (n : ℕ) → IsFirst (lines_of bytes) bytes n
    → IsFirst (onto_first byte (lines_of bytes)) (byte ∷ bytes) (1 + n)
onto_first-IsFirst byte bytes n h =
    let a : 1 + n + 1 ≡ suc (n + 1) = omega arith in
    let b : 1 + n ≡ suc n = omega arith in rw (a, b, h) refl

-- the first line is what stands before the first LF
pub lines_of-first : (byte : ℕ) (bytes : List ℕ)
    → lines_of (byte ∷ bytes)
    ≡ before_first (λ b. b == 10) (byte ∷ bytes) ∷ lines_of (after_first (λ b. b == 10) (byte ∷ bytes))
lines_of-first byte [] =
    elim (byte == 10) as (λ b. IsFirst (cond b ([] ∷ []) ((byte ∷ []) ∷ [])) (byte ∷ []) (cond (not b) 1 0)) [
      | true ↦ refl
      | false ↦ refl
    ]
lines_of-first byte (c ∷ cs) =
    let n = position_or_len (λ b. b == 10) (c ∷ cs) in
    let rest = lines_of-first c cs in
    let lines = lines_of (c ∷ cs) in
    let split : Bool → Type 0 = λ b.
    IsFirst (cond b ([] ∷ lines) (onto_first byte lines)) (byte ∷ c ∷ cs) (cond (not b) (1 + n) 0) in
    elim (byte == 10) as split [ true ↦ refl | false ↦ onto_first-IsFirst byte (c ∷ cs) n rest ]

pub lines_of-cut : (bytes : List ℕ) → (length bytes == 0) ≡ false
    → lines_of bytes ≡ before_first (λ b. b == 10) bytes ∷ lines_of (after_first (λ b. b == 10) bytes)
lines_of-cut [] h = absurd (cc)
lines_of-cut (byte ∷ bytes) h = lines_of-first byte bytes
