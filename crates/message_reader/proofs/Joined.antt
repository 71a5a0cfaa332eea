-- Bytes against others and what stands behind those.
use Rattle.std.proofs.Common.{◌≡◌, ℕ, List, [], ◌∷◌, ◌++◌, length, take, drop, Bool, true, false, ◌&&◌, refl, suc}
use Rattle.std.specs.Prelude.{nat_eq}
use Rattle.std.specs.Cmp.Lexicographic.{pointwise}
use Rattle.std.specs.Str.{bytes_eq}

-- the front fits, and what is left decides
pub joined : (bytes front back : List ℕ) → pointwise nat_eq (take (length front) bytes) front ≡ true
    → bytes_eq (drop (length front) bytes) back ≡ bytes_eq bytes (front ++ back)
joined bytes [] back e = refl
joined [] (f ∷ front) back e = absurd (cc)
joined (b ∷ bytes) (f ∷ front) back e = elim (nat_eq b f)
    as (λ t. (t && pointwise nat_eq (take (length front) bytes) front) ≡ true
    → bytes_eq (drop (length front) bytes) back ≡ (t && bytes_eq bytes (front ++ back))) [
      | true ↦ λ h. joined bytes front back h
      | false ↦ λ h. absurd (cc)
    ] e

-- it doesn't
pub not_joined : (bytes front back : List ℕ) → pointwise nat_eq (take (length front) bytes) front ≡ false
    → false ≡ bytes_eq bytes (front ++ back)
not_joined bytes [] back e = absurd (cc)
not_joined [] (f ∷ front) back e = refl
not_joined (b ∷ bytes) (f ∷ front) back e = elim (nat_eq b f)
    as (λ t. (t && pointwise nat_eq (take (length front) bytes) front) ≡ false
    → false ≡ (t && bytes_eq bytes (front ++ back))) [
      | true ↦ λ h. not_joined bytes front back h
      | false ↦ λ h. refl
    ] e
