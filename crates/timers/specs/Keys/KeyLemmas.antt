-- Keys and their order.
use Rattle.std.proofs.Common.{◌≡◌, ℕ, true, false, ap₂, arith}
use Rattle.std.proofs.lemmas.Bool.Decides.{nat_tests}
use Rattle.timers.specs.declared.slots.timers.Key.{Key}
use Rattle.timers.specs.Keys.Waits.{same_key}
use Rattle.timers.specs.Keys.Keyed.{is_before}

pub same_key-is : (a b : Key) → same_key a b ≡ true → a ≡ b
same_key-is a b h =
    let seq : a.seq ≡ b.seq = grind (arith, nat_tests, h) in
    let number : a.number ≡ b.number = grind (arith, nat_tests, h) in
    ap₂ (λ (s n : ℕ). let k : Key = record { seq = s; number = n } in k) seq number

pub same_key-refl : (a : Key) → same_key a a ≡ true
same_key-refl a = grind (arith, nat_tests)

pub same_key-sym : (a b : Key) → same_key a b ≡ same_key b a
same_key-sym a b = grind (arith, nat_tests)

pub before-trans : (a b c : Key) → is_before a b ≡ true → is_before b c ≡ true → is_before a c ≡ true
before-trans a b c h k = grind (arith, nat_tests, h, k)

pub before-other : (a b : Key) → is_before a b ≡ true → same_key b a ≡ false
before-other a b h = grind (arith, nat_tests, h)

pub before-apart : (a b : Key) → is_before a b ≡ true → same_key a b ≡ false
before-apart a b h = grind (arith, nat_tests, h)

pub before-total : (a b : Key) → is_before a b ≡ false → same_key a b ≡ false → is_before b a ≡ true
before-total a b h k = grind (arith, nat_tests, h, k)
