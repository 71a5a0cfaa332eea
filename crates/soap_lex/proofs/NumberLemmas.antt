-- The number that digits write, read from the left and held at one above all characters.
use Rattle.std.proofs.Common.{◌≡◌, ℕ, ◌+◌, ◌*◌, ◌<◌, ◌≤◌, List, [], ◌∷◌, ap, ◌∙◌, arith, inl, inr}
use Rattle.std.specs.Prelude.{min, ◌⊎◌}
use Rattle.std.specs.Char.{digit_value}
use Rattle.std.specs.Str.Parse.{AllDigits, digits_value_after, digits_value}
use Rattle.std.proofs.lemmas.Bool.{cases_lt}
use Rattle.std.proofs.Math.Nat.{le-mul_of_pos_right}

-- of these digits the rest is still to be read, behind this number
pub record NumberSo (base number : ℕ) (digits rest : List ℕ) : Type 0 where
  pub back : AllDigits base rest → AllDigits base digits
  pub on : AllDigits base digits → AllDigits base rest
  pub low : number ≤ 0x110000
  pub value : min (digits_value_after base number rest) 0x110000 ≡ min (digits_value base digits) 0x110000

-- more digits don't make a number less
value_above : (base number : ℕ) (digits : List ℕ) → 1 ≤ base → number ≤ digits_value_after base number digits
value_above base number [] h = omega arith
value_above base number (d ∷ digits) h =
    let later : number * base + digit_value d ≤ digits_value_after base (number * base + digit_value d) digits =
    value_above base (number * base + digit_value d) digits h in
    let more : number ≤ number * base = le-mul_of_pos_right {m = base} number (omega arith) in
    omega arith

-- holding the number changes nothing below the limit
value_held : (base number : ℕ) (digits : List ℕ) → 1 ≤ base
    → min (digits_value_after base (min number 0x110000) digits) 0x110000 ≡ min
    (digits_value_after base number digits) 0x110000
value_held base number digits h =
    elim (cases_lt number 0x110000) [
      | inl less ↦ let same : min number 0x110000 ≡ number = omega arith in
          ap (λ n. min (digits_value_after base n digits) 0x110000) same
      | inr more ↦
          let one : min number 0x110000 ≤ digits_value_after base (min number 0x110000) digits =
          value_above base (min number 0x110000) digits h in
          let two : number ≤ digits_value_after base number digits = value_above base number digits h in
          omega arith
    ]

-- one digit more
pub NumberSo-step : (base number d : ℕ) (digits rest : List ℕ) → 1 ≤ base → digit_value d < base
    → NumberSo base number digits (d ∷ rest)
    → NumberSo base (min (number * base + digit_value d) 0x110000) digits rest
NumberSo-step base number d digits rest h fits so = record {
  back = λ all. so.back (fits, all);
  on = λ all. (so.on all).1;
  low = omega arith;
  value = value_held base (number * base + digit_value d) rest h ∙ so.value;
}

pub base_above : (base : ℕ) → (base ≡ 10) ⊎ (base ≡ 16) → 1 ≤ base
base_above base (inl e) = omega arith
base_above base (inr e) = omega arith
