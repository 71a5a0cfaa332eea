-- Numbers that are cut off at the greatest that fits.
use Rattle.std.proofs.Common.{◌≡◌, ℕ, ◌+◌, ◌*◌, ◌-◌, ◌^◌, ◌≤◌, ◌<◌, min, true, List, [], ◌∷◌, length, get_or, drop}
use Rattle.std.proofs.Common.{ap, sym, ◌∙◌, arith}
use Rattle.std.specs.Char.{digit_value, is_ascii_digit}
use Rattle.std.specs.Str.{all_ascii_digits}
use Rattle.std.specs.Str.Parse.{digits_value_after}
use Rattle.std.proofs.lemmas.Bool.{and_parts}
use Rattle.std.proofs.lemmas.List.{drop_more}
use Rattle.std.proofs.Math.ListN.{drop_of_length-le}

one_more : (n m d : ℕ) → min n (2 ^ 64 - 1) ≡ min m (2 ^ 64 - 1)
    → min (n * 10 + d) (2 ^ 64 - 1) ≡ min (m * 10 + d) (2 ^ 64 - 1)
one_more n m d e = omega arith

-- digits behind a number that was cut off at the greatest that fits
pub cut_off : (ds : List ℕ) (n m : ℕ) → min n (2 ^ 64 - 1) ≡ min m (2 ^ 64 - 1)
    → min (digits_value_after 10 n ds) (2 ^ 64 - 1) ≡ min (digits_value_after 10 m ds) (2 ^ 64 - 1)
cut_off [] n m e = e
cut_off (c ∷ ds) n m e = cut_off ds (n * 10 + digit_value c) (m * 10 + digit_value c) (one_more n m (digit_value c) e)

pub digits_go_on : (ds : List ℕ) (i n m : ℕ) → i < length ds
    → m ≡ min (n * 10 + digit_value (get_or ds i 0)) (2 ^ 64 - 1)
    → all_ascii_digits (drop i ds) ≡ true
    → (all_ascii_digits (drop (i + 1) ds) ≡ true)
    × (min (digits_value_after 10 m (drop (i + 1) ds)) (2 ^ 64 - 1) ≡ min (digits_value_after 10 n (drop i ds))
    (2 ^ 64 - 1))
digits_go_on ds i n m within is all =
    let cut : drop i ds ≡ get_or ds i 0 ∷ drop (i + 1) ds = drop_more ds i 0 within in
    let v = n * 10 + digit_value (get_or ds i 0) in
    let same : min m (2 ^ 64 - 1) ≡ min v (2 ^ 64 - 1) = omega (arith, is) in (
      (and_parts (is_ascii_digit (get_or ds i 0)) _ (ap all_ascii_digits (sym cut) ∙ all)).1,
      cut_off (drop (i + 1) ds) m v same ∙ ap (λ l. min (digits_value_after 10 n l) (2 ^ 64 - 1)) (sym cut),
    )

pub digits_done : (ds : List ℕ) (i n total : ℕ) → length ds ≤ i → n < 2 ^ 64
    → min (digits_value_after 10 n (drop i ds)) (2 ^ 64 - 1) ≡ total → n ≡ total
digits_done ds i n total past fits e =
    let cut : drop i ds ≡ [] = drop_of_length-le ds past in
    let now : min n (2 ^ 64 - 1) ≡ total = ap (λ l. min (digits_value_after 10 n l) (2 ^ 64 - 1)) (sym cut) ∙ e in
    omega (arith, fits, now)
