-- The digits at the front of bytes.
use Rattle.std.proofs.Common.{◌≡◌, ℕ, Bool, true, false, if◌then◌else◌, List, [], ◌∷◌, refl}
use Rattle.std.specs.Char.{is_ascii_digit}
use Rattle.std.specs.Str.{all_ascii_digits}
use Rattle.rm_message.specs.Elements.Duration.{digits_of}

all_by : (b : ℕ) (bs : List ℕ) (test : Bool) → is_ascii_digit b ≡ test → all_ascii_digits (digits_of bs) ≡ true
    → all_ascii_digits (if test then b ∷ digits_of bs else []) ≡ true
all_by b bs true e h = rw (e, h) refl
all_by b bs false e h = refl

-- they are digits
pub all_digits : (bs : List ℕ) → all_ascii_digits (digits_of bs) ≡ true
all_digits [] = refl
all_digits (b ∷ bs) = all_by b bs (is_ascii_digit b) refl (all_digits bs)
