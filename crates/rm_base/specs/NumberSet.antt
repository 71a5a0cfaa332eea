-- Sets of message numbers as rising lists. WS-ReliableMessaging 1.2, section 3.9: numbers are named from 1 on.
use Rattle.std.specs.Prelude.{ℕ, ◌+◌, ◌<◌, Bool, false, ◌||◌, ◌==◌, nat_lt, if◌then◌else◌, max, List, [], ◌∷◌}

-- each number is above low and above those before it
abbrev pub Rises : ℕ → List ℕ → Type 0
Rises low [] = Unit {0}
Rises low (x ∷ xs) = (low < x) × Rises x xs

-- numbers from 1 on, rising and so without repeats
abbrev pub IsRising : List ℕ → Type 0
IsRising xs = Rises 0 xs

-- n is one of the numbers
abbrev pub has_number : List ℕ → ℕ → Bool
has_number [] n = false
has_number (x ∷ xs) n = (x == n) || has_number xs n

-- the numbers and n, which stands at its place
abbrev pub with_number : List ℕ → ℕ → List ℕ
with_number [] n = n ∷ []
with_number (x ∷ xs) n =
    if nat_lt n x then n ∷ x ∷ xs else if n == x then x ∷ xs else x ∷ with_number xs n

-- the greatest number, and 0 where there is none
abbrev pub greatest_of : List ℕ → ℕ
greatest_of [] = 0
greatest_of (x ∷ xs) = max x (greatest_of xs)

-- from n on, the numbers that follow one another without a gap, as far as they go
abbrev pub front_after : ℕ → List ℕ → ℕ
front_after n [] = n
front_after n (x ∷ xs) = if x == n + 1 then front_after x xs else n
