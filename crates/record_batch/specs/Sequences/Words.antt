-- Words on lists and texts.
use Rattle.std.specs.Prelude.{ℕ, ◌==◌, if◌then◌else◌, List, [], ◌∷◌}

-- a text is its bytes
abbrev pub Text : Type 0
Text = List ℕ

-- the first item, or another one where there is none
abbrev pub first_or : {A : Type 0} → A → List A → A
first_or a [] = a
first_or a (x ∷ xs) = x

-- the last item, or another one where there is none
abbrev pub last_or : {A : Type 0} → A → List A → A
last_or a [] = a
last_or a (x ∷ xs) = last_or x xs

-- of pairs, the second parts of those whose first part is a sequence's number
abbrev pub at_seq : {A : Type 0} → ℕ → List (ℕ × A) → List A
at_seq s [] = []
at_seq s (m ∷ ms) = if m.0 == s then m.1 ∷ at_seq s ms else at_seq s ms
