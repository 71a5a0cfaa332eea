-- Keys of two parts, and whether they all differ.
use Rattle.std.specs.Prelude.{ℕ, List, [], ◌∷◌, Bool, true, not, ◌&&◌, map}
use Rattle.std.specs.Borrow.{Bor}
use Rattle.std.specs.List.{list_all}
use Rattle.std.specs.Str.{bytes_eq}

-- two parts, each as bytes
abbrev pub Key : Type 0
Key = List ℕ × List ℕ

-- both parts are the same
abbrev pub same_key : Key → Key → Bool
same_key key other = bytes_eq other.0 key.0 && bytes_eq other.1 key.1

-- no key stands twice
abbrev pub differ : List Key → Bool
differ [] = true
differ (key ∷ keys) = list_all (λ other. not (same_key key other)) keys && differ keys

-- the first key is another than this
abbrev pub starts_other : Key → List Key → Bool
starts_other key [] = true
starts_other key (first ∷ keys) = not (same_key key first)

-- no key stands right behind the same
abbrev pub neighbours_differ : List Key → Bool
neighbours_differ [] = true
neighbours_differ (key ∷ keys) = starts_other key keys && neighbours_differ keys

-- the references to the parts of a key
abbrev pub Lent : Type 0
Lent = Bor (List ℕ) × Bor (List ℕ)

-- what they refer to
abbrev pub key_of : Lent → Key
key_of lent = (lent.0.now, lent.1.now)

-- what each refers to
abbrev pub keys_of : List Lent → List Key
keys_of lent = map key_of lent
