-- What a reader answers: a value, or that there is none, unless memory ran out.
use Rattle.std.specs.Prelude.{◌≡◌, List, [], ◌∷◌, Option, Some, None, Result, Ok, Err}
use Rattle.soap_writer.specs.declared.values.flaw.Flaw.{Flaw}
use Rattle.soap_writer.specs.declared.values.flaw.Flaw.TheVariants.{Memory, Malformed}

-- one value after another: where one is missing, the whole is
infixl 10 ◌>>=◌
-- what comes of a value, where there is one
abbrev pub ◌>>=◌ : {A B : Type 0} → Option A → (A → Option B) → Option B
None >>= f = None
(Some x) >>= f = f x

-- a flaw says that there is no value, but for a want of memory, which says nothing
abbrev pub Fails : {Y : Type 0} → Flaw → Option Y → Type 0
Fails Memory read = Unit {0}
Fails Malformed read = read ≡ None

-- what a function returned, seen by view, is what is to be read, unless memory ran out
abbrev pub Gives : {X Y : Type 0} → (X → Y) → Result X Flaw → Option Y → Type 0
Gives view (Ok x) read = read ≡ Some (view x)
Gives view (Err flaw) read = Fails flaw read

-- of a list that may have one at most: what it has
abbrev pub optional : {A : Type 0} → List A → Option (Option A)
optional [] = Some None
optional (x ∷ []) = Some (Some x)
optional (x ∷ y ∷ others) = None

-- of a list that has exactly one: that one
abbrev pub single : {A : Type 0} → List A → Option A
single [] = None
single (x ∷ []) = Some x
single (x ∷ y ∷ others) = None

-- what is read of each, where something is read of all
abbrev pub each : {A B : Type 0} → (A → Option B) → List A → Option (List B)
each read [] = Some []
each read (x ∷ xs) = do
  y ← read x
  ys ← each read xs
  Some (y ∷ ys)

-- what is read of one that may be absent
abbrev pub if_present : {A B : Type 0} → (A → Option B) → Option A → Option (Option B)
if_present read None = Some None
if_present read (Some x) = do
  y ← read x
  Some (Some y)
