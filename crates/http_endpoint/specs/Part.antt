-- Reading one part of a message: a head, a chunk's line, the trailer. Each is read up to a limit, in a grammar of
-- which a parser tells what begins a list of bytes.
use Rattle.std.specs.Prelude.{◌≡◌, ℕ, ◌+◌, ◌≤◌, ◌<◌, ◌⊎◌, Bool, true, List, ◌++◌, length, take, drop, Option, Some}
use Rattle.std.specs.Prelude.{Result, Ok, Err, ⊤}
use Rattle.http_endpoint.specs.declared.error.HttpError.{HttpError}
use Rattle.http_endpoint.specs.declared.error.HttpError.TheVariants.{Memory, ReadFault, WriteFault, BadHead, TooLong}
use Rattle.http_endpoint.specs.declared.error.HttpError.TheVariants.{Unsupported, CutShort}
use Rattle.http_endpoint.specs.declared.part.Parsed.{Parsed}
use Rattle.http_endpoint.specs.declared.part.Parsed.TheVariants.{Found, Unfinished, Refused}

-- a grammar: the bytes are a text of this value, and then the rest
abbrev pub Grammar : Type 0 → Type 1
Grammar A = List ℕ → A → List ℕ → Type 0

-- a text stays one whatever follows it
abbrev pub Grows : {A : Type 0} → Grammar A → Type 0
Grows {A} reads = (bytes : List ℕ) (a : A) (rest more : List ℕ) → reads bytes a rest
    → reads (bytes ++ more) a (rest ++ more)

-- a text that ends behind a place may end among the bytes from there
abbrev pub TellsEnds : {A : Type 0} → Grammar A → (List ℕ → ℕ → Bool) → Type 0
TellsEnds {A} reads ends = (bytes : List ℕ) (a : A) (rest : List ℕ) (from : ℕ) → reads bytes a rest
    → from + length rest < length bytes → ends bytes from ≡ true

-- no first bytes are a text
abbrev pub HasNone : {A : Type 0} → Grammar A → List ℕ → Type 0
HasNone {A} reads bytes = (a : A) (rest : List ℕ) → ¬ (reads bytes a rest)

-- and none will be, whatever follows
abbrev pub Never : {A : Type 0} → Grammar A → List ℕ → Type 0
Never reads bytes = (more : List ℕ) → HasNone reads (bytes ++ more)

-- what a parser answered is so; begun says that a text has begun, which more bytes may end
abbrev pub IsParse : {A : Type 0} → Grammar A → (List ℕ → Type 0) → List ℕ → Parsed A → Type 0
IsParse reads begun bytes (Found len a) = (len ≤ length bytes) × reads bytes a (drop len bytes)
IsParse reads begun bytes Unfinished = HasNone reads bytes × begun bytes
IsParse reads begun bytes Refused = Never reads bytes

-- a text of at most so many bytes, and then the rest
pub record ReadsUpTo {A : Type 0} (limit : ℕ) (reads : Grammar A) (bytes : List ℕ) (a : A) (rest : List ℕ) : Type 0
  where
    pub len : ℕ
    pub within : len ≤ limit
    pub inside : len ≤ length bytes
    pub rest_is : rest ≡ drop len bytes
    pub is_text : reads bytes a rest

-- the bytes are no text: none can follow that make them one, or there are more than so many and those have none
abbrev pub IsBad : {A : Type 0} → ℕ → Grammar A → List ℕ → Type 0
IsBad limit reads bytes = Never reads bytes ⊎ ((limit < length bytes) × HasNone reads (take limit bytes))

-- the bytes end inside a text
pub record IsShort {A : Type 0} (limit : ℕ) (reads : Grammar A) (begun : List ℕ → Type 0) (bytes : List ℕ) : Type 0
  where
    pub within : length bytes ≤ limit
    pub none : HasNone reads bytes
    pub unfinished : begun bytes

-- a part, where the bytes are known, and what is ahead behind it; or why there is none
abbrev pub IsAnswer : {A : Type 0} → ℕ → Grammar A → (List ℕ → Type 0) → List ℕ → Result A HttpError → Option (List ℕ)
    → Type 0
IsAnswer limit reads begun bytes (Ok a) after = (rest : List ℕ) × (after ≡ Some rest)
    × ReadsUpTo limit reads bytes a rest
IsAnswer limit reads begun bytes (Err Memory) after = ⊤
IsAnswer limit reads begun bytes (Err ReadFault) after = ⊤
IsAnswer limit reads begun bytes (Err WriteFault) after = ⊥
IsAnswer limit reads begun bytes (Err BadHead) after = IsBad limit reads bytes
IsAnswer limit reads begun bytes (Err (TooLong taken)) after = ⊥
IsAnswer limit reads begun bytes (Err (Unsupported status)) after = ⊥
IsAnswer limit reads begun bytes (Err CutShort) after = IsShort limit reads begun bytes

-- a stage of a message: a part is bad, or short, or read, and then what follows it holds
pub data Stage {A B : Type 0} (limit : ℕ) (reads : Grammar A) (begun : List ℕ → Type 0) (bytes : List ℕ)
    (result : Result B HttpError)
    (Follows : A → List ℕ → Type 0) : Type 0 where
  bad : IsBad limit reads bytes → result ≡ Err BadHead → Stage limit reads begun bytes result Follows
  short : IsShort limit reads begun bytes → result ≡ Err CutShort → Stage limit reads begun bytes result Follows
  part : (a : A) (rest : List ℕ) → ReadsUpTo limit reads bytes a rest → Follows a rest
      → Stage limit reads begun bytes result Follows

-- what is said of an answer, but for those of which the bytes know nothing
abbrev pub IfTold : {A : Type 0} → Result A HttpError → Type 0 → Type 0
IfTold (Ok a) P = P
IfTold (Err Memory) P = ⊤
IfTold (Err ReadFault) P = ⊤
IfTold (Err WriteFault) P = ⊤
IfTold (Err BadHead) P = P
IfTold (Err (TooLong taken)) P = P
IfTold (Err (Unsupported status)) P = P
IfTold (Err CutShort) P = P
