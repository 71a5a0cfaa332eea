-- How values stand in bytes, one behind the other: how each is written, and how it is read from the front of bytes.
use Rattle.std.specs.Prelude.{◌≡◌, ℕ, zero, suc, ◌<◌, ◌^◌, ◌==◌, nat_lt, if◌then◌else◌, List, [], ◌∷◌, ◌++◌, length}
use Rattle.std.specs.Prelude.{take, drop, Option, Some, None, slice_index}
use Rattle.std.specs.Int.{Width, w32, w64, byte_len, to_be_bytes, from_be_bytes}
use Rattle.std.specs.List.{flat_map, AllByRecursion}
use Rattle.soap_writer.specs.Values.Outcome.{◌>>=◌}

-- how a value is written, and what is read of bytes and stands behind it
pub record Format (A : Type 0) : Type 0 where
  pub written : A → List ℕ
  pub read : List ℕ → Option (A × List ℕ)

-- the first byte
abbrev pub first_byte : List ℕ → Option (ℕ × List ℕ)
first_byte [] = None
first_byte (b ∷ rest) = Some (b, rest)

-- a number of one byte
abbrev pub byte : Format ℕ
byte = record { written = λ b. b ∷ []; read = first_byte }

-- a number at the front of bytes, the highest byte first
abbrev pub front_number : Width → List ℕ → Option (ℕ × List ℕ)
front_number w bytes =
    if nat_lt (length bytes) (byte_len w) then None
    else Some (from_be_bytes w (take (byte_len w) bytes), drop (byte_len w) bytes)

-- a number of four bytes
unfoldable pub number32 : Format ℕ
number32 = record { written = to_be_bytes w32; read = front_number w32 }

-- a number of eight bytes
unfoldable pub number64 : Format ℕ
number64 = record { written = to_be_bytes w64; read = front_number w64 }

-- so many bytes at the front
abbrev pub front_bytes : ℕ → List ℕ → Option (List ℕ × List ℕ)
front_bytes n bytes = if nat_lt (length bytes) n then None else Some (take n bytes, drop n bytes)

-- bytes behind their number
unfoldable pub text : Format (List ℕ)
text = record {
  written = λ bytes. number32.written (length bytes) ++ bytes;
  read = λ bytes. number32.read bytes >>= λ n. front_bytes n.0 n.1;
}

infixr 6 ◌&◌
-- one value behind another
abbrev pub ◌&◌ : {A B : Type 0} → Format A → Format B → Format (A × B)
first & second = record {
  written = λ x. first.written x.0 ++ second.written x.1;
  read = λ bytes. first.read bytes >>= λ x. second.read x.1 >>= λ y. Some ((x.0, y.0), y.1);
}

-- a value that is written as another one, of which it can be made
abbrev pub written_as : {A B : Type 0} → (B → A) → (A → Option B) → Format A → Format B
written_as to of format = record {
  written = λ x. format.written (to x);
  read = λ bytes. format.read bytes >>= λ x. of x.0 >>= λ y. Some (y, x.1);
}

-- a value that may be absent: 0, or 1 and the value
abbrev pub optional_text : {A : Type 0} → Format A → Option A → List ℕ
optional_text format None = 0 ∷ []
optional_text format (Some x) = 1 ∷ format.written x

-- behind that mark
abbrev pub read_marked : {A : Type 0} → Format A → ℕ → List ℕ → Option (Option A × List ℕ)
read_marked format mark bytes =
    if mark == 0 then Some (None, bytes)
    else if mark == 1 then (format.read bytes >>= λ x. Some (Some x.0, x.1)) else None

-- a value that may be absent
abbrev pub optional : {A : Type 0} → Format A → Format (Option A)
optional format = record {
  written = optional_text format;
  read = λ bytes. first_byte bytes >>= λ mark. read_marked format mark.0 mark.1;
}

-- so many values, one behind the other
unfoldable pub read_items : {A : Type 0} → Format A → ℕ → List ℕ → Option (List A × List ℕ)
read_items format zero bytes = Some ([], bytes)
read_items format (suc n) bytes =
    format.read bytes >>= λ x. read_items format n x.1 >>= λ xs. Some (x.0 ∷ xs.0, xs.1)

-- values behind their number
abbrev pub counted : {A : Type 0} → Format A → Format (List A)
counted format = record {
  written = λ xs. number32.written (length xs) ++ flat_map format.written xs;
  read = λ bytes. number32.read bytes >>= λ n. read_items format n.0 n.1;
}

-- ---- what a format is

-- each of them is a byte
pub record AreBytes (bytes : List ℕ) : Type 0 where
  pub each : (i : ℕ) → slice_index bytes i < 256

-- bytes begin with the text of a value that may be written
pub record IsFront {A : Type 0} (format : Format A) (May : A
    → Type 0) (bytes : List ℕ) (x : A) (rest : List ℕ) : Type 0 where
  pub is : bytes ≡ format.written x ++ rest
  pub may : May x

-- what may be written is read again, and nothing else is read
pub record IsFormat {A : Type 0} (format : Format A) (May : A → Type 0) : Type 0 where
  pub again : (x : A) (rest : List ℕ) → May x → format.read (format.written x ++ rest) ≡ Some (x, rest)
  pub only : (bytes : List ℕ) (x : A) (rest : List ℕ) → AreBytes bytes → format.read bytes ≡ Some (x, rest)
      → IsFront format May bytes x rest

-- a list whose length has four bytes, of what may be written
pub record IsCounted {A : Type 0} (F : A → Type 0) (xs : List A) : Type 0 where
  pub few : length xs < 2 ^ 32
  pub each : AllByRecursion F xs
