-- Bytes that are characters of a document, and names.
use Rattle.std.proofs.Common.{◌≡◌, ℕ, suc, ◌<◌, Bool, true, false, ◌&&◌, ◌||◌, List, [], ◌∷◌, ◌++◌, length, get_or}
use Rattle.std.proofs.Common.{take, refl, sym, ap, ◌∙◌, arith, inl, inr}
use Rattle.std.specs.Prelude.{◌≢◌, ◌≤◌, IsTrue, encode_utf8_all}
use Rattle.std.specs.List.{All, AllByRecursion, list_all, list_any}
use Rattle.std.specs.Str.{chars, IsUtf8}
use Rattle.std.proofs.lemmas.Bool.{and_parts}
use Rattle.std.proofs.lemmas.List.{get_or_past, take_all}
use Rattle.std.proofs.lemmas.List.Elements.{All-same}
use Rattle.std.proofs.lemmas.Bool.{cases_lt}
use Rattle.std.proofs.lemmas.Str.{chars-encodes, encodes-chars, encodes-IsAscii}
use Rattle.xml_chars.specs.Classes.{is_char, is_name_start, is_name_char}
use Rattle.soap_lex.specs.Characters.{IsChars, IsName}
use Rattle.soap_lex.specs.Scalars.{all_scalar, is_char-scalar, name_char-scalar, name_each}

-- each element passes, as a test
pub all-each : (p : ℕ → Bool) (xs : List ℕ) → AllByRecursion (λ c. IsTrue (p c)) xs → list_all p xs ≡ true
all-each p [] each = refl
all-each p (x ∷ xs) each = ap (λ b. b && list_all p xs) each.0 ∙ all-each p xs each.1

pub each-all : (p : ℕ → Bool) (xs : List ℕ) → list_all p xs ≡ true → AllByRecursion (λ c. IsTrue (p c)) xs
each-all p [] all = tt
each-all p (x ∷ xs) all = let (here, more) = and_parts (p x) (list_all p xs) all in (here, each-all p xs more)

pub IsChars-all : (bytes : List ℕ) → IsUtf8 bytes → list_all is_char (chars bytes) ≡ true → IsChars bytes
IsChars-all bytes utf8 all = record {
  characters = chars bytes;
  each = each-all is_char (chars bytes) all;
  coded =
      sym (encodes-chars bytes utf8);
}

pub all-IsChars : (bytes : List ℕ) → IsChars bytes → list_all is_char (chars bytes) ≡ true
all-IsChars bytes is =
    ap (λ cs. list_all is_char cs) (ap chars is.coded
    ∙ chars-encodes is.characters (all_scalar is_char is_char-scalar is.characters is.each))
    ∙ all-each is_char is.characters is.each

-- one after another
pub each-append : (p : ℕ → Bool) (xs ys : List ℕ) → AllByRecursion (λ c. IsTrue (p c)) xs
    → AllByRecursion (λ c. IsTrue (p c)) ys → AllByRecursion (λ c. IsTrue (p c)) (xs ++ ys)
each-append p [] ys a b = b
each-append p (x ∷ xs) ys a b = (a.0, each-append p xs ys a.1 b)

pub each-places : (p : ℕ → Bool) (xs : List ℕ) → ((k : ℕ) → k < length xs → p (get_or xs k 0) ≡ true)
    → AllByRecursion (λ c. IsTrue (p c)) xs
each-places p [] each = tt
each-places p (x ∷ xs) each = (each 0 (omega arith), each-places p xs (λ k h. each (suc k) (omega arith)))

-- an ASCII byte that is a character of a document
abbrev pub IsPlain : ℕ → Type 0
IsPlain byte = (byte < 128) × IsTrue (is_char byte)

pub IsChars-ascii : (bytes : List ℕ) → All IsPlain bytes → IsChars bytes
IsChars-ascii bytes each = record {
  characters = bytes;
  each = each-places is_char bytes (λ k h. (each k 0 h).1);
  coded = sym (encodes-IsAscii bytes (λ i. elim (cases_lt i (length bytes)) [
    | inl within ↦ (each i 0 within).0
    | inr past ↦ rw (get_or_past bytes i 0 past) (omega arith)
  ]));
}

-- that, and none of those that begin markup, nor that other
abbrev pub IsPlainBut : ℕ → ℕ → Type 0
IsPlainBut other byte = (byte < 128) × IsTrue (is_char byte) × (byte ≢ 60) × (byte ≢ 38) × (byte ≢ other)

pub plain_all : (other n : ℕ) (bytes : List ℕ) → length bytes ≤ n → All (IsPlainBut other) (take n bytes)
    → All (IsPlainBut other) bytes
plain_all other n bytes h each = All-same (IsPlainBut other) bytes (take n bytes) (sym (take_all n bytes h)) each

-- a list of characters begins as a name does
abbrev pub begins : List ℕ → Bool
begins cs = list_any is_name_start (take 1 cs)

first-or : (a b : Bool) → a ≡ true → (a || b) ≡ true
first-or a b e = ap (λ x. x || b) e

starts_from : (b : Bool) → (b || false) ≡ true → b ≡ true
starts_from true e = refl
starts_from false e = e

-- a name is characters of which each may stand in it, and the first may begin it
name_from : (bytes characters : List ℕ) → encode_utf8_all characters ≡ bytes → begins characters ≡ true
    → list_all is_name_char characters ≡ true → IsName bytes
name_from bytes [] coded first all = cc
name_from bytes (c ∷ cs) coded first all =
    let (here, more) = and_parts (is_name_char c) (list_all is_name_char cs) all in
    record {
      first = c;
      others = cs;
      starts = starts_from (is_name_start c) first;
      each =
          each-all is_name_char cs more;
      coded = sym coded;
    }

pub IsName-all : (bytes : List ℕ) → IsUtf8 bytes → begins (chars bytes) ≡ true
    → list_all is_name_char (chars bytes) ≡ true → IsName bytes
IsName-all bytes utf8 first all = name_from bytes (chars bytes) (encodes-chars bytes utf8) first all

pub chars-IsName : (bytes : List ℕ) (is : IsName bytes) → chars bytes ≡ is.first ∷ is.others
chars-IsName bytes is = ap chars is.coded
    ∙ chars-encodes (is.first ∷ is.others) (all_scalar is_name_char name_char-scalar (is.first ∷ is.others)
    (name_each bytes is))

pub begins-IsName : (bytes : List ℕ) → IsName bytes → begins (chars bytes) ≡ true
begins-IsName bytes is = ap begins (chars-IsName bytes is) ∙ first-or (is_name_start is.first) false is.starts

pub all-IsName : (bytes : List ℕ) → IsName bytes → list_all is_name_char (chars bytes) ≡ true
all-IsName bytes is = ap (λ cs. list_all is_name_char cs) (chars-IsName bytes is)
    ∙ all-each is_name_char (is.first ∷ is.others) (name_each bytes is)
