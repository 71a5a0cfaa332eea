-- The bytes of names: no ASCII character that stands in no name is among them. The layers above need it too.
use Rattle.std.proofs.Common.{◌≡◌, ℕ, ◌<◌, true, false, nat_eq, List, [], ◌∷◌, ◌++◌, get_or, encode_utf8}
use Rattle.std.proofs.Common.{encode_utf8_all, sym, ap, subst, ◌∙◌, arith, append-nil}
use Rattle.std.specs.List.{AllByRecursion}
use Rattle.std.proofs.lemmas.Bool.{ne_eqb, true≢false}
use Rattle.std.proofs.lemmas.List.Elements.{recursion_from_All}
use Rattle.std.proofs.lemmas.List.{get_or_default}
use Rattle.std.proofs.lemmas.Str.{inside_one}
use Rattle.xml_chars.specs.Classes.{is_name_char}
use Rattle.soap_lex.specs.Characters.{IsName}
use Rattle.soap_lex.specs.Scalars.{name_each}

pub all_append : (P : ℕ → Type 0) (xs ys : List ℕ) → AllByRecursion P xs → AllByRecursion P ys
    → AllByRecursion P (xs ++ ys)
all_append P [] ys g h = h
all_append P (x ∷ xs) ys g h = (g.0, all_append P xs ys g.1 h)

-- no ASCII character that stands in no name
abbrev pub IsNameByte : ℕ → Type 0
IsNameByte b = (k : ℕ) → k < 128 → is_name_char k ≡ false → nat_eq b k ≡ false

name_byte : (c b : ℕ) → is_name_char c ≡ true → (b < 128 → c ≡ b) → IsNameByte b
name_byte c b passes ascii k small fails = ne_eqb b k (λ e. true≢false (sym passes
    ∙ ap is_name_char (ascii (omega arith) ∙ e) ∙ fails))

char_bytes : (c : ℕ) → is_name_char c ≡ true → AllByRecursion IsNameByte (encode_utf8 c)
char_bytes c passes = recursion_from_All IsNameByte (encode_utf8 c) (λ k d h.
    rw (get_or_default (encode_utf8 c) k d 0 h) (name_byte c (get_or (encode_utf8 c) k 0) passes (inside_one c []
    (encode_utf8 c) k (sym (append-nil (encode_utf8 c))) h)))

name_bytes_of : (cs : List ℕ) → AllByRecursion (λ c. is_name_char c ≡ true) cs
    → AllByRecursion IsNameByte (encode_utf8_all cs)
name_bytes_of [] h = tt
name_bytes_of (c ∷ cs) h = all_append IsNameByte (encode_utf8 c) (encode_utf8_all cs) (char_bytes c h.0)
    (name_bytes_of cs h.1)

pub name_bytes : (bytes : List ℕ) → IsName bytes → AllByRecursion IsNameByte bytes
name_bytes bytes h = subst (AllByRecursion IsNameByte) (sym h.coded) (name_bytes_of (h.first ∷ h.others) (name_each
    bytes h))
