-- Lemmas on what a node issues, which the crates above use: its identifiers and the polled address are texts,
-- characters of ASCII, none of them white space.
use Rattle.std.proofs.Common.{◌≡◌, ℕ, suc, ◌+◌, ◌*◌, ◌-◌, ◌<◌, ◌≤◌, ◌^◌, Bool, true, false, cond, List, [], ◌∷◌}
use Rattle.std.proofs.Common.{◌++◌, length, get_or, refl, arith}
use Prim.Native.Nat.{zero}
use Rattle.std.specs.Prelude.{◌&&◌, nat_le, nat_lt}
use Rattle.std.specs.Int.{w128, to_be_bytes}
use Rattle.std.specs.List.{list_all}
use Rattle.std.specs.Str.{IsAscii}
use Rattle.std.proofs.lemmas.Bool.{and_parts, leb-true}
use Rattle.std.proofs.lemmas.Bool.Decides.{nat_tests}
use Rattle.std.proofs.lemmas.List.{length-append}
use Rattle.std.proofs.lemmas.Str.{IsUtf8-from_ascii, chars-IsAscii}
use Rattle.uuid.specs.Text.{lower, urn_prefix, hyphenated_text, by_index, hex_digit, nibble}
use Rattle.uuid.specs.Text.{is_hyphen_place, digit_place}
use Rattle.uuid.proofs.TextLemmas.{by_index_length, nibble_small}
use Rattle.xml_chars.specs.Classes.{is_char, is_space}
use Rattle.rm_base.specs.Text.{IsText}
use Rattle.record_batch.specs.Sequences.Idents.{issue, polled_address, polled_prefix, upper_half, lower_half}

-- a character of ASCII that is seen
abbrev pub is_mark : ℕ → Bool
is_mark c = nat_le 33 c && nat_le c 126

-- it is one
record IsMark (c : ℕ) : Type 0 where
  low : 33 ≤ c
  high : c ≤ 126

mark-is : (c : ℕ) → is_mark c ≡ true → IsMark c
mark-is c e = let p = and_parts (nat_le 33 c)
    (nat_le c 126) e in record { low = leb-true 33 c p.0; high = leb-true c 126 p.1 }

is-mark : (c : ℕ) → 33 ≤ c → c ≤ 126 → is_mark c ≡ true
is-mark c low high =
    let a : nat_le 33 c ≡ true = grind (arith, nat_tests) in
    let b : nat_le c 126 ≡ true = grind (arith, nat_tests) in
    rw (a, b) refl

mark-char : (c : ℕ) → is_mark c ≡ true → is_char c ≡ true
mark-char c e =
    let m = mark-is c e in
    let a : nat_le 9 c ≡ true = grind (arith, nat_tests, m.low) in
    let b : nat_le c 10 ≡ false = grind (arith, nat_tests, m.low) in
    let d : nat_le 13 c ≡ true = grind (arith, nat_tests, m.low) in
    let f : nat_le c 13 ≡ false = grind (arith, nat_tests, m.low) in
    let g : nat_le 32 c ≡ true = grind (arith, nat_tests, m.low) in
    let h : nat_le c 55295 ≡ true = grind (arith, nat_tests, m.high) in
    rw (a, b, d, f, g, h) refl

mark-space : (c : ℕ) → is_mark c ≡ true → is_space c ≡ false
mark-space c e =
    let m = mark-is c e in
    let a : nat_le 9 c ≡ true = grind (arith, nat_tests, m.low) in
    let b : nat_le c 10 ≡ false = grind (arith, nat_tests, m.low) in
    let d : nat_le 13 c ≡ true = grind (arith, nat_tests, m.low) in
    let f : nat_le c 13 ≡ false = grind (arith, nat_tests, m.low) in
    let g : nat_le 32 c ≡ true = grind (arith, nat_tests, m.low) in
    let h : nat_le c 32 ≡ false = grind (arith, nat_tests, m.low) in
    rw (a, b, d, f, g, h) refl

chars-all : (bs : List ℕ) → list_all is_mark bs ≡ true → list_all is_char bs ≡ true
chars-all [] e = refl
chars-all (b ∷ bs) e =
    let p = and_parts (is_mark b) (list_all is_mark bs) e in
    rw (mark-char b p.0, chars-all bs p.1) refl

ascii : (bs : List ℕ) → list_all is_mark bs ≡ true → IsAscii bs
ascii [] e i = omega arith
ascii (b ∷ bs) e zero = let m = mark-is b (and_parts (is_mark b) (list_all is_mark bs) e).0 in omega (arith, m.high)
ascii (b ∷ bs) e (suc i) = ascii bs (and_parts (is_mark b) (list_all is_mark bs) e).1 i

mark-at : (bs : List ℕ) (i : ℕ) → list_all is_mark bs ≡ true → i < length bs → is_mark (get_or bs i 0) ≡ true
mark-at [] i e lt = absurd (omega (arith, lt))
mark-at (b ∷ bs) zero e lt = (and_parts (is_mark b) (list_all is_mark bs) e).0
mark-at (b ∷ bs) (suc i) e lt =
    mark-at bs i (and_parts (is_mark b) (list_all is_mark bs) e).1 (omega (arith, lt))

-- such characters are a text
pub marks-text : (limit : ℕ) (bs : List ℕ) → 0 < length bs → length bs ≤ limit → list_all is_mark bs ≡ true
    → IsText limit bs
marks-text limit bs some within e = record {
  some = some;
  within = within;
  characters = record {
    utf8 = IsUtf8-from_ascii bs (ascii bs e);
    each = rw (chars-IsAscii bs (ascii bs e)) (chars-all bs e);
  };
  trimmed = record {
    begins = mark-space (get_or bs 0 0) (mark-at bs 0 e some);
    ends = mark-space (get_or bs (length bs - 1) 0) (mark-at bs (length bs - 1) e (omega (arith, some)));
  };
}

marks-append : (bs cs : List ℕ) → list_all is_mark bs ≡ true → list_all is_mark cs ≡ true
    → list_all is_mark (bs ++ cs) ≡ true
marks-append [] cs e f = f
marks-append (b ∷ bs) cs e f =
    let p = and_parts (is_mark b) (list_all is_mark bs) e in
    rw (p.0, marks-append bs cs p.1 f) refl

marks-by_index : (n : ℕ) (f : ℕ → ℕ) → ((k : ℕ) → is_mark (f k) ≡ true) → list_all is_mark (by_index n f) ≡ true
unfolding by_index
marks-by_index zero f each = refl
marks-by_index (suc n) f each =
    marks-append (by_index n f) (f n ∷ []) (marks-by_index n f each) (rw (each n) refl)

digit-mark : (b : Bool) (d : ℕ) → nat_lt d 10 ≡ b → d < 16 → is_mark (hex_digit 97 d) ≡ true
digit-mark true d e small = rw e (is-mark (48 + d) (omega arith) (omega (arith, small)))
digit-mark false d e small = rw e (is-mark (97 + d - 10) (omega arith) (omega (arith, small)))

place-mark : (b : Bool) (d : ℕ) → d < 16 → is_mark (cond b 45 (hex_digit 97 d)) ≡ true
place-mark true d small = refl
place-mark false d small = digit-mark (nat_lt d 10) d refl small

-- the digits of a UUID behind such characters are a text
prefixed-text : (limit : ℕ) (prefix xs : List ℕ) → length prefix + 36 ≤ limit → list_all is_mark prefix ≡ true
    → IsText limit (prefix ++ hyphenated_text lower xs)
prefixed-text limit prefix xs within e =
    let digits : list_all is_mark (hyphenated_text lower xs) ≡ true =
    marks-by_index 36 (λ k. cond (is_hyphen_place k) 45 (hex_digit 97 (nibble xs (digit_place k))))
    (λ k. place-mark (is_hyphen_place k) (nibble xs (digit_place k)) (nibble_small xs (digit_place k))) in
    let long : length (hyphenated_text lower xs) ≡ 36 = by_index_length 36 _ in
    let all : length (prefix ++ hyphenated_text lower xs) ≡ length prefix + length (hyphenated_text lower xs) =
    length-append prefix (hyphenated_text lower xs) in
    marks-text limit (prefix ++ hyphenated_text lower xs) (omega (arith, all, long)) (omega (arith, all, long, within))
    (marks-append prefix (hyphenated_text lower xs) e digits)

-- an identifier is a text of 45 characters
pub issue-text : (limit node counter : ℕ) → 45 ≤ limit → IsText limit (issue node counter)
unfolding issue
issue-text limit node counter within =
    prefixed-text limit urn_prefix (to_be_bytes w128 (upper_half node * 2 ^ 64 + lower_half counter)) within refl

-- the polled address is a text
pub polled-text : (node : ℕ) → IsText 2048 (polled_address node)
unfolding polled_address polled_prefix
polled-text node =
    prefixed-text 2048 polled_prefix (to_be_bytes w128 (upper_half node * 2 ^ 64 + lower_half 0)) (omega arith) refl
