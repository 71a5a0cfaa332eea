-- Characters stay characters where line ends become LF, and where white space becomes spaces.
use Rattle.std.proofs.Common.{◌≡◌, ◌≢◌, ℕ, ◌<◌, Bool, true, false, ◌&&◌, nat_eq, List, [], ◌∷◌, ◌++◌, length}
use Rattle.std.proofs.Common.{◌||◌, inl, inr, map, refl, sym, ap, subst, arith, if◌then◌else◌}
use Rattle.std.specs.Prelude.{encode_utf8, encode_utf8_all}
use Rattle.std.proofs.lemmas.Bool.{cases_lt, cond_both, ne_eqb}
use Rattle.std.proofs.lemmas.List.{map-append}
use Rattle.std.proofs.lemmas.Str.{encode_ascii, length-encode, len_utf8_bounds}
use Rattle.xml_chars.specs.Classes.{is_char}
use Rattle.soap_lex.specs.Characters.{IsChars}
use Rattle.soap_lex.specs.Text.{line_end, line_ends_after, with_line_ends}
use Rattle.soap_lex.specs.Value.{space_of, with_spaces}
use Rattle.soap_writer.specs.Stripped.CharLaws.{AreChars, AreHigh, chars_nil, chars_append, one_char, ascii_char}
use Rattle.soap_writer.specs.Stripped.CharLaws.{high_bytes}

encode_some : (c : ℕ) → encode_utf8 c ≢ []
encode_some c e = omega (arith, ap length e, length-encode c, len_utf8_bounds c)

-- ---- line ends

high_stays : (run rest : List ℕ) → AreHigh run
    → line_ends_after false (run ++ rest) ≡ run ++ line_ends_after false rest
high_stays [] rest high = refl
high_stays (b ∷ run) rest high =
    let other : nat_eq b 13 ≡ false = ne_eqb b 13 (λ e. omega (arith, e, high.0)) in
    rw other (ap (λ l. b ∷ l) (high_stays run rest high.1))

run_stays : (after : Bool) (run rest : List ℕ) → run ≢ [] → AreHigh run
    → line_ends_after after (run ++ rest) ≡ run ++ line_ends_after false rest
run_stays after [] rest some high = absurd (some refl)
run_stays false (b ∷ run) rest some high = high_stays (b ∷ run) rest high
run_stays true (b ∷ run) rest some high =
    let first : nat_eq b 13 ≡ false = ne_eqb b 13 (λ e. omega (arith, e, high.0)) in
    let second : nat_eq b 10 ≡ false = ne_eqb b 10 (λ e. omega (arith, e, high.0)) in
    rw (first, second) (ap (λ l. b ∷ l) (high_stays run rest high.1))

line_end_chars : (after : Bool) (c : ℕ) → c < 128 → is_char c ≡ true → IsChars (line_end after c)
line_end_chars after c low h =
    cond_both (nat_eq c 13) (10 ∷ []) (if after && nat_eq c 10 then [] else c ∷ []) IsChars
    (λ e. ascii_char 10 (omega arith) refl)
    (λ e. cond_both (after && nat_eq c 10) [] (c ∷ []) IsChars (λ d. chars_nil) (λ d. ascii_char c low h))

lines_chars : (after : Bool) (cs : List ℕ) → AreChars cs → IsChars (line_ends_after after (encode_utf8_all cs))
lines_chars after [] each = chars_nil
lines_chars after (c ∷ cs) each = elim (cases_lt c 128) [
  | inl low ↦ subst IsChars (sym (ap (λ l. line_ends_after after (l ++ encode_utf8_all cs)) (encode_ascii c low)))
      (chars_append (line_end after c) (line_ends_after (nat_eq c 13) (encode_utf8_all cs))
      (line_end_chars after c low each.0) (lines_chars (nat_eq c 13) cs each.1))
  | inr high ↦ subst IsChars (sym (run_stays after (encode_utf8 c) (encode_utf8_all cs) (encode_some c) (high_bytes c
      high)))
      (chars_append (encode_utf8 c) (line_ends_after false (encode_utf8_all cs)) (one_char c each.0)
      (lines_chars false cs each.1))
]

pub with_line_ends_chars : (bytes : List ℕ) → IsChars bytes → IsChars (with_line_ends bytes)
with_line_ends_chars bytes is =
    subst (λ (l : List ℕ). IsChars (with_line_ends l)) (sym is.coded) (lines_chars false is.characters is.each)

-- ---- spaces

run_kept : (run : List ℕ) → AreHigh run → map space_of run ≡ run
run_kept [] high = refl
run_kept (b ∷ run) high =
    let first : nat_eq b 9 ≡ false = ne_eqb b 9 (λ e. omega (arith, e, high.0)) in
    let second : nat_eq b 10 ≡ false = ne_eqb b 10 (λ e. omega (arith, e, high.0)) in
    rw (first, second) (ap (λ l. b ∷ l) (run_kept run high.1))

space_chars : (c : ℕ) → c < 128 → is_char c ≡ true → IsChars (space_of c ∷ [])
space_chars c low h =
    cond_both (nat_eq c 9 || nat_eq c 10) 32 c (λ b. IsChars (b ∷ [])) (λ e. ascii_char 32 (omega arith) refl)
    (λ e. ascii_char c low h)

spaces_of : (c : ℕ) → is_char c ≡ true → IsChars (map space_of (encode_utf8 c))
spaces_of c h = elim (cases_lt c 128) [
  | inl low ↦ subst IsChars (sym (ap (λ l. map space_of l) (encode_ascii c low))) (space_chars c low h)
  | inr high ↦ subst IsChars (sym (run_kept (encode_utf8 c) (high_bytes c high))) (one_char c h)
]

spaces_chars : (cs : List ℕ) → AreChars cs → IsChars (map space_of (encode_utf8_all cs))
spaces_chars [] each = chars_nil
spaces_chars (c ∷ cs) each =
    subst IsChars (sym (map-append space_of (encode_utf8 c) (encode_utf8_all cs)))
    (chars_append (map space_of (encode_utf8 c)) (map space_of (encode_utf8_all cs)) (spaces_of c each.0)
    (spaces_chars cs each.1))

pub with_spaces_chars : (bytes : List ℕ) → IsChars bytes → IsChars (with_spaces bytes)
with_spaces_chars bytes is =
    let lines = with_line_ends_chars bytes is in
    subst (λ (l : List ℕ). IsChars (map space_of l)) (sym lines.coded) (spaces_chars lines.characters lines.each)
