-- Lemmas on texts, which the crates above use: the test of a text decides what a text is.
use Rattle.std.proofs.Common.{◌≡◌, ℕ, ◌-◌, Bool, true, false, not, ◌&&◌, nat_lt, nat_le, List, length, refl, arith}
use Rattle.std.specs.Prelude.{slice_index}
use Rattle.std.specs.List.{list_all}
use Rattle.std.specs.Str.{is_utf8, chars}
use Rattle.std.proofs.lemmas.Bool.Decides.{nat_tests}
use Rattle.std.proofs.lemmas.Str.{IsUtf8-from_is_utf8, is_utf8-from_IsUtf8}
use Rattle.xml_chars.specs.Classes.{is_char, is_space}
use Rattle.rm_base.specs.Text.{IsText, is_text}

-- each of six tests that are all true
record Six (a b c d e f : Bool) : Type 0 where
  one : a ≡ true
  two : b ≡ true
  three : c ≡ true
  four : d ≡ true
  five : e ≡ true
  six : f ≡ true

-- tests that are all true together are true each
six_from : (a b c d e f : Bool) → (a && b && c && d && e && f) ≡ true → Six a b c d e f
six_from true true true true true true h =
    record { one = refl; two = refl; three = refl; four = refl; five = refl; six = refl }
six_from false b c d e f h = absurd (cc)
six_from true false c d e f h = absurd (cc)
six_from true true false d e f h = absurd (cc)
six_from true true true false e f h = absurd (cc)
six_from true true true true false f h = absurd (cc)
six_from true true true true true false h = absurd (cc)

-- what is not true is false
not_false : (b : Bool) → not b ≡ true → b ≡ false
not_false true h = absurd (cc)
not_false false h = refl

-- bytes that pass the test are a text
pub is_text-IsText : (limit : ℕ) (bytes : List ℕ) → is_text limit bytes ≡ true → IsText limit bytes
is_text-IsText limit bytes h =
    let each = six_from (nat_lt 0 (length bytes)) (nat_le (length bytes) limit) (is_utf8 bytes)
    (list_all is_char (chars bytes)) (not (is_space (slice_index bytes 0)))
    (not (is_space (slice_index bytes (length bytes - 1)))) h in
    record {
      some = grind (arith, nat_tests, each.one);
      within = grind (arith, nat_tests, each.two);
      characters = record { utf8 = IsUtf8-from_is_utf8 bytes each.three; each = each.four };
      trimmed = record {
        begins = not_false (is_space (slice_index bytes 0)) each.five;
        ends = not_false (is_space (slice_index bytes (length bytes - 1))) each.six;
      };
    }

-- a text passes the test
pub IsText-is_text : (limit : ℕ) (bytes : List ℕ) → IsText limit bytes → is_text limit bytes ≡ true
IsText-is_text limit bytes h =
    let some = h.some in
    let within = h.within in
    let one : nat_lt 0 (length bytes) ≡ true = grind (arith, nat_tests) in
    let two : nat_le (length bytes) limit ≡ true = grind (arith, nat_tests) in
    rw (one, two, is_utf8-from_IsUtf8 bytes h.characters.utf8, h.characters.each, h.trimmed.begins, h.trimmed.ends) refl
