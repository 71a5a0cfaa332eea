-- Texts that are put together and trimmed: they stay characters.
use Rattle.std.proofs.Common.{◌≡◌, ◌≤◌, ◌<◌, ℕ, Bool, true, false, ◌&&◌, if◌then◌else◌, List, [], ◌∷◌, ◌++◌}
use Rattle.std.proofs.Common.{Option, Some, None, option_map, inl, inr, refl, sym, ap, subst, ◌∙◌, arith}
use Rattle.std.specs.Prelude.{IfSome, encode_utf8, encode_utf8_all}
use Rattle.std.proofs.lemmas.Bool.{cases_lt, cond_both}
use Rattle.std.proofs.lemmas.Bool.Decides.{nat_tests}
use Rattle.std.proofs.lemmas.Str.{encode_ascii, cons_from_encodes}
use Rattle.xml_chars.specs.Classes.{is_space}
use Rattle.soap_lex.specs.Characters.{IsChars}
use Rattle.soap_lex.specs.Tests.{is_nil}
use Rattle.soap_document.specs.Profile.Tree.{Element, element, Parts, none, text, child, parts_without, parts_of}
use Rattle.soap_writer.specs.Writable.{ArePartsWritable}
use Rattle.soap_writer.specs.Stripped.CharLaws.{AreChars, AreHigh, chars_nil, chars_append, one_char, ascii_char}
use Rattle.soap_writer.specs.Stripped.CharLaws.{high_bytes}
use Rattle.soap_writer.specs.Stripped.Resolved.{IsResolved}
use Rattle.soap_writer.specs.Values.Children.{text_among}
use Rattle.soap_writer.specs.Values.Values.{trimmed_start, trimmed_end, trimmed, trimmed_text}

space_low : (b : ℕ) → is_space b ≡ true → b < 128
space_low b e = grind (arith, nat_tests)

high_is_none : (b : ℕ) → 128 ≤ b → is_space b ≡ false
high_is_none b h = grind (arith, nat_tests)

-- ---- characters

behind_ascii : (b : ℕ) (bytes : List ℕ) → b < 128 → IsChars (b ∷ bytes) → IsChars bytes
behind_ascii b bytes low is =
    let coded : encode_utf8_all is.characters ≡ encode_utf8 b ++ bytes =
    sym is.coded ∙ ap (λ l. l ++ bytes) (sym (encode_ascii b low)) in
    let parts = cons_from_encodes is.characters bytes b coded in
    record {
      characters = parts.0;
      each = (subst AreChars parts.1 is.each).1;
      coded = sym parts.2;
    }

start_chars : (bytes : List ℕ) → IsChars bytes → IsChars (trimmed_start bytes)
start_chars [] is = chars_nil
start_chars (b ∷ bytes) is =
    cond_both (is_space b) (trimmed_start bytes) (b ∷ bytes) IsChars
    (λ e. start_chars bytes (behind_ascii b bytes (space_low b e) is)) (λ e. is)

run_stays : (run rest : List ℕ) → AreHigh run → trimmed_end (run ++ rest) ≡ run ++ trimmed_end rest
run_stays [] rest high = refl
run_stays (b ∷ run) rest high = kept (is_nil (trimmed_end (run ++ rest))) (high_is_none b high.0)
    ∙ ap (λ l. b ∷ l) (run_stays run rest high.1)
  where
    kept : (t : Bool) → is_space b ≡ false
        → (if t && is_space b then [] else b ∷ trimmed_end (run ++ rest)) ≡ b ∷ trimmed_end (run ++ rest)
    kept true e = rw e refl
    kept false e = refl

end_chars : (cs : List ℕ) → AreChars cs → IsChars (trimmed_end (encode_utf8_all cs))
end_chars [] each = chars_nil
end_chars (c ∷ cs) each = elim (cases_lt c 128) [
  | inl low ↦ subst (λ (l : List ℕ). IsChars (trimmed_end (l ++ encode_utf8_all cs))) (sym (encode_ascii c low))
      (cond_both (is_nil (trimmed_end (encode_utf8_all cs)) && is_space c) [] (c ∷ trimmed_end (encode_utf8_all cs))
      IsChars (λ e. chars_nil) (λ e. chars_append (c ∷ []) (trimmed_end (encode_utf8_all cs))
      (ascii_char c low each.0) (end_chars cs each.1)))
  | inr high ↦ subst IsChars (sym (run_stays (encode_utf8 c) (encode_utf8_all cs) (high_bytes c high)))
      (chars_append (encode_utf8 c) (trimmed_end (encode_utf8_all cs)) (one_char c each.0) (end_chars cs each.1))
]

pub trimmed_chars : (bytes : List ℕ) → IsChars bytes → IsChars (trimmed bytes)
trimmed_chars bytes is =
    let start = start_chars bytes is in
    subst (λ (l : List ℕ). IsChars (trimmed_end l)) (sym start.coded) (end_chars start.characters start.each)

-- ---- twice

end_again : (b : ℕ) (rest : List ℕ) (t : Bool) → trimmed_end rest ≡ rest → (is_nil rest && is_space b) ≡ t
    → trimmed_end (if t then [] else b ∷ rest) ≡ (if t then [] else b ∷ rest)
end_again b rest true again e = refl
end_again b rest false again e = rw (again, e) refl

end_twice : (bytes : List ℕ) → trimmed_end (trimmed_end bytes) ≡ trimmed_end bytes
end_twice [] = refl
end_twice (b ∷ bytes) =
    end_again b (trimmed_end bytes) (is_nil (trimmed_end bytes) && is_space b) (end_twice bytes) refl

-- nothing, or a first byte that is no white space
abbrev Begins : List ℕ → Type 0
Begins [] = Unit {0}
Begins (b ∷ bytes) = is_space b ≡ false

start_begins : (bytes : List ℕ) → Begins (trimmed_start bytes)
start_begins [] = tt
start_begins (b ∷ bytes) =
    cond_both (is_space b) (trimmed_start bytes) (b ∷ bytes) Begins (λ e. start_begins bytes) (λ e. e)

start_same : (bytes : List ℕ) → Begins bytes → trimmed_start bytes ≡ bytes
start_same [] e = refl
start_same (b ∷ bytes) e = rw e refl

end_begins : (bytes : List ℕ) → Begins bytes → Begins (trimmed_end bytes)
end_begins [] e = tt
end_begins (b ∷ bytes) e =
    cond_both (is_nil (trimmed_end bytes) && is_space b) [] (b ∷ trimmed_end bytes) Begins (λ d. tt) (λ d. e)

pub trimmed_twice : (bytes : List ℕ) → trimmed (trimmed bytes) ≡ trimmed bytes
trimmed_twice bytes =
    ap trimmed_end (start_same (trimmed bytes) (end_begins (trimmed_start bytes) (start_begins bytes)))
    ∙ end_twice (trimmed_start bytes)

-- ---- the text of an element

map_chars : (bytes : List ℕ) (o : Option (List ℕ)) → IsChars bytes → IfSome o IsChars
    → IfSome (option_map (λ more. bytes ++ more) o) IsChars
map_chars bytes None is later = tt
map_chars bytes (Some more) is later = chars_append bytes more is later

among_chars : (parts : Parts) → ArePartsWritable (parts_without parts) → IfSome (text_among parts) IsChars
among_chars none is = chars_nil
among_chars (text bytes parts) is =
    map_chars bytes (text_among parts) is.0.chars (among_chars parts is.2)
among_chars (child first parts) is = tt

-- characters without white space at their ends
pub record IsReason (bytes : List ℕ) : Type 0 where
  pub chars : IsChars bytes
  pub ends : trimmed bytes ≡ bytes

reason_at : (o : Option (List ℕ)) → IfSome o IsChars → IfSome (option_map trimmed o) IsReason
reason_at None is = tt
reason_at (Some bytes) is = record { chars = trimmed_chars bytes is; ends = trimmed_twice bytes }

inner_parts : (depth : ℕ) (e : Element) → IsResolved depth e → ArePartsWritable (parts_without (parts_of e))
inner_parts depth (element name decls attrs parts) is = is.writable.1

pub trimmed_text_is : (depth : ℕ) (e : Element) → IsResolved depth e → IfSome (trimmed_text e) IsReason
trimmed_text_is depth e is =
    reason_at (text_among (parts_of e)) (among_chars (parts_of e) (inner_parts depth e is))
