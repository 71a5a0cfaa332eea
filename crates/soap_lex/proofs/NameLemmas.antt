-- The longest name at the front of a text.
use Rattle.std.proofs.Common.{◌≡◌, ◌≢◌, ℕ, ◌+◌, ◌≤◌, Bool, true, false, ◌||◌, List, [], ◌∷◌, ◌++◌, length, take, drop}
use Rattle.std.proofs.Common.{refl, sym, ap, ◌∙◌, subst, arith, append_assoc, length-append}
use Rattle.std.specs.Prelude.{IsTrue, encode_utf8, encode_utf8_all}
use Rattle.std.specs.List.{AllByRecursion}
use Rattle.std.specs.Str.{chars, IsUtf8}
use Rattle.std.proofs.lemmas.List.{append-nil, take_at, drop_at}
use Rattle.std.proofs.lemmas.Str.{encodes-append, encode_same, cons_from_encodes, length-encode, len_utf8_bounds}
use Rattle.std.proofs.lemmas.Str.{encodes-chars, chars_past_char}
use Rattle.xml_chars.specs.Classes.{is_name_start, is_name_char, is_within, name_more_ranges}
use Rattle.soap_lex.specs.Characters.{IsName, IsLongestName}
use Rattle.soap_lex.specs.Cut.{IsNameRun}
use Rattle.soap_lex.proofs.CharsLemmas.{begins, each-append}

-- characters of a name stand before the rest
pub record NameSo (text rest : List ℕ) (end : ℕ) : Type 0 where
  pub characters : List ℕ
  pub each : AllByRecursion (λ c. IsTrue (is_name_char c)) characters
  pub there : text ≡ encode_utf8_all characters ++ rest
  pub size : length (encode_utf8_all characters) ≡ end

pub NameSo-step : (text rest after : List ℕ) (end c : ℕ) → NameSo text rest end → rest ≡ encode_utf8 c ++ after
    → IsTrue (is_name_char c)
    → NameSo text after (end + length (encode_utf8 c))
NameSo-step text rest after end c so there is =
    let one : encode_utf8_all (c ∷ []) ≡ encode_utf8 c = append-nil (encode_utf8 c) in
    let more : encode_utf8_all (so.characters ++ c ∷ []) ≡ encode_utf8_all so.characters ++ encode_utf8 c =
    encodes-append so.characters (c ∷ []) ∙ ap (λ l. encode_utf8_all so.characters ++ l) one in
    record {
      characters = so.characters ++ c ∷ [];
      each = each-append is_name_char so.characters (c ∷ []) so.each (is, tt);
      there = so.there ∙ ap (λ l. encode_utf8_all so.characters ++ l) there
          ∙ sym (append_assoc (encode_utf8_all so.characters) (encode_utf8 c) after)
          ∙ ap (λ l. l ++ after) (sym more);
      size = ap length more ∙ length-append (encode_utf8_all so.characters) (encode_utf8 c)
          ∙ ap (λ n. n + length (encode_utf8 c)) so.size;
    }

rest_is : (text rest : List ℕ) (end : ℕ) (so : NameSo text rest end) → drop end text ≡ rest
rest_is text rest end so = ap (λ l. drop end l) so.there ∙ drop_at (encode_utf8_all so.characters) rest end so.size

contradiction : (b : Bool) → b ≡ true → b ≡ false → ⊥
contradiction b e f = cc

encode_some : (c : ℕ) (more : List ℕ) → [] ≡ encode_utf8 c ++ more → ⊥
encode_some c more e = let size = len_utf8_bounds c in
    omega (arith, ap length e, length-append (encode_utf8 c) more, length-encode c, size.0)

-- a character that may not stand in a name stops the run
pub NameSo-stopped : (text rest after : List ℕ) (end c : ℕ) → NameSo text rest end → rest ≡ encode_utf8 c ++ after
    → is_name_char c ≡ false → IsNameRun text end
NameSo-stopped text rest after end c so there other = record {
  characters = so.characters;
  each = so.each;
  there = so.there ∙ ap (λ l. encode_utf8_all so.characters ++ l) (sym (rest_is text rest end so));
  size = so.size;
  ends = λ d more e is.
      let same = encode_same d c more after (sym e ∙ rest_is text rest end so ∙ there) in
      contradiction (is_name_char c) (sym (ap is_name_char same.0) ∙ is) other;
}

-- and so does the end
pub NameSo-ended : (text : List ℕ) (end : ℕ) → NameSo text [] end → IsNameRun text end
NameSo-ended text end so = record {
  characters = so.characters;
  each = so.each;
  there = so.there ∙ ap (λ l. encode_utf8_all so.characters ++ l) (sym (rest_is text [] end so));
  size = so.size;
  ends = λ d more e is. encode_some d more (sym (rest_is text [] end so) ∙ e);
}

-- characters that begin with others
split_encodes : (cs ds more : List ℕ) → encode_utf8_all ds ≡ encode_utf8_all cs ++ more
    → (es : List ℕ) × (ds ≡ cs ++ es) × (encode_utf8_all es ≡ more)
split_encodes [] ds more e = (ds, refl, e)
split_encodes (c ∷ cs) ds more e =
    let first = cons_from_encodes ds (encode_utf8_all cs ++ more) c
    (e ∙ append_assoc (encode_utf8 c) (encode_utf8_all cs) more) in
    let later = split_encodes cs first.0 more first.2 in
    (later.0, first.1 ∙ ap (λ l. c ∷ l) later.1, later.2)

each-behind : (xs ys : List ℕ) → AllByRecursion (λ c. IsTrue (is_name_char c)) (xs ++ ys)
    → AllByRecursion (λ c. IsTrue (is_name_char c)) ys
each-behind [] ys all = all
each-behind (x ∷ xs) ys all = each-behind xs ys all.1

-- more characters of a name don't follow
no_more : (es more rest later : List ℕ) → AllByRecursion (λ c. IsTrue (is_name_char c)) es → encode_utf8_all es ≡ more
    → more ≢ [] → rest ≡ more ++ later
    → ((c : ℕ) (after : List ℕ) → rest ≡ encode_utf8 c ++ after → IsTrue (is_name_char c) → ⊥) → ⊥
no_more [] more rest later all e some there ends = some (sym e)
no_more (c ∷ es) more rest later all e some there ends =
    ends c (encode_utf8_all es ++ later) (there ∙ ap (λ l. l ++ later) (sym e)
    ∙ append_assoc (encode_utf8 c) (encode_utf8_all es) later) all.0

name_char : (c : ℕ) → IsTrue (is_name_start c) → IsTrue (is_name_char c)
name_char c is = ap (λ b. b || is_within name_more_ranges c) is

name_all : (bytes : List ℕ) (is : IsName bytes) → AllByRecursion (λ c. IsTrue (is_name_char c)) (is.first ∷ is.others)
name_all bytes is = (name_char is.first is.starts, is.each)

starts_from : (b : Bool) → (b || false) ≡ true → b ≡ true
starts_from true e = refl
starts_from false e = e

-- the run is a name, where the text begins as one
run_name : (text : List ℕ) (n : ℕ) (cs characters : List ℕ) → encode_utf8_all cs ≡ text → begins cs ≡ true
    → AllByRecursion (λ c. IsTrue (is_name_char c)) characters → text ≡ encode_utf8_all characters ++ drop n text
    → ((c : ℕ) (more : List ℕ) → drop n text ≡ encode_utf8 c ++ more → IsTrue (is_name_char c) → ⊥)
    → IsName (encode_utf8_all characters)
run_name text n [] characters coded first each there ends = cc
run_name text n (c ∷ cs) [] coded first each there ends =
    absurd (ends c (encode_utf8_all cs) (sym there ∙ sym coded) (name_char c (starts_from (is_name_start c) first)))
run_name text n (c ∷ cs) (d ∷ characters) coded first each there ends =
    let same = encode_same c d (encode_utf8_all cs) (encode_utf8_all characters ++ drop n text)
    (coded ∙ there ∙ append_assoc (encode_utf8 d) (encode_utf8_all characters) (drop n text)) in
    record {
      first = d;
      others = characters;
      starts = ap is_name_start (sym same.0) ∙ starts_from (is_name_start c) first;
      each = each.1;
      coded = refl;
    }

-- the longest name at the front
pub longest_run : (text : List ℕ) (n : ℕ) → IsUtf8 text → begins (chars text) ≡ true → IsNameRun text n
    → IsLongestName text (take n text) (drop n text)
longest_run text n utf8 first found =
    let front : take n text ≡ encode_utf8_all found.characters =
    ap (λ l. take n l) found.there ∙ take_at (encode_utf8_all found.characters) (drop n text) n found.size in
    let P : List ℕ → Type 0 = λ l. IsLongestName text l (drop n text) in
    subst P (sym front) (record {
      is = run_name text n (chars text) found.characters
          (encodes-chars text utf8) first found.each found.there found.ends;
      there = found.there;
      longest = λ more later some there is.
          let split = split_encodes found.characters (is.first ∷ is.others) more (sym is.coded) in
          let Q : List ℕ → Type 0 = λ l. AllByRecursion (λ c. IsTrue (is_name_char c)) l in
          no_more split.0 more (drop n text) later
          (each-behind found.characters split.0
          (subst Q split.1 (name_all (encode_utf8_all found.characters ++ more) is)))
          split.2 some there found.ends;
    })

pub run_within : (text : List ℕ) (n : ℕ) → IsNameRun text n → n ≤ length text
run_within text n found =
    omega (arith, ap length found.there, length-append (encode_utf8_all found.characters) (drop n text), found.size)

-- a text that begins otherwise begins with no name
pub no_name : (text name rest : List ℕ) → IsUtf8 text → begins (chars text) ≡ false → text ≡ name ++ rest → IsName name
    → ⊥
no_name text name rest utf8 other there is =
    let first : text ≡ encode_utf8 is.first ++ (encode_utf8_all is.others ++ rest) =
    there ∙ ap (λ l. l ++ rest) is.coded ∙ append_assoc (encode_utf8 is.first) (encode_utf8_all is.others) rest in
    let head : begins (chars text) ≡ (is_name_start is.first || false) =
    ap begins (chars_past_char text (encode_utf8_all is.others ++ rest) is.first utf8 first) in
    contradiction (is_name_start is.first || false) (ap (λ b. b || false) is.starts) (sym head ∙ other)

pub empty_rest : (rest : List ℕ) → length rest ≡ 0 → rest ≡ []
empty_rest [] e = refl
empty_rest (x ∷ rest) e = absurd (omega arith)
