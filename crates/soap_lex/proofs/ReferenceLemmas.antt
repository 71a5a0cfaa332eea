-- References: what stands in them, that each has one end and one meaning.
use Rattle.std.proofs.Common.{◌≡◌, ◌≢◌, ℕ, ◌<◌, Bool, true, false, ◌==◌, List, [], ◌∷◌, ◌++◌, get_or}
use Rattle.std.proofs.Common.{Some, None, Option, refl, sym, ap, ◌∙◌, subst, arith, append_assoc}
use Rattle.std.specs.Prelude.{IsTrue, codes, IfSome, IfNone, if◌then◌else◌}
use Rattle.std.specs.Char.{digit_value, is_ascii_digit, is_ascii_hexdigit}
use Rattle.std.specs.List.{AllByRecursion}
use Rattle.std.specs.Str.{NonePass}
use Rattle.std.specs.Str.Parse.{AllDigits, digits_value}
use Rattle.std.proofs.lemmas.Bool.Decides.{nat_tests}
use Rattle.std.proofs.lemmas.List.{append_cancel_right}
use Rattle.memchr.specs.Find.{is_byte}
use Rattle.xml_chars.specs.Classes.{is_char}
use Rattle.soap_lex.specs.References.{IsReference, ampersand, less, greater, apostrophe, quote, decimal, hexadecimal}
use Rattle.soap_lex.proofs.WordLemmas.{same_run}

decimal_counts : (c : ℕ) → is_ascii_digit c ≡ true → digit_value c < 10
decimal_counts c e = grind (arith, nat_tests)

counts_decimal : (c : ℕ) → digit_value c < 10 → is_ascii_digit c ≡ true
counts_decimal c h = grind (arith, nat_tests)

hex_counts : (c : ℕ) → is_ascii_hexdigit c ≡ true → digit_value c < 16
hex_counts c e = grind (arith, nat_tests)

counts_hex : (c : ℕ) → digit_value c < 16 → is_ascii_hexdigit c ≡ true
counts_hex c h = grind (arith, nat_tests)

all_count : (test : ℕ → Bool) (base : ℕ) → ((c : ℕ) → test c ≡ true → digit_value c < base) → (ds : List ℕ)
    → AllByRecursion (λ d. IsTrue (test d)) ds → AllDigits base ds
all_count test base each [] all = tt
all_count test base each (d ∷ ds) all = (each d all.0, all_count test base each ds all.1)

count_all : (test : ℕ → Bool) (base : ℕ) → ((c : ℕ) → digit_value c < base → test c ≡ true) → (ds : List ℕ)
    → AllDigits base ds → AllByRecursion (λ d. IsTrue (test d)) ds
count_all test base each [] all = tt
count_all test base each (d ∷ ds) all = (each d all.0, count_all test base each ds all.1)

-- the digits write the number of a character
pub record IsNumber (base : ℕ) (digits : List ℕ) (c : ℕ) : Type 0 where
  pub some : digits ≢ []
  pub all : AllDigits base digits
  pub char : IsTrue (is_char (digits_value base digits))
  pub value : c ≡ digits_value base digits

-- two bytes that differ at a place are not the same
pub differ_at : (i : ℕ) (a b : List ℕ) → get_or a i 0 ≢ get_or b i 0 → a ≡ b → ⊥
differ_at i a b ne e = ne (ap (λ l. get_or l i 0) e)

digit_below : (d : ℕ) → is_ascii_digit d ≡ true → d < 58
digit_below d e = grind (arith, nat_tests)

no_x : (digits inner : List ℕ) → digits ≢ [] → AllByRecursion (λ d. IsTrue (is_ascii_digit d)) digits
    → digits ++ 59 ∷ [] ≡ 120 ∷ inner → ⊥
no_x [] inner some all e = some refl
no_x (d ∷ digits) inner some all e =
    let same : d ≡ 120 = cc in
    let fits : d < 58 = digit_below d all.0 in
    omega arith

x_first : (inner rest : List ℕ) → inner ++ 59 ∷ [] ≡ 120 ∷ rest → ((more : List ℕ) → inner ≡ 120 ∷ more → ⊥) → ⊥
x_first [] rest e other = absurd (differ_at 0 (59 ∷ []) (120 ∷ rest) (λ same. omega arith) e)
x_first (d ∷ inner) rest e other = other inner cc

-- a reference that is written with hexadecimal digits
pub hex_inner : (bytes : List ℕ) (c : ℕ) → IsReference bytes c → (inner : List ℕ)
    → bytes ≡ codes "&#x" ++ (inner ++ codes ";") → IsNumber 16 inner c
hex_inner _ _ ampersand inner e = absurd (differ_at 1 _ _ (λ same. omega arith) e)
hex_inner _ _ less inner e = absurd (differ_at 1 _ _ (λ same. omega arith) e)
hex_inner _ _ greater inner e = absurd (differ_at 1 _ _ (λ same. omega arith) e)
hex_inner _ _ apostrophe inner e = absurd (differ_at 1 _ _ (λ same. omega arith) e)
hex_inner _ _ quote inner e = absurd (differ_at 1 _ _ (λ same. omega arith) e)
hex_inner _ _ (decimal digits some all char) inner e =
    let tails : digits ++ 59 ∷ [] ≡ 120 ∷ (inner ++ 59 ∷ []) = cc in
    absurd (no_x digits (inner ++ 59 ∷ []) some all tails)
hex_inner _ _ (hexadecimal digits some all char) inner e =
    let tails : digits ++ 59 ∷ [] ≡ inner ++ 59 ∷ [] = cc in
    let same : digits ≡ inner = append_cancel_right digits inner (59 ∷ []) tails in
    let P : List ℕ → Type 0 = λ ds. IsNumber 16 ds (digits_value 16 digits) in
    subst P same (record {
      some = some;
      all = all_count is_ascii_hexdigit 16 hex_counts digits all;
      char = char;
      value =
          refl;
    })

-- and with decimal digits
pub decimal_inner : (bytes : List ℕ) (c : ℕ) → IsReference bytes c → (inner : List ℕ)
    → bytes ≡ codes "&#" ++ (inner ++ codes ";")
    → ((more : List ℕ) → inner ≡ 120 ∷ more → ⊥) → IsNumber 10 inner c
decimal_inner _ _ ampersand inner e other = absurd (differ_at 1 _ _ (λ same. omega arith) e)
decimal_inner _ _ less inner e other = absurd (differ_at 1 _ _ (λ same. omega arith) e)
decimal_inner _ _ greater inner e other = absurd (differ_at 1 _ _ (λ same. omega arith) e)
decimal_inner _ _ apostrophe inner e other = absurd (differ_at 1 _ _ (λ same. omega arith) e)
decimal_inner _ _ quote inner e other = absurd (differ_at 1 _ _ (λ same. omega arith) e)
decimal_inner _ _ (decimal digits some all char) inner e other =
    let tails : digits ++ 59 ∷ [] ≡ inner ++ 59 ∷ [] = cc in
    let same : digits ≡ inner = append_cancel_right digits inner (59 ∷ []) tails in
    let P : List ℕ → Type 0 = λ ds. IsNumber 10 ds (digits_value 10 digits) in
    subst P same (record {
      some = some;
      all = all_count is_ascii_digit 10 decimal_counts digits all;
      char =
          char;
      value = refl;
    })
decimal_inner _ _ (hexadecimal digits some all char) inner e other =
    let tails : inner ++ 59 ∷ [] ≡ 120 ∷ (digits ++ 59 ∷ []) = cc in
    absurd (x_first inner (digits ++ 59 ∷ []) tails other)

from_number : (base : ℕ) (digits : List ℕ) (c : ℕ) (bytes : List ℕ) → c ≡ digits_value base digits
    → IsReference bytes (digits_value base digits) → IsReference bytes c
from_number base digits c bytes e is = let P : ℕ → Type 0 = λ n. IsReference bytes n in subst P (sym e) is

-- what a reader of the digits answers is what a reader of the reference does
pub hex_found : (bytes digits : List ℕ) (r : Option ℕ) → bytes ≡ codes "&#x" ++ (digits ++ codes ";")
    → IfSome r (λ c. (digits ≢ []) × AllDigits 16 digits × IsTrue (is_char c) × (c ≡ digits_value 16 digits))
    → IfSome r (IsReference bytes)
hex_found bytes digits None there found = tt
hex_found bytes digits (Some c) there found =
    let P : List ℕ → Type 0 = λ l. IsReference l c in
    let char : IsTrue (is_char (digits_value 16 digits)) = ap is_char (sym found.3) ∙ found.2 in
    subst P (sym there) (from_number 16 digits c (codes "&#x" ++ (digits ++ codes ";")) found.3
    (hexadecimal digits found.0 (count_all is_ascii_hexdigit 16 counts_hex digits found.1) char))

pub hex_none : (bytes digits : List ℕ) (r : Option ℕ) → bytes ≡ codes "&#x" ++ (digits ++ codes ";")
    → IfNone r (digits ≢ [] → AllDigits 16 digits → IsTrue (is_char (digits_value 16 digits)) → ⊥)
    → IfNone r ((c : ℕ) → IsReference bytes c → ⊥)
hex_none bytes digits None there none = λ c is. let number = hex_inner bytes c is digits there in
    none number.some number.all number.char
hex_none bytes digits (Some c) there none = tt

pub decimal_found : (bytes digits : List ℕ) (r : Option ℕ) → bytes ≡ codes "&#" ++ (digits ++ codes ";")
    → IfSome r (λ c. (digits ≢ []) × AllDigits 10 digits × IsTrue (is_char c) × (c ≡ digits_value 10 digits))
    → IfSome r (IsReference bytes)
decimal_found bytes digits None there found = tt
decimal_found bytes digits (Some c) there found =
    let P : List ℕ → Type 0 = λ l. IsReference l c in
    let char : IsTrue (is_char (digits_value 10 digits)) = ap is_char (sym found.3) ∙ found.2 in
    subst P (sym there) (from_number 10 digits c (codes "&#" ++ (digits ++ codes ";")) found.3
    (decimal digits found.0 (count_all is_ascii_digit 10 counts_decimal digits found.1) char))

pub decimal_none : (bytes digits : List ℕ) (r : Option ℕ) → bytes ≡ codes "&#" ++ (digits ++ codes ";")
    → ((inner : List ℕ) → bytes ≡ codes "&#x" ++ (inner ++ codes ";") → ⊥)
    → IfNone r (digits ≢ [] → AllDigits 10 digits → IsTrue (is_char (digits_value 10 digits)) → ⊥)
    → IfNone r ((c : ℕ) → IsReference bytes c → ⊥)
decimal_none bytes digits None there no_hex none = λ c is.
    let number = decimal_inner bytes c is digits there
    (λ more e. no_hex more (there ∙ ap (λ l. codes "&#" ++ (l ++ codes ";")) e)) in
    none number.some number.all number.char
decimal_none bytes digits (Some c) there no_hex none = tt

digits_lack : (test : ℕ → Bool) → ((d : ℕ) → test d ≡ true → (d == 59) ≡ false) → (digits : List ℕ)
    → AllByRecursion (λ d. IsTrue (test d)) digits → NonePass (is_byte 59) digits
digits_lack test each [] all = tt
digits_lack test each (d ∷ digits) all = (each d all.0, digits_lack test each digits all.1)

decimal_ends : (d : ℕ) → is_ascii_digit d ≡ true → (d == 59) ≡ false
decimal_ends d e = grind (arith, nat_tests)

hex_ends : (d : ℕ) → is_ascii_hexdigit d ≡ true → (d == 59) ≡ false
hex_ends d e = grind (arith, nat_tests)

-- a reference begins with & and ends at its first ;
pub record IsClosed (bytes : List ℕ) : Type 0 where
  pub inner : List ℕ
  pub there : bytes ≡ 38 ∷ (inner ++ 59 ∷ [])
  pub none : NonePass (is_byte 59) inner

pub IsClosed-reference : (bytes : List ℕ) (c : ℕ) → IsReference bytes c → IsClosed bytes
IsClosed-reference _ _ ampersand = record { inner = codes "amp"; there = refl; none = (refl, (refl, (refl, tt))) }
IsClosed-reference _ _ less = record { inner = codes "lt"; there = refl; none = (refl, (refl, tt)) }
IsClosed-reference _ _ greater = record { inner = codes "gt"; there = refl; none = (refl, (refl, tt)) }
IsClosed-reference _ _ apostrophe =
    record { inner = codes "apos"; there = refl; none = (refl, (refl, (refl, (refl, tt)))) }
IsClosed-reference _ _ quote = record { inner = codes "quot"; there = refl; none = (refl, (refl, (refl, (refl, tt)))) }
IsClosed-reference _ _ (decimal digits some all char) =
    record { inner = 35 ∷ digits; there = refl; none = (refl, digits_lack is_ascii_digit decimal_ends digits all) }
IsClosed-reference _ _ (hexadecimal digits some all char) =
    record {
      inner = 35 ∷ 120 ∷ digits;
      there = refl;
      none =
          (refl, (refl, digits_lack is_ascii_hexdigit hex_ends digits all));
    }

-- the meaning of a reference by name, by its letters
abbrev named_value : List ℕ → ℕ
named_value bytes =
    if get_or bytes 1 0 == 97 then (if get_or bytes 2 0 == 109 then 38 else 39)
    else if get_or bytes 1 0 == 108 then 60 else if get_or bytes 1 0 == 103 then 62 else 34

value_named : (bytes : List ℕ) (c : ℕ) → IsReference bytes c → get_or bytes 1 0 ≢ 35 → c ≡ named_value bytes
value_named _ _ ampersand ne = refl
value_named _ _ less ne = refl
value_named _ _ greater ne = refl
value_named _ _ apostrophe ne = refl
value_named _ _ quote ne = refl
value_named _ _ (decimal digits some all char) ne = absurd (ne refl)
value_named _ _ (hexadecimal digits some all char) ne = absurd (ne refl)

no_x_head : (digits more : List ℕ) → AllByRecursion (λ d. IsTrue (is_ascii_digit d)) digits → digits ≡ 120 ∷ more → ⊥
no_x_head [] more all e = cc
no_x_head (d ∷ digits) more all e =
    let same : d ≡ 120 = cc in
    let fits : d < 58 = digit_below d all.0 in
    omega arith

-- a reference has one meaning
pub same_value : (bytes : List ℕ) (c d : ℕ) → IsReference bytes c → IsReference bytes d → c ≡ d
same_value _ _ d ampersand is = sym (value_named _ d is (λ e. omega arith))
same_value _ _ d less is = sym (value_named _ d is (λ e. omega arith))
same_value _ _ d greater is = sym (value_named _ d is (λ e. omega arith))
same_value _ _ d apostrophe is = sym (value_named _ d is (λ e. omega arith))
same_value _ _ d quote is = sym (value_named _ d is (λ e. omega arith))
same_value _ _ d (decimal digits some all char) is =
    sym (decimal_inner _ d is digits refl (λ more e. no_x_head digits more all e)).value
same_value _ _ d (hexadecimal digits some all char) is = sym (hex_inner _ d is digits refl).value

closed_run : (a b x y : List ℕ) → (ca : IsClosed a) (cb : IsClosed b) → a ++ x ≡ b ++ y → (a ≡ b) × (x ≡ y)
closed_run a b x y ca cb e =
    let left : a ++ x ≡ (38 ∷ ca.inner) ++ (59 ∷ x) = ap (λ l. l ++ x) ca.there
    ∙ append_assoc (38 ∷ ca.inner) (59 ∷ []) x in
    let right : b ++ y ≡ (38 ∷ cb.inner) ++ (59 ∷ y) = ap (λ l. l ++ y) cb.there
    ∙ append_assoc (38 ∷ cb.inner) (59 ∷ []) y in
    let (inners, rests) = same_run (is_byte 59) (38 ∷ ca.inner) (38 ∷ cb.inner) (59 ∷ x) (59 ∷ y) (refl, ca.none)
    (refl, cb.none) refl refl (sym left ∙ e ∙ right) in
    (ca.there ∙ ap (λ l. l ++ 59 ∷ []) inners ∙ sym cb.there, cc)

-- and one end
pub same_reference : (a b x y : List ℕ) (c d : ℕ) → IsReference a c → IsReference b d → a ++ x ≡ b ++ y
    → (a ≡ b) × (c ≡ d) × (x ≡ y)
same_reference a b x y c d ia ib e =
    let (same, rests) = closed_run a b x y (IsClosed-reference a c ia) (IsClosed-reference b d ib) e in
    let P : List ℕ → Type 0 = λ l. IsReference l d in
    (same, same_value a c d ia (subst P (sym same) ib), rests)
