-- A part is looked at as soon as it has ended: where its text ends behind a place, it may end among the bytes from
-- there, by the tests of Ends.
use Rattle.std.proofs.Common.{◌≡◌, ◌∙◌, ℕ, ◌+◌, ◌-◌, ◌<◌, ◌≤◌, Bool, true, false, ◌&&◌, ◌==◌, if◌then◌else◌, List, []}
use Rattle.std.proofs.Common.{◌∷◌}
use Rattle.std.proofs.Common.{◌++◌, length, drop, ap, refl, arith, append_assoc, length-append}
use Rattle.std.specs.Prelude.{IsTrue, All}
use Rattle.std.specs.List.{list_any}
use Rattle.std.proofs.lemmas.Bool.{eqb-true}
use Rattle.std.proofs.lemmas.List.{drop-append-le}
use Rattle.std.proofs.lemmas.List.Elements.{All-head, All-tail}
use Rattle.httparse.specs.Ascii.{colon}
use Rattle.httparse.specs.Grammar.{LineEnd, crlf, lf, print_end, print_section, Field, IsField}
use Rattle.httparse.specs.Grammar.{AllPass, is_value_byte}
use Rattle.httparse.proofs.GrammarLemmas.{cons-append}
use Rattle.http_endpoint.specs.Bytes.{carriage_return, line_feed}
use Rattle.http_endpoint.specs.Ends.{meets_empty_line, ends_head, ends_line}

-- ---- a line

-- a line that ends behind a place ends among the bytes from there
pub line-ends : (front rest : List ℕ) (from : ℕ) → from ≤ length front
    → ends_line (front ++ line_feed ∷ rest) from ≡ true
line-ends front rest from at =
    rw (drop-append-le from front (line_feed ∷ rest) at) (has_feed (drop from front))
  where
    has_feed : (xs : List ℕ) → list_any (λ b. b == line_feed) (xs ++ line_feed ∷ rest) ≡ true
    has_feed [] = refl
    has_feed (x ∷ xs) = grind (arith, has_feed xs)

-- ---- an empty line behind some text

-- a byte of text: neither CR nor LF
pub record IsLetter (c : ℕ) : Type 0 where
  pub no_return : (c == carriage_return) ≡ false
  pub no_feed : (c == line_feed) ≡ false

-- bytes that end with a byte of text and two line ends
pub record EndsTwice (bytes : List ℕ) : Type 0 where
  pub front : List ℕ
  pub letter : ℕ
  pub first : LineEnd
  pub second : LineEnd
  pub is_letter : IsLetter letter
  pub bytes_are : bytes ≡ front ++ letter ∷ (print_end first ++ print_end second)

-- both of a choice are true
either : (c x y : Bool) → x ≡ true → y ≡ true → (if c then x else y) ≡ true
either true x y p q = p
either false x y p q = q

-- what holds whatever came before holds with one byte more before it
before : (t e : Bool) (b : ℕ) (bytes : List ℕ) → ((u v : Bool) → meets_empty_line u v bytes ≡ true)
    → meets_empty_line t e (b ∷ bytes) ≡ true
before t e b bytes all =
    either (b == line_feed) _ _ (either (t && e) _ _ refl (all t true))
    (either (b == carriage_return) _ _ (all t e) (all true false))

-- two line ends, behind text
twice : (first second : LineEnd) (rest : List ℕ)
    → meets_empty_line true false (print_end first ++ (print_end second ++ rest)) ≡ true
twice lf lf rest = refl
twice lf crlf rest = refl
twice crlf lf rest = refl
twice crlf crlf rest = refl

-- and the byte of text before them
letter_and_twice : (t e : Bool) (c : ℕ) (bytes : List ℕ) → IsLetter c → meets_empty_line true false bytes ≡ true
    → meets_empty_line t e (c ∷ bytes) ≡ true
letter_and_twice t e c bytes is well = simp (is.no_feed, is.no_return) well

-- whatever stands before them
pub meets : (front : List ℕ) (t e : Bool) (c : ℕ) (first second : LineEnd) (rest : List ℕ) → IsLetter c
    → meets_empty_line t e (front ++ c ∷ (print_end first ++ (print_end second ++ rest))) ≡ true
meets [] t e c first second rest is =
    letter_and_twice t e c (print_end first ++ (print_end second ++ rest)) is (twice first second rest)
meets (b ∷ front) t e c first second rest is =
    before t e b (front ++ c ∷ (print_end first ++ (print_end second ++ rest)))
    (λ u v. meets front u v c first second rest is)

-- a line end has two bytes at most
short_end : (l : LineEnd) → length (print_end l) ≤ 2
short_end lf = omega arith
short_end crlf = omega arith

-- where such bytes end behind a place, a head may end among the bytes from there
pub head-ends : (text rest : List ℕ) (from : ℕ) → EndsTwice text → from < length text
    → ends_head (text ++ rest) from ≡ true
head-ends text rest from e below =
    let one = short_end e.first in
    let two = short_end e.second in
    let long : length text ≡ length e.front + (1 + (length (print_end e.first) + length (print_end e.second))) =
    ap length e.bytes_are ∙ count e.front e.letter (print_end e.first) (print_end e.second) in
    let at : from - 4 ≤ length e.front = omega (arith, below, long, one, two) in
    let is : text ++ rest ≡ e.front ++ e.letter ∷ (print_end e.first ++ (print_end e.second ++ rest)) =
    ap (λ l. l ++ rest) e.bytes_are ∙ regroup e.front e.letter (print_end e.first) (print_end e.second) rest in
    rw (is, drop-append-le (from - 4) e.front _ at)
    (meets (drop (from - 4) e.front) false false e.letter e.first e.second rest e.is_letter)
  where
    count : (a : List ℕ) (x : ℕ) (b c : List ℕ) → length (a ++ x ∷ (b ++ c)) ≡ length a + (1 + (length b + length c))
    count a x b c = grind (arith, length-append)

    regroup : (a : List ℕ) (x : ℕ) (b c r : List ℕ) → (a ++ x ∷ (b ++ c)) ++ r ≡ a ++ x ∷ (b ++ (c ++ r))
    regroup a x b c r = simp append_assoc

-- ---- fields

-- what is not true is false
pub no : (c : Bool) → (c ≡ true → ⊥) → c ≡ false
no true f = absurd (f refl)
no false f = refl

-- a byte that passes a test that another fails is another
pub differs : (test : ℕ → Bool) (b k : ℕ) → test b ≡ true → test k ≡ false → (b == k) ≡ false
differs test b k passes fails = no (b == k) (λ same. let is = eqb-true b k same in cc)

-- a byte of a value is one of text
value_letter : (b : ℕ) → IsTrue (is_value_byte b) → IsLetter b
value_letter b is = record {
  no_return = differs is_value_byte b carriage_return is refl;
  no_feed = differs is_value_byte b line_feed is refl;
}

-- so is each of some
pub value_letters : (bytes : List ℕ) → AllPass is_value_byte bytes → All IsLetter bytes
value_letters bytes all = λ k d below. value_letter _ (all k d below)

-- the last of some bytes of text
pub record HasLast (bytes : List ℕ) : Type 0 where
  pub front : List ℕ
  pub letter : ℕ
  pub is_letter : IsLetter letter
  pub bytes_are : bytes ≡ front ++ letter ∷ []

-- a byte of text and others have a last one
pub last_letter : (x : ℕ) (xs : List ℕ) → IsLetter x → All IsLetter xs → HasLast (x ∷ xs)
last_letter x [] is all = record { front = []; letter = x; is_letter = is; bytes_are = refl }
last_letter x (y ∷ xs) is all =
    let more = last_letter y xs (All-head IsLetter y xs all) (All-tail IsLetter y xs all) in
    record {
      front = x ∷ more.front;
      letter = more.letter;
      is_letter = more.is_letter;
      bytes_are = ap (λ l. x ∷ l) more.bytes_are;
    }

-- a section that begins with a field, in its parts
section_line : (f : Field) (fields : List Field) (last : LineEnd) → print_section (f ∷ fields) last
    ≡ f.name ++ ((colon ∷ f.raw) ++ (print_end f.end ++ print_section fields last))
section_line f fields last = simp (append_assoc, cons-append)

-- behind a line with text a section ends with a byte of text and two line ends
pub section_ends : (fields : List Field) (last : LineEnd) (front : List ℕ) (letter : ℕ) (first : LineEnd)
    → IsLetter letter
    → All IsField fields → EndsTwice (front ++ letter ∷ (print_end first ++ print_section fields last))
section_ends [] last front letter first is all =
    record { front = front; letter = letter; first = first; second = last; is_letter = is; bytes_are = refl }
section_ends (f ∷ fields) last front letter first is all =
    let field = All-head IsField f fields all in
    let l = last_letter colon f.raw (record { no_return = refl; no_feed = refl }) (value_letters f.raw field.raw) in
    let e = section_ends fields last (front ++ letter ∷ (print_end first ++ (f.name ++ l.front))) l.letter f.end
    l.is_letter (All-tail IsField f fields all) in
    record {
      front = e.front;
      letter = e.letter;
      first = e.first;
      second = e.second;
      is_letter = e.is_letter;
      bytes_are = ap (λ l. front ++ letter ∷ (print_end first ++ l)) (section_line f fields last)
          ∙ ap (λ w. front ++ letter ∷ (print_end first ++ (f.name ++ (w ++ (print_end f.end
          ++ print_section fields last))))) l.bytes_are
          ∙ regroup front letter (print_end first) f.name l.front l.letter (print_end f.end)
          (print_section fields last)
          ∙ e.bytes_are;
    }
  where
    regroup : (a : List ℕ) (x : ℕ) (b n w : List ℕ) (c : ℕ) (v s : List ℕ)
        → a ++ x ∷ (b ++ (n ++ ((w ++ c ∷ []) ++ (v ++ s)))) ≡ (a ++ x ∷ (b ++ (n ++ w))) ++ c ∷ (v ++ s)
    regroup a x b n w c v s = simp (append_assoc, cons-append)

-- and so does one with a field
pub fields_end : (f : Field) (fields : List Field) (last : LineEnd) → All IsField (f ∷ fields)
    → EndsTwice (print_section (f ∷ fields) last)
fields_end f fields last all =
    let field = All-head IsField f fields all in
    let l = last_letter colon f.raw (record { no_return = refl; no_feed = refl }) (value_letters f.raw field.raw) in
    let e = section_ends fields last (f.name ++ l.front) l.letter f.end l.is_letter (All-tail IsField f fields all) in
    record {
      front = e.front;
      letter = e.letter;
      first = e.first;
      second = e.second;
      is_letter = e.is_letter;
      bytes_are = section_line f fields last
          ∙ ap (λ w. f.name ++ (w ++ (print_end f.end ++ print_section fields last))) l.bytes_are
          ∙ regroup f.name l.front l.letter (print_end f.end) (print_section fields last)
          ∙ e.bytes_are;
    }
  where
    regroup : (n w : List ℕ) (c : ℕ) (v s : List ℕ)
        → n ++ ((w ++ c ∷ []) ++ (v ++ s)) ≡ (n ++ w) ++ c ∷ (v ++ s)
    regroup n w c v s = simp (append_assoc, cons-append)
