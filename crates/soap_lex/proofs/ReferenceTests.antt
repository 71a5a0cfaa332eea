-- The test of references, against the grammar.
use Rattle.std.proofs.Common.{◌≡◌, ◌≢◌, ℕ, ◌⊎◌, inl, inr, List, [], ◌∷◌, ◌++◌, Bool, true, false, not, ◌&&◌, nat_eq}
use Rattle.std.proofs.Common.{cond, Option, Some, None, drop, codes, refl, sym, ap, ap₂, subst, ◌∙◌}
use Rattle.std.specs.List.{AllByRecursion, list_all}
use Rattle.std.specs.Str.{bytes_eq}
use Rattle.std.specs.Char.{is_ascii_digit, is_ascii_hexdigit}
use Rattle.std.specs.Str.Parse.{digits_value}
use Rattle.std.proofs.lemmas.Bool.{eqb-true, and_parts, ne_eqb, true≢false}
use Rattle.xml_chars.specs.Classes.{is_char}
use Rattle.soap_lex.specs.References.{IsReference, ampersand, less as less_than, greater, apostrophe, quote, decimal}
use Rattle.soap_lex.specs.References.{hexadecimal}
use Rattle.soap_lex.specs.Tests.{is_nil, reference, begins, before_semicolon, character, numbered}
use Rattle.soap_lex.specs.Facts.{all_passes, all_from_passes, all_weaker, other, same, front_from_begins}
use Rattle.soap_lex.specs.Facts.{not_nil}

-- the bytes of a reference between & and ;
pub record Referred (bytes : List ℕ) (c : ℕ) : Type 0 where
  pub inner : List ℕ
  pub there : bytes ≡ 38 ∷ (inner ++ 59 ∷ [])
  pub text : AllByRecursion (λ d. nat_eq d 59 ≡ false) inner
  pub passes : reference bytes ≡ Some c

before_semicolon-append : (digits : List ℕ) → before_semicolon (digits ++ 59 ∷ []) ≡ Some digits
before_semicolon-append [] = refl
before_semicolon-append (d ∷ digits) = rw (before_semicolon-append digits)

character_passes : (is_digit : ℕ → Bool) (base : ℕ) (digits : List ℕ) → digits ≢ []
    → AllByRecursion (λ d. is_digit d ≡ true) digits → is_char (digits_value base digits) ≡ true
    → character is_digit base (Some digits) ≡ Some (digits_value base digits)
character_passes is_digit base digits some each is = rw (not_nil digits some, all_passes is_digit digits each, is)

decimal_passes : (digits : List ℕ) → digits ≢ [] → AllByRecursion (λ d. is_ascii_digit d ≡ true) digits
    → is_char (digits_value 10 digits) ≡ true
    → reference (codes "&#" ++ (digits ++ codes ";")) ≡ Some (digits_value 10 digits)
unfolding reference
decimal_passes [] some each is = absurd (some refl)
decimal_passes (d ∷ digits) some each is =
    rw (ne_eqb 120 d (λ e. true≢false (sym each.0 ∙ ap is_ascii_digit (sym e))))
    (ap (character is_ascii_digit 10) (before_semicolon-append (d ∷ digits))
    ∙ character_passes is_ascii_digit 10 (d ∷ digits) some each is)

hexadecimal_passes : (digits : List ℕ) → digits ≢ [] → AllByRecursion (λ d. is_ascii_hexdigit d ≡ true) digits
    → is_char (digits_value 16 digits) ≡ true
    → reference (codes "&#x" ++ (digits ++ codes ";")) ≡ Some (digits_value 16 digits)
unfolding reference
hexadecimal_passes digits some each is =
    ap (character is_ascii_hexdigit 16) (before_semicolon-append digits)
    ∙ character_passes is_ascii_hexdigit 16 digits some each is

pub reference_passes : (bytes : List ℕ) (c : ℕ) → IsReference bytes c → Referred bytes c
unfolding reference
reference_passes bytes c ampersand = record {
  inner = codes "amp";
  there = refl;
  text = (refl, (refl, (refl, tt)));
  passes = refl;
}
reference_passes bytes c less_than = record {
  inner = codes "lt";
  there = refl;
  text = (refl, (refl, tt));
  passes =
      refl;
}
reference_passes bytes c greater = record { inner = codes "gt"; there = refl; text = (refl, (refl, tt)); passes = refl }
reference_passes bytes c apostrophe = record {
  inner = codes "apos";
  there = refl;
  text = (
    refl,
    (
      refl,
      (
        refl,
        (refl, tt),
      ),
    ),
  );
  passes = refl;
}
reference_passes bytes c quote = record {
  inner = codes "quot";
  there = refl;
  text = (
    refl,
    (
      refl,
      (
        refl,
        (
          refl,
          tt,
        ),
      ),
    ),
  );
  passes = refl;
}
reference_passes bytes c (decimal digits some each is) = record {
  inner = 35 ∷ digits;
  there = refl;
  text = (
    refl,
    all_weaker (λ d. is_ascii_digit d ≡ true) (λ d. nat_eq d 59
        ≡ false) (λ d e. other is_ascii_digit d 59 e refl) digits each,
  );
  passes = decimal_passes digits some each is;
}
reference_passes bytes c (hexadecimal digits some each is) = record {
  inner = 35 ∷ 120 ∷ digits;
  there = refl;
  text = (
    refl,
    (
      refl,
      all_weaker (λ d. is_ascii_hexdigit d ≡ true) (λ d. nat_eq d 59
          ≡ false) (λ d e. other is_ascii_hexdigit d 59 e refl) digits each,
    ),
  );
  passes = hexadecimal_passes digits some each is;
}

picked : (t : Bool) (x y : Option ℕ) (c : ℕ) → cond t x y ≡ Some c → ((t ≡ true) × (x ≡ Some c)) ⊎ ((t ≡ false) × (y
    ≡ Some c))
picked true x y c h = inl (refl, h)
picked false x y c h = inr (refl, h)

named_from : (word bytes : List ℕ) (k c : ℕ) → IsReference word k → bytes_eq bytes word ≡ true → Some k ≡ Some c
    → IsReference bytes c
named_from word bytes k c r e h =
    let value : k ≡ c = cc in
    subst (λ (p : List ℕ × ℕ). IsReference p.0 p.1) (ap₂ (λ (x : List ℕ) (y : ℕ). (x, y)) (sym (same bytes word e))
    value) r

semicolon_more : (b : ℕ) (bytes front : List ℕ) (o : Option (List ℕ)) → before_semicolon bytes ≡ o
    → before_semicolon (b ∷ bytes) ≡ Some front
    → ((o ≡ None) × (cond (nat_eq b 59 && is_nil bytes) (Some []) None ≡ Some front)) ⊎ ((later : List ℕ) × (o
    ≡ Some later) × (front ≡ b ∷ later))
semicolon_more b bytes front None e h = inl (refl, rw (before_semicolon, e) at h)
semicolon_more b bytes front (Some later) e h = let x : Some (b ∷ later)
    ≡ Some front = rw (before_semicolon, e) at h in inr (later, refl, cc)

nil_from : (bytes : List ℕ) → is_nil bytes ≡ true → bytes ≡ []
nil_from [] e = refl
nil_from (b ∷ bytes) e = cc

semicolon_last : (t : Bool) (front : List ℕ) → cond t (Some []) None ≡ Some front → (t ≡ true) × (front ≡ [])
semicolon_last true front e = (refl, cc)
semicolon_last false front e = cc

semicolon_from : (bytes front : List ℕ) → before_semicolon bytes ≡ Some front → bytes ≡ front ++ 59 ∷ []
semicolon_from [] front e = cc
semicolon_from (b ∷ bytes) front e =
    elim (semicolon_more b bytes front (before_semicolon bytes) refl e) [
      | inl h ↦
          let l = semicolon_last (nat_eq b 59 && is_nil bytes) front h.1 in
          let (is, empty) = and_parts (nat_eq b 59) (is_nil bytes) l.0 in
          ap₂ (λ (x : ℕ) (xs : List ℕ). x ∷ xs) (eqb-true b 59 is) (nil_from bytes empty)
          ∙ ap (λ (x : List ℕ). x ++ 59 ∷ []) (sym l.1)
      | inr h ↦ ap (λ x. b ∷ x) (semicolon_from bytes h.0 h.1) ∙ ap (λ (x : List ℕ). x ++ 59 ∷ []) (sym h.2)
    ]

-- digits, and the character that they number
record Numbers (is_digit : ℕ → Bool) (base : ℕ) (bytes : List ℕ) (c : ℕ) : Type 0 where
  digits : List ℕ
  there : bytes ≡ digits ++ 59 ∷ []
  some : digits ≢ []
  each : AllByRecursion (λ d. is_digit d ≡ true) digits
  is : is_char (digits_value base digits) ≡ true
  value : digits_value base digits ≡ c

some_from : (bytes : List ℕ) → not (is_nil bytes) ≡ true → bytes ≢ []
some_from [] e = cc
some_from (b ∷ bytes) e = λ x. cc

character_of : (is_digit : ℕ → Bool) (base : ℕ) (bytes : List ℕ) (c : ℕ) (o : Option (List ℕ))
    → before_semicolon bytes ≡ o → character is_digit base o ≡ Some c → Numbers is_digit base bytes c
character_of is_digit base bytes c None e h = cc
character_of is_digit base bytes c (Some digits) e h =
    elim (picked (not (is_nil digits) && (list_all is_digit digits && is_char (digits_value base digits))) (Some
    (digits_value base digits)) None c h) [
      | inl k ↦
          let (some, k1) = and_parts (not (is_nil digits)) (list_all is_digit digits && is_char (digits_value base
          digits)) k.0 in
          let (each, is) = and_parts (list_all is_digit digits) (is_char (digits_value base digits)) k1 in
          record {
            digits = digits;
            there = semicolon_from bytes digits e;
            some = some_from digits some;
            each =
                all_from_passes is_digit digits each;
            is = is;
            value = cc;
          }
      | inr k ↦ cc (k.1)
    ]

decimal_from : (bytes : List ℕ) (c : ℕ) → begins (codes "&#") bytes ≡ true
    → character is_ascii_digit 10 (before_semicolon (drop 2 bytes)) ≡ Some c → IsReference bytes c
decimal_from bytes c e h =
    let n = character_of is_ascii_digit 10 (drop 2 bytes) c (before_semicolon (drop 2 bytes)) refl h in
    subst (λ (p : List ℕ × ℕ). IsReference p.0 p.1)
    (ap₂ (λ (x : List ℕ) (y : ℕ). (x, y)) (ap (λ (x : List ℕ). codes "&#" ++ x) (sym n.there)
    ∙ sym (front_from_begins (codes "&#") bytes e)) n.value)
    (decimal n.digits n.some n.each n.is)

hexadecimal_from : (bytes : List ℕ) (c : ℕ) → begins (codes "&#x") bytes ≡ true
    → character is_ascii_hexdigit 16 (before_semicolon (drop 3 bytes)) ≡ Some c → IsReference bytes c
hexadecimal_from bytes c e h =
    let n = character_of is_ascii_hexdigit 16 (drop 3 bytes) c (before_semicolon (drop 3 bytes)) refl h in
    subst (λ (p : List ℕ × ℕ). IsReference p.0 p.1)
    (ap₂ (λ (x : List ℕ) (y : ℕ). (x, y)) (ap (λ (x : List ℕ). codes "&#x" ++ x) (sym n.there)
    ∙ sym (front_from_begins (codes "&#x") bytes e)) n.value)
    (hexadecimal n.digits n.some n.each n.is)

numbered_from : (bytes : List ℕ) (c : ℕ) → numbered bytes ≡ Some c → IsReference bytes c
numbered_from bytes c h =
    let hex = character is_ascii_hexdigit 16 (before_semicolon (drop 3 bytes)) in
    let dec = character is_ascii_digit 10 (before_semicolon (drop 2 bytes)) in
    elim (picked (begins (codes "&#x") bytes) hex (cond (begins (codes "&#") bytes) dec None) c h) [
      | inl k ↦ hexadecimal_from bytes c k.0 k.1
      | inr k ↦ elim (picked (begins (codes "&#") bytes) dec None c k.1) [
        | inl j ↦ decimal_from bytes c j.0 j.1
        | inr j ↦ cc (j.1)
      ]
    ]

pub reference_from : (bytes : List ℕ) (c : ℕ) → reference bytes ≡ Some c → IsReference bytes c
unfolding reference
reference_from bytes c h =
    let after_apos = cond (bytes_eq bytes (codes "&quot;")) (Some 34) (numbered bytes) in
    let after_gt = cond (bytes_eq bytes (codes "&apos;")) (Some 39) after_apos in
    let after_lt = cond (bytes_eq bytes (codes "&gt;")) (Some 62) after_gt in
    let after_amp = cond (bytes_eq bytes (codes "&lt;")) (Some 60) after_lt in
    elim (picked (bytes_eq bytes (codes "&amp;")) (Some 38) after_amp c h) [
      | inl k ↦ named_from (codes "&amp;") bytes 38 c ampersand k.0 k.1
      | inr k1 ↦ elim (picked (bytes_eq bytes (codes "&lt;")) (Some 60) after_lt c k1.1) [
        | inl k ↦ named_from (codes "&lt;") bytes 60 c less_than k.0 k.1
        | inr k2 ↦ elim (picked (bytes_eq bytes (codes "&gt;")) (Some 62) after_gt c k2.1) [
          | inl k ↦ named_from (codes "&gt;") bytes 62 c greater k.0 k.1
          | inr k3 ↦ elim (picked (bytes_eq bytes (codes "&apos;")) (Some 39) after_apos c k3.1) [
            | inl k ↦ named_from (codes "&apos;") bytes 39 c apostrophe k.0 k.1
            | inr k4 ↦ elim (picked (bytes_eq bytes (codes "&quot;")) (Some 34) (numbered bytes) c k4.1) [
              | inl k ↦ named_from (codes "&quot;") bytes 34 c quote k.0 k.1
              | inr k5 ↦ numbered_from bytes c k5.1
            ]
          ]
        ]
      ]
    ]
