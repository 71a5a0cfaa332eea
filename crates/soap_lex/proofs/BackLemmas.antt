-- What is written is read back.
use Rattle.std.proofs.Common.{◌≡◌, ℕ, suc, ◌<◌, ◌≤◌, Bool, true, false, ◌==◌, List, [], ◌∷◌, ◌++◌, length, get_or, refl}
use Rattle.std.proofs.Common.{sym, ap, ◌∙◌, subst, arith, inl, inr, append_assoc, eqb-true}
use Rattle.std.specs.Prelude.{◌⊎◌, IsTrue, encode_utf8, encode_utf8_all, map}
use Rattle.std.specs.List.{AllByRecursion, flat_map}
use Rattle.std.specs.Str.{NonePass}
use Rattle.std.proofs.lemmas.Bool.{cases_lt}
use Rattle.std.proofs.lemmas.Bool.Decides.{nat_tests}
use Rattle.std.proofs.lemmas.List.{append-nil}
use Rattle.std.proofs.lemmas.List.Concat.{flat_map-append}
use Rattle.std.proofs.lemmas.Str.{encode_ascii, inside_one, encodes-append, NoCharPasses-byte}
use Rattle.memchr.specs.Find.{is_byte}
use Rattle.xml_chars.specs.Classes.{is_char}
use Rattle.soap_lex.specs.Characters.{IsChars}
use Rattle.soap_lex.specs.Escapes.{text_escape, value_escape, escaped_text, escaped_value}
use Rattle.soap_lex.specs.References.{IsReference, ampersand, less, greater, quote, decimal}
use Rattle.soap_lex.specs.Text.{IsCharData, IsText, run, more, reference, with_line_ends}
use Rattle.soap_lex.specs.Value.{IsPlainValue, IsInner, IsValue, double, with_spaces, space_of, run as inner_run}
use Rattle.soap_lex.specs.Value.{more as inner_more}
use Rattle.soap_lex.proofs.HoldsLemmas.{NonePass-from_places, NonePass-lacks}
use Rattle.soap_lex.proofs.LineLemmas.{line_ends-none, no_blanks}

by_test : (b : Bool) → (b ≡ true) ⊎ (b ≡ false)
by_test true = inl refl
by_test false = inr refl

-- a character that stands for itself in text
record IsFree (c : ℕ) : Type 0 where
  pub char : IsTrue (is_char c)
  pub ampersand_not : (c == 38) ≡ false
  pub less_not : (c == 60) ≡ false
  pub greater_not : (c == 62) ≡ false
  pub return_not : (c == 13) ≡ false

-- and in a value
record IsFreeValue (c : ℕ) : Type 0 where
  pub text : IsFree c
  pub quote_not : (c == 34) ≡ false
  pub tab_not : (c == 9) ≡ false
  pub line_not : (c == 10) ≡ false

-- a character that doesn't
record IsEscaped (escape : ℕ → List ℕ) (c : ℕ) : Type 0 where
  pub ascii : c < 128
  pub refers : IsReference (escape c) c

escaped_as : (escape : ℕ → List ℕ) (c n : ℕ) → (c == n) ≡ true → n < 128 → IsReference (escape n) n → IsEscaped escape c
escaped_as escape c n e small is =
    let same : c ≡ n = eqb-true c n e in
    let P : ℕ → Type 0 = λ m. IsReference (escape m) m in
    record { ascii = omega arith; refers = subst P (sym same) is }

return_reference : IsReference (text_escape 13) 13
return_reference = decimal (49 ∷ 51 ∷ []) (λ e. cc) (refl, (refl, tt)) refl

tab_reference : IsReference (value_escape 9) 9
tab_reference = decimal (57 ∷ []) (λ e. cc) (refl, tt) refl

line_reference : IsReference (value_escape 10) 10
line_reference = decimal (49 ∷ 48 ∷ []) (λ e. cc) (refl, (refl, tt)) refl

text_case : (c : ℕ) → IsTrue (is_char c) → IsEscaped text_escape c ⊎ IsFree c
text_case c char =
    elim (by_test (c == 38)) [
      | inl e ↦ inl (escaped_as text_escape c 38 e (omega arith) ampersand)
      | inr a ↦ elim (by_test (c == 60)) [
        | inl e ↦ inl (escaped_as text_escape c 60 e (omega arith) less)
        | inr b ↦ elim (by_test (c == 62)) [
          | inl e ↦ inl (escaped_as text_escape c 62 e (omega arith) greater)
          | inr d ↦ elim (by_test (c == 13)) [
            | inl e ↦ inl (escaped_as text_escape c 13 e (omega arith) return_reference)
            | inr f ↦ inr (record { char = char; ampersand_not = a; less_not = b; greater_not = d; return_not = f })
          ]
        ]
      ]
    ]

value_case : (c : ℕ) → IsTrue (is_char c) → IsEscaped value_escape c ⊎ IsFreeValue c
value_case c char =
    elim (by_test (c == 34)) [
      | inl e ↦ inl (escaped_as value_escape c 34 e (omega arith) quote)
      | inr a ↦ elim (by_test (c == 9)) [
        | inl e ↦ inl (escaped_as value_escape c 9 e (omega arith) tab_reference)
        | inr b ↦ elim (by_test (c == 10)) [
          | inl e ↦ inl (escaped_as value_escape c 10 e (omega arith) line_reference)
          | inr d ↦ elim (text_case c char) [
            | inl escaped ↦
                let same : value_escape c ≡ text_escape c = rw (a, b, d) refl in
                let P : List ℕ → Type 0 = λ l. IsReference l c in
                inl (record { ascii = escaped.ascii; refers = subst P (sym same) escaped.refers })
            | inr free ↦ inr (record { text = free; quote_not = a; tab_not = b; line_not = d })
          ]
        ]
      ]
    ]

text_free : (c : ℕ) → IsFree c → text_escape c ≡ c ∷ []
text_free c free = rw (free.ampersand_not, free.less_not, free.greater_not, free.return_not) refl

value_free : (c : ℕ) → IsFreeValue c → value_escape c ≡ c ∷ []
value_free c free = rw (free.quote_not, free.tab_not, free.line_not) (text_free c free.text)

far : (b n : ℕ) → 128 ≤ b → n < 128 → (b == n) ≡ false
far b n h small = grind (arith, nat_tests)

-- a byte of a character beyond ASCII stands for itself
text_far : (b : ℕ) → 128 ≤ b → text_escape b ≡ b ∷ []
text_far b h = rw (
  far b 38 h (omega arith),
  far b 60 h (omega arith),
  far b 62 h (omega arith),
  far b 13 h (omega arith),
) refl

value_far : (b : ℕ) → 128 ≤ b → value_escape b ≡ b ∷ []
value_far b h = rw (far b 34 h (omega arith), far b 9 h (omega arith), far b 10 h (omega arith)) (text_far b h)

flat_same : (escape : ℕ → List ℕ) (bytes : List ℕ)
    → ((k : ℕ) → k < length bytes → escape (get_or bytes k 0) ≡ get_or bytes k 0 ∷ []) → flat_map escape bytes ≡ bytes
flat_same escape [] each = refl
flat_same escape (x ∷ bytes) each =
    ap (λ l. l ++ flat_map escape bytes) (each 0 (omega arith))
    ∙ ap (λ l. x ∷ l) (flat_same escape bytes (λ k h. each (suc k) (omega arith)))

high_bytes : (c k : ℕ) → 128 ≤ c → k < length (encode_utf8 c) → 128 ≤ get_or (encode_utf8 c) k 0
high_bytes c k h within =
    elim (cases_lt (get_or (encode_utf8 c) k 0) 128) [
      | inl low ↦ let same = inside_one c [] (encode_utf8 c) k (sym (append-nil (encode_utf8 c))) within low in
          absurd (omega (arith, same))
      | inr high ↦ high
    ]

-- a free character is written as it is, and another as its reference
flat_free : (escape : ℕ → List ℕ) → ((b : ℕ) → 128 ≤ b → escape b ≡ b ∷ []) → (c : ℕ) → escape c ≡ c ∷ []
    → flat_map escape (encode_utf8 c) ≡ encode_utf8 c
flat_free escape beyond c free =
    elim (cases_lt c 128) [
      | inl low ↦ ap (λ l. flat_map escape l) (encode_ascii c low) ∙ append-nil (escape c) ∙ free
          ∙ sym (encode_ascii c low)
      | inr high ↦ flat_same escape (encode_utf8 c)
          (λ k within. beyond (get_or (encode_utf8 c) k 0) (high_bytes c k high within))
    ]

flat_escaped : (escape : ℕ → List ℕ) (c : ℕ) → c < 128 → flat_map escape (encode_utf8 c) ≡ escape c
flat_escaped escape c low = ap (λ l. flat_map escape l) (encode_ascii c low) ∙ append-nil (escape c)

-- characters that aren't this ASCII byte have no such byte
lacks_byte : (q : ℕ) (cs : List ℕ) → q < 128 → NonePass (is_byte q) cs → NonePass (is_byte q) (encode_utf8_all cs)
lacks_byte q cs small none =
    NonePass-from_places (is_byte q) (encode_utf8_all cs) (λ k within.
    elim (cases_lt (get_or (encode_utf8_all cs) k 0) 128) [
      | inl low ↦ NoCharPasses-byte (is_byte q) (encode_utf8_all cs) k (cs, refl, none) within low
      | inr high ↦ far (get_or (encode_utf8_all cs) k 0) q high small
    ])

none_of : (P : ℕ → Type 0) (q : ℕ) → ((c : ℕ) → P c → (c == q) ≡ false) → (cs : List ℕ) → AllByRecursion P cs
    → NonePass (is_byte q) cs
none_of P q each [] all = tt
none_of P q each (c ∷ cs) all = (each c all.0, none_of P q each cs all.1)

chars_of : (P : ℕ → Type 0) → ((c : ℕ) → P c → IsTrue (is_char c)) → (cs : List ℕ) → AllByRecursion P cs
    → AllByRecursion (λ c. IsTrue (is_char c)) cs
chars_of P each [] all = tt
chars_of P each (c ∷ cs) all = (each c all.0, chars_of P each cs all.1)

all_push : (P : ℕ → Type 0) (cs : List ℕ) (c : ℕ) → AllByRecursion P cs → P c → AllByRecursion P (cs ++ c ∷ [])
all_push P [] c all is = (is, tt)
all_push P (d ∷ cs) c all is = (all.0, all_push P cs c all.1 is)

encodes_push : (cs : List ℕ) (c : ℕ) → encode_utf8_all (cs ++ c ∷ []) ≡ encode_utf8_all cs ++ encode_utf8 c
encodes_push cs c = encodes-append cs (c ∷ []) ∙ ap (λ l. encode_utf8_all cs ++ l) (append-nil (encode_utf8 c))

-- a run of free characters is character data, and means itself
free_data : (cs : List ℕ) → AllByRecursion IsFree cs → IsCharData (encode_utf8_all cs)
free_data cs all = record {
  chars = record { characters = cs; each = chars_of IsFree (λ c free. free.char) cs all; coded = refl };
  no_less = NonePass-lacks 60 (encode_utf8_all cs)
      (lacks_byte 60 cs (omega arith) (none_of IsFree 60 (λ c free. free.less_not) cs all));
  no_ampersand = NonePass-lacks 38 (encode_utf8_all cs)
      (lacks_byte 38 cs (omega arith) (none_of IsFree 38 (λ c free. free.ampersand_not) cs all));
  no_close = λ close. NonePass-lacks 62 (encode_utf8_all cs)
      (lacks_byte 62 cs (omega arith) (none_of IsFree 62 (λ c free. free.greater_not) cs all))
      (record {
        before = close.before ++ 93 ∷ 93 ∷ [];
        after = close.after;
        there = close.there
            ∙ sym (append_assoc close.before (93 ∷ 93 ∷ []) (62 ∷ close.after));
      });
}

free_lines : (cs : List ℕ) → NonePass (is_byte 13) cs → with_line_ends (encode_utf8_all cs) ≡ encode_utf8_all cs
free_lines cs none = line_ends-none (encode_utf8_all cs) (lacks_byte 13 cs (omega arith) none)

moved : {a b x y : List ℕ} → a ≡ b → x ≡ y → IsText a x → IsText b y
moved {a} {b} {x} {y} e f is =
    let P : List ℕ → Type 0 = λ l. IsText l y in
    let Q : List ℕ → Type 0 = λ l. IsText a l in
    subst P e (subst Q f is)

-- characters behind a run of free ones
text_behind : (cs front : List ℕ) → AllByRecursion (λ c. IsTrue (is_char c)) cs → AllByRecursion IsFree front
    → IsText (encode_utf8_all front ++ flat_map text_escape (encode_utf8_all cs))
    (encode_utf8_all front ++ encode_utf8_all cs)
text_behind [] front chars free =
    moved (sym (append-nil (encode_utf8_all front)))
    (free_lines front (none_of IsFree 13 (λ c f. f.return_not) front free) ∙ sym (append-nil (encode_utf8_all front)))
    (run (encode_utf8_all front) (free_data front free))
text_behind (c ∷ cs) front chars free =
    let written : flat_map text_escape (encode_utf8 c ++ encode_utf8_all cs) ≡ flat_map text_escape
    (encode_utf8 c) ++ flat_map text_escape (encode_utf8_all cs) =
    flat_map-append text_escape (encode_utf8 c) (encode_utf8_all cs) in
    elim (text_case c chars.0) [
      | inl escaped ↦
          let later : IsText (flat_map text_escape (encode_utf8_all cs)) (encode_utf8_all cs) =
          text_behind cs [] chars.1 tt in
          moved
          (ap (λ l. encode_utf8_all front ++ l)
          (ap (λ l. l ++ flat_map text_escape (encode_utf8_all cs)) (sym (flat_escaped text_escape c escaped.ascii))
          ∙ sym written))
          (ap (λ l. l ++ (encode_utf8 c ++ encode_utf8_all cs))
          (free_lines front (none_of IsFree 13 (λ d f. f.return_not) front free)))
          (more (encode_utf8_all front) (text_escape c) (encode_utf8 c) (flat_map text_escape (encode_utf8_all cs))
          (encode_utf8_all cs)
          (free_data front free) (reference (text_escape c) c escaped.refers) later)
      | inr here ↦
          let later : IsText (encode_utf8_all (front ++ c ∷ []) ++ flat_map text_escape (encode_utf8_all cs))
          (encode_utf8_all (front ++ c ∷ []) ++ encode_utf8_all cs) =
          text_behind cs (front ++ c ∷ []) chars.1 (all_push IsFree front c free here) in
          moved
          (ap (λ l. l ++ flat_map text_escape (encode_utf8_all cs)) (encodes_push front c)
          ∙ append_assoc (encode_utf8_all front) (encode_utf8 c) (flat_map text_escape (encode_utf8_all cs))
          ∙ ap (λ l. encode_utf8_all front ++ l)
          (ap (λ l. l ++ flat_map text_escape (encode_utf8_all cs))
          (sym (flat_free text_escape text_far c (text_free c here))) ∙ sym written))
          (ap (λ l. l ++ encode_utf8_all cs) (encodes_push front c)
          ∙ append_assoc (encode_utf8_all front) (encode_utf8 c) (encode_utf8_all cs))
          later
    ]

-- text that is written means what was written
pub text_back : (bytes : List ℕ) → IsChars bytes → IsText (escaped_text bytes) bytes
text_back bytes is =
    let P : List ℕ → Type 0 = λ l. IsText (escaped_text l) l in
    subst P (sym is.coded) (text_behind is.characters [] is.each tt)

-- a run of free characters of a value means itself
free_value : (cs : List ℕ) → AllByRecursion IsFreeValue cs → IsPlainValue 34 (encode_utf8_all cs)
free_value cs all = record {
  chars = record { characters = cs; each = chars_of IsFreeValue (λ c free. free.text.char) cs all; coded = refl };
  no_less = NonePass-lacks 60 (encode_utf8_all cs)
      (lacks_byte 60 cs (omega arith) (none_of IsFreeValue 60 (λ c free. free.text.less_not) cs all));
  no_ampersand = NonePass-lacks 38 (encode_utf8_all cs)
      (lacks_byte 38 cs (omega arith) (none_of IsFreeValue 38 (λ c free. free.text.ampersand_not) cs all));
  no_quote = NonePass-lacks 34 (encode_utf8_all cs)
      (lacks_byte 34 cs (omega arith) (none_of IsFreeValue 34 (λ c free. free.quote_not) cs all));
}

free_spaces : (cs : List ℕ) → AllByRecursion IsFreeValue cs → with_spaces (encode_utf8_all cs) ≡ encode_utf8_all cs
free_spaces cs all =
    ap (λ l. map space_of l) (free_lines cs (none_of IsFreeValue 13 (λ c f. f.text.return_not) cs all))
    ∙ no_blanks (encode_utf8_all cs) (lacks_byte 9 cs (omega arith) (none_of IsFreeValue 9 (λ c f. f.tab_not) cs all))
    (lacks_byte 10 cs (omega arith) (none_of IsFreeValue 10 (λ c f. f.line_not) cs all))

inner_moved : {a b x y : List ℕ} → a ≡ b → x ≡ y → IsInner 34 a x → IsInner 34 b y
inner_moved {a} {b} {x} {y} e f is =
    let P : List ℕ → Type 0 = λ l. IsInner 34 l y in
    let Q : List ℕ → Type 0 = λ l. IsInner 34 a l in
    subst P e (subst Q f is)

value_behind : (cs front : List ℕ) → AllByRecursion (λ c. IsTrue (is_char c)) cs → AllByRecursion IsFreeValue front
    → IsInner 34 (encode_utf8_all front ++ flat_map value_escape (encode_utf8_all cs))
    (encode_utf8_all front ++ encode_utf8_all cs)
value_behind [] front chars free =
    inner_moved (sym (append-nil (encode_utf8_all front))) (free_spaces front free
    ∙ sym (append-nil (encode_utf8_all front)))
    (inner_run (encode_utf8_all front) (free_value front free))
value_behind (c ∷ cs) front chars free =
    let written : flat_map value_escape (encode_utf8 c ++ encode_utf8_all cs) ≡ flat_map value_escape
    (encode_utf8 c) ++ flat_map value_escape (encode_utf8_all cs) =
    flat_map-append value_escape (encode_utf8 c) (encode_utf8_all cs) in
    elim (value_case c chars.0) [
      | inl escaped ↦
          let later : IsInner 34 (flat_map value_escape (encode_utf8_all cs)) (encode_utf8_all cs) =
          value_behind cs [] chars.1 tt in
          inner_moved
          (ap (λ l. encode_utf8_all front ++ l)
          (ap (λ l. l ++ flat_map value_escape (encode_utf8_all cs)) (sym (flat_escaped value_escape c escaped.ascii))
          ∙ sym written))
          (ap (λ l. l ++ (encode_utf8 c ++ encode_utf8_all cs)) (free_spaces front free))
          (inner_more (encode_utf8_all front) (value_escape c) c (flat_map value_escape (encode_utf8_all cs))
          (encode_utf8_all cs)
          (free_value front free) escaped.refers later)
      | inr here ↦
          let later : IsInner 34 (encode_utf8_all (front ++ c ∷ []) ++ flat_map value_escape (encode_utf8_all cs))
          (encode_utf8_all (front ++ c ∷ []) ++ encode_utf8_all cs) =
          value_behind cs (front ++ c ∷ []) chars.1 (all_push IsFreeValue front c free here) in
          inner_moved
          (ap (λ l. l ++ flat_map value_escape (encode_utf8_all cs)) (encodes_push front c)
          ∙ append_assoc (encode_utf8_all front) (encode_utf8 c) (flat_map value_escape (encode_utf8_all cs))
          ∙ ap (λ l. encode_utf8_all front ++ l)
          (ap (λ l. l ++ flat_map value_escape (encode_utf8_all cs))
          (sym (flat_free value_escape value_far c (value_free c here))) ∙ sym written))
          (ap (λ l. l ++ encode_utf8_all cs) (encodes_push front c)
          ∙ append_assoc (encode_utf8_all front) (encode_utf8 c) (encode_utf8_all cs))
          later
    ]

-- and so does a value between double quotes
pub value_back : (bytes : List ℕ) → IsChars bytes → IsValue (34 ∷ (escaped_value bytes ++ 34 ∷ [])) bytes
value_back bytes is =
    let P : List ℕ → Type 0 = λ l. IsInner 34 (escaped_value l) l in
    double (escaped_value bytes) bytes (subst P (sym is.coded) (value_behind is.characters [] is.each tt))
