-- Bytes that hold no byte that passes a test, and bytes that hold no word.
use Rattle.std.proofs.Common.{◌≡◌, ℕ, suc, ◌+◌, ◌<◌, Bool, true, false, ◌==◌, List, [], ◌∷◌, ◌++◌, length, get_or, take}
use Rattle.std.proofs.Common.{drop, Some, None, refl, sym, ap, ◌∙◌, inl, inr, arith, append_assoc, length-append}
use Rattle.std.proofs.Common.{length-take, get_or-take}
use Rattle.std.specs.Prelude.{◌⊎◌}
use Rattle.std.specs.Str.{NonePass}
use Rattle.std.proofs.lemmas.Bool.Decides.{nat_tests}
use Rattle.std.proofs.lemmas.List.{take-append-drop}
use Rattle.std.proofs.lemmas.List.Prefix.{at_from_reads, at_reads}
use Rattle.std.proofs.lemmas.List.{drop_at}
use Rattle.memchr.specs.Find.{IsFirstByte, OccursAt, FindsNeedle, is_byte}
use Rattle.soap_lex.specs.Characters.{Holds}

-- what holds the word in front of a byte
pub Holds-cons : (bytes word : List ℕ) (x : ℕ) → Holds bytes word → Holds (x ∷ bytes) word
Holds-cons bytes word x h = record { before = x ∷ h.before; after = h.after; there = ap (λ l. x ∷ l) h.there }

-- and with bytes behind
pub Holds-front : (bytes back word : List ℕ) → Holds bytes word → Holds (bytes ++ back) word
Holds-front bytes back word h = record {
  before = h.before;
  after = h.after ++ back;
  there = ap (λ l. l ++ back) h.there ∙ append_assoc h.before (word ++ h.after) back
      ∙ ap (λ l. h.before ++ l) (append_assoc word h.after back);
}

cases_at : (x : ℕ) (bytes word before after : List ℕ) → x ∷ bytes ≡ before ++ (word ++ after)
    → ((more : List ℕ) × (x ∷ bytes ≡ word ++ more)) ⊎ Holds bytes word
cases_at x bytes word [] after e = inl (after, e)
cases_at x bytes word (y ∷ before) after e = inr (record { before = before; after = after; there = cc })

-- bytes that hold a word begin with it, or hold it further on
pub Holds-cases : (x : ℕ) (bytes word : List ℕ) → Holds (x ∷ bytes) word
    → ((after : List ℕ) × (x ∷ bytes ≡ word ++ after)) ⊎ Holds bytes word
Holds-cases x bytes word h = cases_at x bytes word h.before h.after h.there

nil_at : (w : ℕ) (word before after : List ℕ) → [] ≡ before ++ ((w ∷ word) ++ after) → ⊥
nil_at w word [] after e = cc
nil_at w word (x ∷ before) after e = cc

-- no bytes hold no word
pub Holds-nil : (w : ℕ) (word : List ℕ) → Holds [] (w ∷ word) → ⊥
Holds-nil w word h = nil_at w word h.before h.after h.there

-- no byte passes the test, since no one does at any place
pub NonePass-from_places : (test : ℕ → Bool) (bytes : List ℕ)
    → ((k : ℕ) → k < length bytes → test (get_or bytes k 0) ≡ false) → NonePass test bytes
NonePass-from_places test [] each = tt
NonePass-from_places test (x ∷ bytes) each =
    (each 0 (omega arith), NonePass-from_places test bytes (λ k h. each (suc k) (omega arith)))

-- what fails one test fails a stricter one
pub NonePass-weaker : (p q : ℕ → Bool) → ((x : ℕ) → p x ≡ false → q x ≡ false) → (bytes : List ℕ) → NonePass p bytes
    → NonePass q bytes
NonePass-weaker p q each [] none = tt
NonePass-weaker p q each (x ∷ bytes) none = (each x none.0, NonePass-weaker p q each bytes none.1)

-- what fails two tests fails one of both
pub NonePass-join : (p q r : ℕ → Bool) → ((x : ℕ) → p x ≡ false → q x ≡ false → r x ≡ false) → (bytes : List ℕ)
    → NonePass p bytes → NonePass q bytes → NonePass r bytes
NonePass-join p q r each [] a b = tt
NonePass-join p q r each (x ∷ bytes) a b = (each x a.0 b.0, NonePass-join p q r each bytes a.1 b.1)

eqb-false-ne : (x b : ℕ) → (x == b) ≡ false → x ≡ b → ⊥
eqb-false-ne x b e same = grind (arith, nat_tests)

pub ne_test : (x b : ℕ) → (x ≡ b → ⊥) → (x == b) ≡ false
ne_test x b ne = grind (arith, nat_tests)

head_is : (x b : ℕ) (bytes after : List ℕ) → x ∷ bytes ≡ (b ∷ []) ++ after → x ≡ b
head_is x b bytes after e = cc

-- no byte is b
pub NonePass-lacks : (b : ℕ) (bytes : List ℕ) → NonePass (is_byte b) bytes → ¬ (Holds bytes (b ∷ []))
NonePass-lacks b [] none h = Holds-nil b [] h
NonePass-lacks b (x ∷ bytes) none h =
    elim (Holds-cases x bytes (b ∷ []) h) [
      | inl first ↦ eqb-false-ne x b none.0 (head_is x b bytes first.0 first.1)
      | inr later ↦ NonePass-lacks b bytes none.1 later
    ]

pub lacks-NonePass : (b : ℕ) (bytes : List ℕ) → ¬ (Holds bytes (b ∷ [])) → NonePass (is_byte b) bytes
lacks-NonePass b [] lacks = tt
lacks-NonePass b (x ∷ bytes) lacks = (
  ne_test x b (λ same. lacks (record { before = []; after = bytes; there = ap (λ y. y ∷ bytes) same })),
  lacks-NonePass b bytes (λ later. lacks (Holds-cons bytes (b ∷ []) x later)),
)

fails : (b : Bool) → ¬ (b ≡ true) → b ≡ false
fails true h = absurd (h refl)
fails false h = refl

-- a search that found no byte
pub NonePass-searched : (test : ℕ → Bool) (bytes : List ℕ) → IsFirstByte test bytes None → NonePass test bytes
NonePass-searched test bytes none =
    NonePass-from_places test bytes (λ k h. fails (test (get_or bytes k 0)) (none k (omega arith) h))

-- a search that found one: no byte before it passes
pub NonePass-before : (test : ℕ → Bool) (bytes : List ℕ) (k : ℕ) → IsFirstByte test bytes (Some k)
    → NonePass test (take k bytes)
NonePass-before test bytes k found =
    let bound : k < length bytes = found.0.high in
    NonePass-from_places test (take k bytes) (λ i h.
    let within : i < k = omega (arith, length-take k bytes) in
    ap test (get_or-take k bytes i 0 within) ∙ fails (test (get_or bytes i 0)) (found.0.before i (omega arith) within))

-- a word that occurs at a place is held
pub OccursAt-there : (bytes word : List ℕ) (k : ℕ) → OccursAt bytes word k
    → bytes ≡ take k bytes ++ (word ++ drop (k + length word) bytes)
OccursAt-there bytes word k occurs = sym (take-append-drop k bytes)
    ∙ ap (λ l. take k bytes ++ l) (at_from_reads 0 bytes word k occurs.fits occurs.reads)

-- and a word that is held occurs
pub OccursAt-held : (bytes word before after : List ℕ) → bytes ≡ before ++ (word ++ after)
    → OccursAt bytes word (length before)
OccursAt-held bytes word before after there = record {
  fits = omega (arith, ap length there, length-append before (word ++ after), length-append word after);
  reads = at_reads 0 bytes word (length before) after (ap (drop (length before)) there
      ∙ drop_at before (word ++ after) (length before) refl);
}

-- a search that found no word
pub lacks-searched : (bytes word : List ℕ) → FindsNeedle bytes word 0 None → ¬ (Holds bytes word)
lacks-searched bytes word none h =
    none (length h.before) (omega arith)
    (omega (arith, ap length h.there, length-append h.before (word ++ h.after)))
    (OccursAt-held bytes word h.before h.after h.there)

-- two dashes side by side, with one more behind: they stand in the bytes, or the bytes end with one
pub Holds-dashes : (d : ℕ) (bytes : List ℕ) → Holds (bytes ++ d ∷ []) (d ∷ d ∷ [])
    → Holds bytes (d ∷ d ∷ []) ⊎ ((front : List ℕ) × (bytes ≡ front ++ d ∷ []))
Holds-dashes d [] h = elim (Holds-cases d [] (d ∷ d ∷ []) h) [
  | inl first ↦ cc (first.1)
  | inr later ↦
      absurd (Holds-nil d (d ∷ []) later)
]
Holds-dashes d (x ∷ []) h =
    elim (Holds-cases x (d ∷ []) (d ∷ d ∷ []) h) [
      | inl first ↦ let same : x ≡ d = cc (first.1) in inr ([], ap (λ y. y ∷ []) same)
      | inr later ↦ absurd (elim (Holds-cases d [] (d ∷ d ∷ []) later) as (λ _. ⊥) [
        | inl first ↦
            cc (first.1)
        | inr none ↦ Holds-nil d (d ∷ []) none
      ])
    ]
Holds-dashes d (x ∷ y ∷ bytes) h =
    elim (Holds-cases x ((y ∷ bytes) ++ d ∷ []) (d ∷ d ∷ []) h) [
      | inl first ↦
          let one : x ≡ d = cc (first.1) in
          let two : y ≡ d = cc (first.1) in
          inl (record { before = []; after = bytes; there = cc })
      | inr later ↦
          elim (Holds-dashes d (y ∷ bytes) later) [
            | inl inside ↦ inl (Holds-cons (y ∷ bytes) (d ∷ d ∷ []) x inside)
            | inr ends ↦ inr (x ∷ ends.0, ap (λ l. x ∷ l) ends.1)
          ]
    ]

pub Holds-dash_end : (d : ℕ) (front : List ℕ) → Holds ((front ++ d ∷ []) ++ d ∷ []) (d ∷ d ∷ [])
Holds-dash_end d front = record { before = front; after = []; there = append_assoc front (d ∷ []) (d ∷ []) }

-- a byte that no byte is
pub lacks_each : (b : ℕ) (bytes : List ℕ) → ((k : ℕ) → k < length bytes → get_or bytes k 0 ≡ b → ⊥)
    → ¬ (Holds bytes (b ∷ []))
lacks_each b bytes each = NonePass-lacks b bytes (NonePass-from_places (is_byte b) bytes (λ k h. ne_test (get_or bytes k
    0) b (each k h)))

-- a word whose first byte does not stand there
pub lacks_first : (b : ℕ) (word bytes : List ℕ) → ¬ (Holds bytes (b ∷ [])) → ¬ (Holds bytes (b ∷ word))
lacks_first b word bytes lacks h =
    lacks (record { before = h.before; after = word ++ h.after; there = h.there })
