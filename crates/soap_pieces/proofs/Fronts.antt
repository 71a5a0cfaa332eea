-- The longest front that is UTF-8, piece by piece.
use Rattle.std.proofs.Common.{◌≡◌, ℕ, ◌+◌, ◌≤◌, Bool, true, false, nat_lt, List, [], ◌∷◌, ◌++◌, length, take, drop}
use Rattle.std.proofs.Common.{Option, Some, None}
use Rattle.std.proofs.Common.{refl, sym, ap, subst, ◌∙◌, arith, length-append, append-nil}
use Rattle.std.proofs.Math.Utf8.{scalar, scalars, encode, encodes}
use Rattle.std.proofs.lemmas.Bool.{and_parts}
use Rattle.std.proofs.lemmas.Bool.Decides.{nat_tests}
use Rattle.std.proofs.lemmas.List.{append_assoc, append_cancel_left, length-take-le, take-append-drop}
use Rattle.std.proofs.lemmas.List.{take-append-le, take-take, take_at}
use Rattle.std.proofs.lemmas.Str.{IsUtf8-append, IsUtf8-drop, IsUtf8-encode, IsCharBoundary-from_take, length-encode}
use Rattle.std.proofs.lemmas.Str.{len_utf8_bounds}
use Rattle.std.specs.Char.{len_utf8}
use Rattle.std.specs.Str.{IsUtf8}
use Rattle.soap_document.specs.Profile.Document.{IsLongestText}
use Rattle.soap_pieces.specs.Front.{IsFront, IsStuck, IsTail}
use Rattle.soap_pieces.specs.declared.front.Front.{Front}

none_from_len : (xs : List ℕ) → length xs ≡ 0 → xs ≡ []
none_from_len [] e = refl
none_from_len (x ∷ xs) e = absurd (omega (arith, e))

-- ---- of bytes

-- no front of what stands behind the longest front is text
pub stuck_behind : (b : List ℕ) (n : ℕ) → n ≤ length b → IsUtf8 (take n b)
    → ((m : ℕ) → m ≤ length b → IsUtf8 (take m b) → m ≤ n) → IsStuck (drop n b)
stuck_behind b n l valid longest front more e u =
    let whole : take n b ++ front ++ more ≡ b = append_assoc (take n b) front more
    ∙ ap (λ x. take n b ++ x) (sym e) ∙ take-append-drop n b in
    let size : length (take n b ++ front) ≡ n + length front =
    length-append (take n b) front ∙ ap (λ k. k + length front) (length-take-le n b l) in
    let taken : take (n + length front) b ≡ take n b ++ front =
    ap (take (n + length front)) (sym whole) ∙ take_at (take n b ++ front) more (n + length front) size in
    let all : length b ≡ length (take n b ++ front) + length more =
    ap length (sym whole) ∙ length-append (take n b ++ front) more in
    let fits : n + length front ≤ length b = omega (arith, all, size) in
    let no_more : n + length front ≤ n = longest (n + length front) fits
    (subst IsUtf8 (sym taken) (IsUtf8-append (take n b) front valid u)) in
    none_from_len front (omega (arith, no_more))

-- ---- and with more behind them

no_text : (rest more front behind : List ℕ) → 4 ≤ length rest → IsStuck rest → rest ++ more ≡ front ++ behind
    → (cs : List ℕ) → scalars cs ≡ true → encodes cs ≡ front → front ≡ []
no_text rest more front behind long stuck e [] s is = sym is
no_text rest more front behind long stuck e (c ∷ cs) s is =
    let n = length (encode c) in
    let size : n ≡ len_utf8 c = length-encode c in
    let bounds = len_utf8_bounds c in
    let fits : n ≤ length rest = omega (arith, size, bounds.1, long) in
    let first : take n (rest ++ more) ≡ encode c = ap (take n) (e ∙ ap (λ x. x ++ behind) (sym is)
    ∙ append_assoc (encode c) (encodes cs) behind) ∙ take_at (encode c) (encodes cs ++ behind) n refl in
    let same : take n rest ≡ encode c = sym (take-append-le n rest more fits) ∙ first in
    let here = and_parts (scalar c) (scalars cs) s in
    let none : take n rest ≡ [] = stuck (take n rest) (drop n rest) (sym (take-append-drop n rest))
    (subst IsUtf8 (sym same) (IsUtf8-encode c here.0)) in
    let zero : n ≡ 0 = ap length (sym same ∙ none) in absurd (omega (arith, zero, size, bounds.0))

-- what is too long to begin a character is so with more behind it
pub stuck_longer : (rest more : List ℕ) → 4 ≤ length rest → IsStuck rest → IsStuck (rest ++ more)
stuck_longer rest more long stuck front behind e u = no_text rest more front behind long stuck e u.0 u.1.0 u.1.1

-- ---- the longest front

longer_is_none : (text rest : List ℕ) (m : ℕ) → IsUtf8 text → IsStuck rest → m ≤ length (text ++ rest)
    → IsUtf8 (take m (text ++ rest)) → length text ≤ m → take m (text ++ rest) ≡ text
longer_is_none text rest m u stuck fits w l =
    let bytes = text ++ rest in
    let x = take m bytes in
    let n = length text in
    let begins : take n x ≡ text = take-take n m bytes l ∙ take_at text rest n refl in
    let inside : n ≤ length x = omega (arith, l, length-take-le m bytes fits) in
    let more = drop n x in
    let is : text ++ more ≡ x = ap (λ t. t ++ more) (sym begins) ∙ take-append-drop n x in
    let valid : IsUtf8 more = IsUtf8-drop x n w (IsCharBoundary-from_take x n w inside
    (subst IsUtf8 (sym begins) u)) in
    let cut : text ++ rest ≡ text ++ (more ++ drop m bytes) = sym (take-append-drop m bytes)
    ∙ ap (λ t. t ++ drop m bytes) (sym is) ∙ append_assoc text more (drop m bytes) in
    let none : more ≡ [] = stuck more (drop m bytes) (append_cancel_left text rest (more ++ drop m bytes) cut) valid in
    sym is ∙ ap (λ t. text ++ t) none ∙ append-nil text

longest_by : (text rest : List ℕ) (m : ℕ) → IsUtf8 text → IsStuck rest → m ≤ length (text ++ rest)
    → IsUtf8 (take m (text ++ rest)) → (b : Bool) → nat_lt m (length text) ≡ b → m ≤ length text
longest_by text rest m u stuck fits w true e = grind (arith, nat_tests)
longest_by text rest m u stuck fits w false e =
    let l : length text ≤ m = grind (arith, nat_tests) in
    let same : m ≡ length text = sym (length-take-le m (text ++ rest) fits)
    ∙ ap length (longer_is_none text rest m u stuck fits w l) in
    omega (arith, same)

pub longest_front : (bytes text rest : List ℕ) → bytes ≡ text ++ rest → IsUtf8 text → IsStuck rest
    → IsLongestText bytes (length text)
longest_front bytes text rest is u stuck = subst (λ b. IsLongestText b (length text)) (sym is) (record {
  valid = subst IsUtf8 (sym (take_at text rest (length text) refl)) u;
  longest = λ m fits w. longest_by text rest m u stuck fits w (nat_lt m (length text)) refl;
})

-- ---- what a front says of the bytes

pub whole_text : (bytes text rest : List ℕ) → bytes ≡ text ++ rest → IsUtf8 text → length bytes ≤ length text
    → IsUtf8 bytes
whole_text bytes text rest is u l =
    let size : length bytes ≡ length text + length rest = ap length is ∙ length-append text rest in
    let none : rest ≡ [] = none_from_len rest (omega (arith, size, l)) in
    subst IsUtf8 (sym (is ∙ ap (λ x. text ++ x) none ∙ append-nil text)) u

-- ---- and of more bytes

long_tail : (o : Option (List ℕ)) (rest : List ℕ) → o ≡ None → IsTail o rest → 4 ≤ length rest
long_tail None rest e t = t
long_tail (Some tail) rest e t = absurd (cc)

still_long : (o : Option (List ℕ)) (rest more : List ℕ) → o ≡ None → 4 ≤ length rest → IsTail o (rest ++ more)
still_long None rest more e l =
    let size : length (rest ++ more) ≡ length rest + length more = length-append rest more in omega (arith, size, l)
still_long (Some tail) rest more e l = absurd (cc)

the_tail : (o : Option (List ℕ)) (tail rest : List ℕ) → o ≡ Some tail → IsTail o rest → tail ≡ rest
the_tail None tail rest e t = absurd (cc)
the_tail (Some other) tail rest e t = let same : other ≡ tail = cc in sym same ∙ t

-- behind what is too long to begin a character
pub front_stays : (f : Front) (bytes piece : List ℕ) → f.tail ≡ None → IsFront f bytes → IsFront f (bytes ++ piece)
front_stays f bytes piece e h =
    let long : 4 ≤ length h.rest = long_tail f.tail h.rest e h.tail in record {
      text = h.text;
      rest = h.rest ++ piece;
      is = ap (λ b. b ++ piece) h.is ∙ append_assoc h.text h.rest piece;
      valid = h.valid;
      count = h.count;
      stuck = stuck_longer h.rest piece long h.stuck;
      tail = still_long f.tail h.rest piece e long;
    }

-- behind a tail, where both are looked at together
pub front_joined : (f next : Front) (tail bytes piece : List ℕ) → f.tail ≡ Some tail → IsFront f bytes
    → IsFront next (tail ++ piece)
    → IsFront (record { valid = f.valid + next.valid; tail = next.tail }) (bytes ++ piece)
front_joined f next tail bytes piece e h n =
    let same : tail ≡ h.rest = the_tail f.tail tail h.rest e h.tail in
    let behind : h.rest ++ piece ≡ n.text ++ n.rest = ap (λ t. t ++ piece) (sym same) ∙ n.is in
    let size : length (h.text ++ n.text) ≡ length h.text + length n.text = length-append h.text n.text in record {
      text = h.text ++ n.text;
      rest = n.rest;
      is = ap (λ b. b ++ piece) h.is ∙ append_assoc h.text h.rest piece ∙ ap (λ r. h.text ++ r) behind
          ∙ sym (append_assoc h.text n.text n.rest);
      valid = IsUtf8-append h.text n.text h.valid n.valid;
      count = omega (arith, h.count, n.count, size);
      stuck = n.stuck;
      tail = n.tail;
    }
