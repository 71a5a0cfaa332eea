-- What the searches of tokens answer.
use Rattle.std.proofs.Common.{◌≡◌, ◌≢◌, ℕ, zero, suc, ◌+◌, ◌<◌, Bool, true, false, not, ◌||◌, ◌==◌, List, [], ◌∷◌, ◌++◌}
use Rattle.std.proofs.Common.{length, get_or, take, drop, Some, None, Option, is_some, refl, sym, ap, ◌∙◌, arith, Bor}
use Rattle.std.specs.Prelude.{IsTrue, IfSome, IfNone, MatchOption}
use Rattle.std.proofs.lemmas.List.{append_cancel_left}
use Rattle.std.specs.Str.{NonePass}
use Rattle.memchr.specs.Find.{IsFirstByte, FindsNeedle, is_byte, is_byte2, is_byte3}
use Rattle.soap_lex.specs.declared.error.LexError.{LexError}
use Rattle.soap_lex.specs.declared.error.LexError.TheVariants.{Memory, NotProfile}
use Rattle.soap_lex.specs.Characters.{Holds}
use Rattle.soap_lex.specs.Cut.{OnRefusal}
use Rattle.soap_lex.proofs.HoldsLemmas.{NonePass-searched, NonePass-lacks, lacks-NonePass, NonePass-weaker}
use Rattle.soap_lex.proofs.HoldsLemmas.{NonePass-join, lacks-searched, OccursAt-there}

two_values : false ≡ true → ⊥
two_values e = cc

true_from_not : (b : Bool) → false ≡ not b → b ≡ true
true_from_not true e = refl
true_from_not false e = cc

false_from_not : (b : Bool) → true ≡ not b → b ≡ true → ⊥
false_from_not true e h = cc
false_from_not false e h = cc

-- a search for a word
pub lacks_answer : (bytes word : List ℕ) (r : Option ℕ) (b : Bool) → is_some r ≡ not b → FindsNeedle bytes word 0 r
    → (IsTrue b → ¬ (Holds bytes word)) × (¬ (Holds bytes word) → IsTrue b)
lacks_answer bytes word None b e found = (λ _. lacks-searched bytes word found, λ _. true_from_not b e)
lacks_answer bytes word (Some k) b e found = (
  λ is. absurd (false_from_not b e is),
  λ lacks. absurd (lacks (record {
    before = take k bytes;
    after = drop (k + length word) bytes;
    there =
        OccursAt-there bytes word k found.1;
  })),
)

-- no byte passes, so none does at a place
pub fails_at : (test : ℕ → Bool) (bytes : List ℕ) (k : ℕ) → NonePass test bytes → k < length bytes
    → test (get_or bytes k 0) ≡ false
fails_at test [] k none h = absurd (omega arith)
fails_at test (x ∷ bytes) zero none h = none.0
fails_at test (x ∷ bytes) (suc k) none h = fails_at test bytes k none.1 (omega arith)

-- a search for a byte that passes
none_answer : (test : ℕ → Bool) (bytes : List ℕ) (r : Option ℕ) (b : Bool) → is_some r ≡ not b
    → IsFirstByte test bytes r
    → (IsTrue b → NonePass test bytes) × (NonePass test bytes → IsTrue b)
none_answer test bytes None b e found = (λ _. NonePass-searched test bytes found, λ _. true_from_not b e)
none_answer test bytes (Some k) b e found =
    let high : k < length bytes = found.0.high in (
      λ is. absurd (false_from_not b e is),
      λ none. absurd (two_values (sym (fails_at test bytes k none high) ∙ found.1)),
    )

-- a search for a word's first byte
pub lacks_word : (bytes word : List ℕ) → 0 < length word → ¬ (Holds bytes (get_or word 0 0 ∷ []))
    → ¬ (Holds bytes word)
lacks_word bytes [] some lacks h = absurd (omega (arith, some))
lacks_word bytes (w ∷ word) some lacks h =
    lacks (record { before = h.before; after = word ++ h.after; there = h.there })

left_false : (a b : Bool) → (a || b) ≡ false → a ≡ false
left_false true b e = e
left_false false b e = refl

right_false : (a b : Bool) → (a || b) ≡ false → b ≡ false
right_false true b e = cc
right_false false b e = e

both_false : (a b : Bool) → a ≡ false → b ≡ false → (a || b) ≡ false
both_false a b ea eb = ap (λ x. x || b) ea ∙ eb

pub split2 : (p q : ℕ) (bytes : List ℕ) → NonePass (is_byte2 p q) bytes → ¬ (Holds bytes (p ∷ []))
    × ¬ (Holds bytes (q ∷ []))
split2 p q bytes none = (
  NonePass-lacks p bytes
      (NonePass-weaker (is_byte2 p q) (is_byte p) (λ x e. left_false (x == p) (x == q) e) bytes none),
  NonePass-lacks q bytes
      (NonePass-weaker (is_byte2 p q) (is_byte q) (λ x e. right_false (x == p) (x == q) e) bytes none),
)

pub join2 : (p q : ℕ) (bytes : List ℕ) → ¬ (Holds bytes (p ∷ [])) → ¬ (Holds bytes (q ∷ []))
    → NonePass (is_byte2 p q) bytes
join2 p q bytes np nq =
    NonePass-join (is_byte p) (is_byte q) (is_byte2 p q) (λ x ep eq. both_false (x == p) (x == q) ep eq) bytes
    (lacks-NonePass p bytes np) (lacks-NonePass q bytes nq)

pub split3 : (p q r : ℕ) (bytes : List ℕ) → NonePass (is_byte3 p q r) bytes → ¬ (Holds bytes (p ∷ []))
    × ¬ (Holds bytes (q ∷ [])) × ¬ (Holds bytes (r ∷ []))
split3 p q r bytes none =
    let two = split2 p q bytes
    (NonePass-weaker (is_byte3 p q r) (is_byte2 p q)
    (λ x e. left_false (x == p || x == q) (x == r) e) bytes none) in (
      two.0,
      two.1,
      NonePass-lacks r bytes
          (NonePass-weaker (is_byte3 p q r) (is_byte r) (λ x e. right_false (x == p || x == q) (x == r) e) bytes none),
    )

pub join3 : (p q r : ℕ) (bytes : List ℕ) → ¬ (Holds bytes (p ∷ [])) → ¬ (Holds bytes (q ∷ []))
    → ¬ (Holds bytes (r ∷ [])) → NonePass (is_byte3 p q r) bytes
join3 p q r bytes np nq nr =
    NonePass-join (is_byte2 p q) (is_byte r) (is_byte3 p q r)
    (λ x epq er. both_false (x == p || x == q) (x == r) epq er) bytes
    (join2 p q bytes np nq) (lacks-NonePass r bytes nr)

-- searches for two and for three bytes
pub lacks_answer2 : (p q : ℕ) (bytes : List ℕ) (r : Option ℕ) (b : Bool) → is_some r ≡ not b
    → IsFirstByte (is_byte2 p q) bytes r
    → (IsTrue b → ¬ (Holds bytes (p ∷ [])) × ¬ (Holds bytes (q ∷ [])))
    × (¬ (Holds bytes (p ∷ [])) × ¬ (Holds bytes (q ∷ [])) → IsTrue b)
lacks_answer2 p q bytes r b e found =
    let both = none_answer (is_byte2 p q) bytes r b e found in
    (λ is. split2 p q bytes (both.0 is), λ lacks. both.1 (join2 p q bytes lacks.0 lacks.1))

pub lacks_answer3 : (p q s : ℕ) (bytes : List ℕ) (r : Option ℕ) (b : Bool) → is_some r ≡ not b
    → IsFirstByte (is_byte3 p q s) bytes r
    → (IsTrue b → ¬ (Holds bytes (p ∷ [])) × ¬ (Holds bytes (q ∷ [])) × ¬ (Holds bytes (s ∷ [])))
    × (¬ (Holds bytes (p ∷ [])) × ¬ (Holds bytes (q ∷ [])) × ¬ (Holds bytes (s ∷ [])) → IsTrue b)
lacks_answer3 p q s bytes r b e found =
    let both = none_answer (is_byte3 p q s) bytes r b e found in
    (λ is. split3 p q s bytes (both.0 is), λ lacks. both.1 (join3 p q s bytes lacks.0 lacks.1 lacks.2))

-- what stands between two words: a search for the first, then for the last
pub between_found : (bytes before mid after : List ℕ) (r : Option (Bor (List ℕ))) → bytes ≡ before ++ mid
    → MatchOption r ((front : List ℕ) → mid ≢ front ++ after) (λ x. mid ≡ x.now ++ after)
    → IfSome r (λ inner. bytes ≡ before ++ (inner.now ++ after))
between_found bytes before mid after None there back = tt
between_found bytes before mid after (Some inner) there back = there ∙ ap (λ l. before ++ l) back

pub between_none : (bytes before mid after : List ℕ) (r : Option (Bor (List ℕ))) → bytes ≡ before ++ mid
    → MatchOption r ((front : List ℕ) → mid ≢ front ++ after) (λ x. mid ≡ x.now ++ after)
    → IfNone r ((inner : List ℕ) → bytes ≡ before ++ (inner ++ after) → ⊥)
between_none bytes before mid after None there back =
    λ inner e. back inner (append_cancel_left before mid (inner ++ after) (sym there ∙ e))
between_none bytes before mid after (Some x) there back = tt

-- a refusal for one reason is one for another
pub OnRefusal-weaker : (error : LexError) (P Q : Type 0) → (P → Q) → OnRefusal error P → OnRefusal error Q
OnRefusal-weaker Memory P Q f h = tt
OnRefusal-weaker NotProfile P Q f h = f h

-- two searches of one thing, which is unique
pub same_search : (P : ℕ → Type 0) (r t : Option ℕ) → IfSome r P → IfNone r ((c : ℕ) → P c → ⊥) → ((c : ℕ) → P c → t
    ≡ Some c) → ((c : ℕ) → t ≡ Some c → P c) → r ≡ t
same_search P None None f n b d = refl
same_search P None (Some c) f n b d = absurd (n c (d c refl))
same_search P (Some c) t f n b d = sym (b c f)
