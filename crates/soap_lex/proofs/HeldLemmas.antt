-- Words that bytes hold, and tests of every byte.
use Rattle.std.proofs.Common.{MatchOption, Bor, subst, append_assoc, ◌≡◌, ◌≢◌, ℕ, inl, inr, Bool, true, false, not}
use Rattle.std.proofs.Common.{nat_eq, Option, Some, None, List, [], ◌∷◌, ◌++◌, length, drop, refl, sym, ap, ◌∙◌}
use Rattle.std.proofs.Math.Bool.{or-true}
use Rattle.std.specs.List.{AllByRecursion}
use Rattle.std.proofs.lemmas.Bool.{eq-eqb, ne_eqb, or_cases, false_from_ne_true}
use Rattle.soap_lex.specs.Characters.{Holds}
use Rattle.soap_lex.specs.Tests.{begins, holds}
use Rattle.soap_lex.specs.Facts.{begins-append, front_from_begins}

-- ---- a word anywhere

holds_at : (before word after : List ℕ) → word ≢ [] → holds (before ++ (word ++ after)) word ≡ true
holds_at [] [] after some = absurd (some refl)
holds_at [] (w ∷ word) after some = rw (eq-eqb w w refl, begins-append word after)
holds_at (b ∷ before) word after some = rw (
  holds_at before word after some,
  or-true (begins word (b ∷ (before ++
      (word ++ after)))),
)

pub holds-Holds : (bytes word : List ℕ) → word ≢ [] → Holds bytes word → holds bytes word ≡ true
holds-Holds bytes word some h = ap (λ x. holds x word) h.there ∙ holds_at h.before word h.after some

pub Holds-from : (bytes word : List ℕ) → word ≢ [] → holds bytes word ≡ true → Holds bytes word
Holds-from [] [] some e = absurd (some refl)
Holds-from [] (w ∷ word) some e = cc
Holds-from (b ∷ bytes) word some e =
    elim (or_cases (begins word (b ∷ bytes)) (holds bytes word) e) [
      | inl here ↦ record {
        before = [];
        after = drop (length word) (b ∷ bytes);
        there = front_from_begins word (b ∷
            bytes) here;
      }
      | inr later ↦ let h = Holds-from bytes word some later in record {
        before = b ∷ h.before;
        after = h.after;
        there = ap (λ x. b ∷ x) h.there;
      }
    ]

pub lacks : (bytes word : List ℕ) → word ≢ [] → ¬ (Holds bytes word) → not (holds bytes word) ≡ true
lacks bytes word some h = rw (false_from_ne_true (holds bytes word) (λ e. h (Holds-from bytes word some e)))

not_both : (b : Bool) → not b ≡ true → b ≡ true → ⊥
not_both true e h = cc
not_both false e h = cc

pub lacks_from : (bytes word : List ℕ) → word ≢ [] → not (holds bytes word) ≡ true → ¬ (Holds bytes word)
lacks_from bytes word some e h = not_both (holds bytes word) e (holds-Holds bytes word some h)

-- bytes that hold no such byte have none
pub lacks_byte : (k : ℕ) (bytes : List ℕ) → ¬ (Holds bytes (k ∷ [])) → AllByRecursion (λ c. nat_eq c k ≡ false) bytes
lacks_byte k [] h = tt
lacks_byte k (c ∷ bytes) h = (
  ne_eqb c k (λ e. h (record { before = []; after = bytes; there = ap (λ x. x ∷ bytes) e })),
  lacks_byte k bytes (λ later. h (record {
    before = c ∷ later.before;
    after = later.after;
    there = ap (λ x. c ∷ x)
        later.there;
  })),
)

-- ---- a word that a token and a byte begin

begins_part : (token more rest : List ℕ) → begins (token ++ more) (token ++ rest) ≡ begins more rest
begins_part [] more rest = refl
begins_part (b ∷ token) more rest = rw (eq-eqb b b refl) (begins_part token more rest)

pub goes_on_some : (word token : List ℕ) (byte : ℕ) (r : Option (Bor (List ℕ)))
    → MatchOption r ((rest : List ℕ) → word ≢ token ++ rest) (λ x. word ≡ token ++ x.now) → (x : Bor (List ℕ))
    → r ≡ Some x → (b : Bool) → b ≡ begins (byte ∷ []) x.now → b ≡ begins (token ++ byte ∷ []) word
goes_on_some word token byte r h x e b f =
    let there : word ≡ token ++ x.now = subst (λ (o : Option (Bor (List ℕ))). MatchOption o ((rest : List ℕ)
    → word ≢ token ++ rest) (λ y. word ≡ token ++ y.now)) e h in
    f ∙ sym (begins_part token (byte ∷ []) x.now) ∙ ap (begins (token ++ byte ∷ [])) (sym there)

pub goes_on_none : (word token : List ℕ) (byte : ℕ) (r : Option (Bor (List ℕ)))
    → MatchOption r ((rest : List ℕ) → word ≢ token ++ rest) (λ x. word ≡ token ++ x.now) → r ≡ None
    → false ≡ begins (token ++ byte ∷ []) word
goes_on_none word token byte r h e =
    let none : (rest : List ℕ) → word ≢ token ++ rest = subst (λ (o : Option (Bor (List ℕ))). MatchOption o
    ((rest : List ℕ) → word ≢ token ++ rest) (λ y. word ≡ token ++ y.now)) e h in
    sym (false_from_ne_true (begins (token ++ byte ∷ []) word) (λ f.
    none (byte ∷ drop (length (token ++ byte ∷ [])) word) (front_from_begins (token ++ byte ∷ []) word f
    ∙ append_assoc token (byte ∷ []) (drop (length (token ++ byte ∷ [])) word))))
