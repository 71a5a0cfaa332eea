-- The number that the identifier of a granted sequence was drawn with is one of those that were drawn.
use Rattle.std.proofs.Common.{◌≡◌, ℕ, zero, suc, ◌+◌, ◌-◌, ◌≤◌, ◌==◌, true, false, List, [], ◌∷◌, ◌++◌, length, refl}
use Rattle.std.proofs.Common.{sym, ap, subst, ◌∙◌, arith, Option, Some, None}
use Rattle.std.specs.Prelude.{slice_get}
use Rattle.std.proofs.lemmas.Bool.{and_parts, eqb-true}
use Rattle.std.proofs.lemmas.Bool.Decides.{nat_tests}
use Rattle.std.proofs.lemmas.List.{append-nil, append_assoc}
use Rattle.rm_base.specs.Numbered.{numbered}
use Rattle.rm_base.specs.declared.message.Behaviour.{Behaviour}
use Rattle.rm_base.specs.declared.lapse.Lapse.{Lapse}
use Rattle.wsa_headers.specs.declared.endpoint.Epr.{Epr}
use Rattle.record_batch.specs.Fact.{Fact, Creating, Granted}
use Rattle.record_batch.specs.Sequences.Words.{Text}
use Rattle.record_batch.specs.Sequences.Makers.{Maker, Incoming, makers, makers_of, maker, draws_of, counter}
use Rattle.record_batch.specs.Sequences.Fits.{fits, all_fit}
use Rattle.record_batch.specs.Sequences.NodeLemmas.{one_more}

-- the number of a granted sequence is at most n
abbrev pub IsDrawn : ℕ → Maker → Type 0
IsDrawn n (Incoming drawn message_id acks_to behaviour deadline lapse) = drawn ≤ n
IsDrawn n _ = Unit {0}

-- so is that of each of them
abbrev AreDrawn : ℕ → List Maker → Type 0
AreDrawn n [] = Unit {0}
AreDrawn n (m ∷ ms) = IsDrawn n m × AreDrawn n ms

still_drawn : (n k : ℕ) (m : Maker) → n ≤ k → IsDrawn n m → IsDrawn k m
still_drawn n k (Incoming drawn message_id acks_to behaviour deadline lapse) le h = omega (arith, le, h)
still_drawn n k _ le h = tt

drawn-append : (n k : ℕ) (ms more : List Maker) → n ≤ k → AreDrawn n ms → AreDrawn k more → AreDrawn k (ms ++ more)
drawn-append n k [] more le h g = g
drawn-append n k (m ∷ ms) more le h g = (still_drawn n k m le h.0, drawn-append n k ms more le h.1 g)

-- a record draws the next numbers
next_drawn : (r : List Fact) (f : Fact) → fits r f ≡ true → AreDrawn (counter r + length (draws_of f)) (makers_of f)
next_drawn r (Creating ticket to via lapse None) fit = (tt, tt)
next_drawn r (Creating ticket to via lapse (Some offer)) fit = (tt, (tt, tt))
next_drawn r (Granted drawn message_id acks_to behaviour deadline lapse None) fit =
    let e : drawn ≡ counter r + 1 = eqb-true drawn (counter r + 1) (and_parts (drawn == counter r + 1) _ fit).0 in
    (omega (arith, e), tt)
next_drawn r (Granted drawn message_id acks_to behaviour deadline lapse (Some offer)) fit =
    let e : drawn ≡ counter r + 1 = eqb-true drawn (counter r + 1) (and_parts (drawn == counter r + 1) _ fit).0 in
    (omega (arith, e), (tt, tt))
next_drawn r _ fit = tt

all_drawn : (r d : List Fact) → all_fit r d ≡ true → AreDrawn (counter r) (makers r)
    → AreDrawn (counter (r ++ d)) (makers (r ++ d))
all_drawn r [] fit h = subst (λ rs. AreDrawn (counter rs) (makers rs)) (sym (append-nil r)) h
all_drawn r (f ∷ d) fit h =
    let parts = and_parts (fits r f) (all_fit (r ++ f ∷ []) d) fit in
    let n = counter r + length (draws_of f) in
    let le : counter r ≤ n = omega arith in
    let both : AreDrawn n (makers r ++ makers_of f) =
    drawn-append (counter r) n (makers r) (makers_of f) le h (next_drawn r f parts.0) in
    let more : AreDrawn (counter (r ++ f ∷ [])) (makers (r ++ f ∷ [])) =
    subst (λ k. AreDrawn k (makers (r ++ f ∷ []))) (sym (one_more.counter_ r f))
    (subst (λ ms. AreDrawn n ms) (sym (one_more.makers_ r f)) both) in
    subst (λ rs. AreDrawn (counter rs) (makers rs)) (append_assoc r (f ∷ []) d)
    (all_drawn (r ++ f ∷ []) d parts.1 more)

drawn_at : (n : ℕ) (ms : List Maker) (i : ℕ) (m : Maker) → AreDrawn n ms → slice_get ms i ≡ Some m → IsDrawn n m
drawn_at n [] i m h e = absurd (cc)
drawn_at n (x ∷ xs) zero m h e = let same : x ≡ m = cc in subst (IsDrawn n) same h.0
drawn_at n (x ∷ xs) (suc i) m h e = drawn_at n xs i m h.1 e

-- the item with number n + 1 stands at place n
numbered-next : {A : Type 0} (xs : List A) (n : ℕ) → numbered xs (suc n) ≡ slice_get xs n
numbered-next xs n =
    let other : (suc n == 0) ≡ false = grind (arith, nat_tests) in
    let place : suc n - 1 ≡ n = omega arith in
    rw (other, place) refl

drawn_numbered : (n : ℕ) (ms : List Maker) (s : ℕ) (m : Maker) → AreDrawn n ms → numbered ms s ≡ Some m → IsDrawn n m
drawn_numbered n ms zero m h e = absurd (cc)
drawn_numbered n ms (suc s) m h e = drawn_at n ms s m h (sym (numbered-next ms s) ∙ e)

-- records that fit one after the other, and others ahead of them
pub granted-drawn : (r d : List Fact) (s : ℕ) (m : Maker) → all_fit [] r ≡ true → all_fit r d ≡ true
    → maker (r ++ d) s ≡ Some m → IsDrawn (counter (r ++ d)) m
granted-drawn r d s m sound fit e =
    drawn_numbered (counter (r ++ d)) (makers (r ++ d)) s m
    (all_drawn r d fit (all_drawn [] r sound tt)) e
