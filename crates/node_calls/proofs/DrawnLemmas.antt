-- The numbers of sequences are among those that were drawn.
use Rattle.std.proofs.Common.{◌≡◌, ℕ, zero, suc, ◌+◌, ◌-◌, ◌≤◌, ◌==◌, true, false, cond, List, [], ◌∷◌}
use Rattle.std.proofs.Common.{◌++◌, length, sym, ap, subst, ◌∙◌, arith, append-nil, append_assoc, Some}
use Rattle.std.proofs.Common.{None}
use Rattle.std.specs.Prelude.{slice_get}
use Rattle.std.specs.List.{AllByRecursion}
use Rattle.std.proofs.lemmas.Bool.{and_parts, eqb-true, ne_eqb}
use Rattle.rm_base.specs.Numbered.{numbered}
use Rattle.record_batch.specs.Fact.{Fact, Creating, Granted}
use Rattle.record_batch.specs.Sequences.Makers.{Maker, Outgoing, Offered, Incoming, Taken, makers, makers_of, maker}
use Rattle.record_batch.specs.Sequences.Makers.{counter}
use Rattle.record_batch.specs.Sequences.Makers.{draws_of}
use Rattle.record_batch.specs.Sequences.Fits.{fits, all_fit, offer_fits}
use Rattle.record_batch.specs.Sequences.NodeLemmas.{one_more}

-- the item with the number behind n
pub numbered-next : {A : Type 0} (xs : List A) (n : ℕ) → numbered xs (n + 1) ≡ slice_get xs n
numbered-next xs n =
    let other : (n + 1 == 0) ≡ false = ne_eqb (n + 1) 0 (λ e. absurd (omega (arith, e))) in
    let place : n + 1 - 1 ≡ n = omega arith in
    ap (λ b. cond b None (slice_get xs (n + 1 - 1))) other ∙ ap (slice_get xs) place

pub All-weaker : {A : Type 0} (P Q : A → Type 0) → ((x : A) → P x → Q x) → (xs : List A) → AllByRecursion P xs
    → AllByRecursion Q xs
All-weaker P Q f [] h = tt
All-weaker P Q f (x ∷ xs) h = (f x h.0, All-weaker P Q f xs h.1)

pub All-append : {A : Type 0} (P : A → Type 0) (xs ys : List A) → AllByRecursion P xs → AllByRecursion P ys
    → AllByRecursion P (xs ++ ys)
All-append P [] ys h g = g
All-append P (x ∷ xs) ys h g = (h.0, All-append P xs ys h.1 g)

All-at : {A : Type 0} (P : A → Type 0) (xs : List A) (k : ℕ) (x : A) → AllByRecursion P xs → slice_get xs k ≡ Some x
    → P x
All-at P [] k x h e = absurd (cc)
All-at P (y ∷ ys) zero x h e = let same : y ≡ x = cc in subst P same h.0
All-at P (y ∷ ys) (suc k) x h e = All-at P ys k x h.1 e

All-numbered : {A : Type 0} (P : A → Type 0) (xs : List A) (n : ℕ) (x : A) → AllByRecursion P xs
    → numbered xs n ≡ Some x → P x
All-numbered P xs zero x h e = absurd (cc)
All-numbered P xs (suc n) x h e =
    let one : suc n ≡ n + 1 = omega arith in
    All-at P xs n x h (sym (ap (numbered xs) one ∙ numbered-next xs n) ∙ e)

-- the number that a sequence which was made so has its identifier from, or its ticket
abbrev pub drawn_for : Maker → ℕ
drawn_for (Outgoing ticket to via lapse) = ticket
drawn_for (Offered ticket counter to behaviour) = counter
drawn_for (Incoming counter message_id acks_to behaviour deadline lapse) = counter
drawn_for (Taken message_id ident endpoint) = 0

-- it is one of the first n
abbrev UpTo : ℕ → Maker → Type 0
UpTo n m = drawn_for m ≤ n

new-drawn : (r : List Fact) (f : Fact) → fits r f ≡ true
    → AllByRecursion (UpTo (counter r + length (draws_of f))) (makers_of f)
new-drawn r (Creating ticket to via lapse None) h =
    let t : ticket ≡ counter r + 1 = eqb-true ticket (counter r + 1) (and_parts (ticket == counter r + 1) _ h).0 in
    (omega (arith, t), tt)
new-drawn r (Creating ticket to via lapse (Some offer)) h =
    let parts = and_parts (ticket == counter r + 1) _ h in
    let t : ticket ≡ counter r + 1 = eqb-true ticket (counter r + 1) parts.0 in
    let offered = and_parts (offer_fits (counter r) (Some offer)) _ parts.1 in
    let o : offer.counter ≡ counter r + 2 = eqb-true offer.counter (counter r + 2) offered.0 in
    (omega (arith, t), (omega (arith, o), tt))
new-drawn r (Granted drawn message_id acks_to behaviour deadline lapse None) h =
    let t : drawn ≡ counter r + 1 = eqb-true drawn (counter r + 1) (and_parts (drawn == counter r + 1) _ h).0 in
    (omega (arith, t), tt)
new-drawn r (Granted drawn message_id acks_to behaviour deadline lapse (Some offer)) h =
    let t : drawn ≡ counter r + 1 = eqb-true drawn (counter r + 1) (and_parts (drawn == counter r + 1) _ h).0 in
    (omega (arith, t), (omega arith, tt))
new-drawn r _ h = tt

all-drawn : (r xs : List Fact) → AllByRecursion (UpTo (counter r)) (makers r) → all_fit r xs ≡ true
    → AllByRecursion (UpTo (counter (r ++ xs))) (makers (r ++ xs))
all-drawn r [] a h = subst (λ (rs : List Fact). AllByRecursion (UpTo (counter rs)) (makers rs)) (sym (append-nil r)) a
all-drawn r (f ∷ xs) a h =
    let now = r ++ f ∷ [] in
    let parts = and_parts (fits r f) (all_fit now xs) h in
    let count : counter now ≡ counter r + length (draws_of f) = one_more.counter_ r f in
    let old : AllByRecursion (UpTo (counter now)) (makers r) =
    All-weaker (UpTo (counter r)) (UpTo (counter now)) (λ m le. omega (arith, le, count)) (makers r) a in
    let new : AllByRecursion (UpTo (counter now)) (makers_of f) =
    subst (λ n. AllByRecursion (UpTo n) (makers_of f)) (sym count) (new-drawn r f parts.0) in
    let here : AllByRecursion (UpTo (counter now)) (makers now) =
    subst (λ ms. AllByRecursion (UpTo (counter now)) ms) (sym (one_more.makers_ r f))
    (All-append (UpTo (counter now)) (makers r) (makers_of f) old new) in
    subst (λ (rs : List Fact). AllByRecursion (UpTo (counter rs)) (makers rs)) (append_assoc r (f ∷ []) xs)
    (all-drawn now xs here parts.1)

pub drawn-small : (r d : List Fact) (s : ℕ) (m : Maker) → all_fit [] r ≡ true → all_fit r d ≡ true
    → maker (r ++ d) s ≡ Some m → drawn_for m ≤ counter (r ++ d)
drawn-small r d s m fit more e =
    All-numbered (UpTo (counter (r ++ d))) (makers (r ++ d)) s m (all-drawn r d (all-drawn [] r tt fit) more) e

-- the same of records alone
pub maker-drawn : (r : List Fact) (s : ℕ) (m : Maker) → all_fit [] r ≡ true → maker r s ≡ Some m
    → drawn_for m ≤ counter r
maker-drawn r s m fit e = All-numbered (UpTo (counter r)) (makers r) s m (all-drawn [] r tt fit) e
