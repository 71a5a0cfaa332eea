-- The acknowledgements that are asked for depend on which sequences have theirs, and not on their order.
use Rattle.std.proofs.Common.{◌≡◌, ℕ, ◌==◌, Bool, true, false, cond, List, [], ◌∷◌, ◌++◌, refl, ap, ◌∙◌, arith}
use Rattle.std.specs.Prelude.{◌||◌, nat_eq, Option, Some, None}
use Rattle.std.specs.List.{list_any}
use Rattle.std.proofs.lemmas.Bool.Decides.{nat_tests}
use Rattle.rm_base.specs.NumberSet.{has_number}
use Rattle.record_batch.specs.Fact.{Fact}
use Rattle.record_batch.specs.Sequences.Words.{Text}
use Rattle.record_batch.specs.Sequences.Find.{find_incoming}
use Rattle.rm_protocol.specs.Said.{ack_of, ask_ack, ask_acks, given_with}

-- std's search of a slice finds a number exactly where it is one of them
pub list_any-has_number : (n : ℕ) (xs : List ℕ) → list_any (λ x. nat_eq x n) xs ≡ has_number xs n
list_any-has_number n [] = refl
list_any-has_number n (x ∷ xs) =
    let rest : list_any (λ x. nat_eq x n) xs ≡ has_number xs n = list_any-has_number n xs in
    grind (arith, nat_tests, rest)

or_swap : (a b c : Bool) → (a || (b || c)) ≡ (b || (a || c))
or_swap true true c = refl
or_swap true false c = refl
or_swap false true c = refl
or_swap false false c = refl

-- one more at the end is among them as one more at the front is
pub given-push : (xs : List ℕ) (s n : ℕ) → has_number (xs ++ s ∷ []) n ≡ has_number (s ∷ xs) n
given-push [] s n = refl
given-push (x ∷ xs) s n =
    ap (λ b. (x == n) || b) (given-push xs s n) ∙ or_swap (x == n) (s == n) (has_number xs n)

with_same : (o : Option ℕ) (g h : List ℕ) → ((n : ℕ) → has_number g n ≡ has_number h n) → (n : ℕ)
    → has_number (given_with o g) n ≡ has_number (given_with o h) n
with_same None g h e n = e n
with_same (Some s) g h e n = ap (λ b. (s == n) || b) (e n)

ask_ack-same : (r : List Fact) (now : ℕ) (g h : List ℕ) (q : Text) (o : Option ℕ)
    → ((n : ℕ) → has_number g n ≡ has_number h n) → ask_ack r now g q o ≡ ask_ack r now h q o
ask_ack-same r now g h q None e = refl
ask_ack-same r now g h q (Some s) e = ap (λ b. cond b [] (ack_of r now q (Some s))) (e s)

pub ask_acks-same : (r : List Fact) (now : ℕ) (g h : List ℕ) (qs : List Text)
    → ((n : ℕ) → has_number g n ≡ has_number h n) → ask_acks r now g qs ≡ ask_acks r now h qs
ask_acks-same r now g h [] e = refl
ask_acks-same r now g h (q ∷ qs) e =
    let o = find_incoming r q in
    ap (λ acks. acks ++ ask_acks r now (given_with o g) qs) (ask_ack-same r now g h q o e)
    ∙ ap (λ acks. ask_ack r now h q o ++ acks)
    (ask_acks-same r now (given_with o g) (given_with o h) qs (with_same o g h e))
