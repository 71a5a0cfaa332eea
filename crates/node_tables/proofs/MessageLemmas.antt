-- Messages by their numbers, after more of them.
use Rattle.std.proofs.Common.{◌≡◌, ℕ, ◌==◌, Bool, true, false, ◌||◌, cond, List, [], ◌∷◌, ◌++◌, refl, sym, ap, ◌∙◌}
use Rattle.std.proofs.Common.{inl, inr}
use Rattle.std.proofs.lemmas.Bool.{cases_Bool, eq-eqb, true≢false}
use Rattle.rm_base.specs.NumberSet.{has_number}
use Rattle.rm_base.specs.declared.message.Payload.{Payload}
use Rattle.rm_sides.specs.Destination.Messages.{numbers_of}
use Rattle.node_tables.specs.Kept.{payload_of}

or_true : (b : Bool) → (b || true) ≡ true
or_true true = refl
or_true false = refl

-- a number that is there stays
pub has_number-append : (n : ℕ) (xs ys : List (ℕ × Payload)) → has_number (numbers_of xs) n ≡ true
    → has_number (numbers_of (xs ++ ys)) n ≡ true
has_number-append n [] ys h = absurd (true≢false (sym h))
has_number-append n (x ∷ xs) ys h = elim (cases_Bool (x.0 == n)) [
  | inl same ↦ ap (λ b. b || has_number (numbers_of (xs ++ ys)) n) same
  | inr differ ↦
      ap (λ b. b || has_number (numbers_of (xs ++ ys)) n) differ
      ∙ has_number-append n xs ys (sym (ap (λ b. b || has_number (numbers_of xs) n) differ) ∙ h)
]

-- the number of the last message is there
pub has_number-last : (n : ℕ) (xs : List (ℕ × Payload)) (p : Payload)
    → has_number (numbers_of (xs ++ (n, p) ∷ [])) n ≡ true
has_number-last n [] p = ap (λ b. b || false) (eq-eqb n n refl)
has_number-last n (x ∷ xs) p = ap (λ b. (x.0 == n) || b) (has_number-last n xs p) ∙ or_true (x.0 == n)

-- so does what its message carries
pub payload_of-append : (n : ℕ) (xs ys : List (ℕ × Payload)) → has_number (numbers_of xs) n ≡ true
    → payload_of n (xs ++ ys) ≡ payload_of n xs
payload_of-append n [] ys h = absurd (true≢false (sym h))
payload_of-append n (x ∷ xs) ys h = elim (cases_Bool (x.0 == n)) [
  | inl same ↦
      ap (λ b. cond b x.1 (payload_of n (xs ++ ys))) same ∙ sym (ap (λ b. cond b x.1 (payload_of n xs)) same)
  | inr differ ↦
      ap (λ b. cond b x.1 (payload_of n (xs ++ ys))) differ
      ∙ payload_of-append n xs ys (sym (ap (λ b. b || has_number (numbers_of xs) n) differ) ∙ h)
      ∙ sym (ap (λ b. cond b x.1 (payload_of n xs)) differ)
]

-- a message with a new number carries what came with it
pub payload_of-last : (n : ℕ) (xs : List (ℕ × Payload)) (p : Payload) → has_number (numbers_of xs) n ≡ false
    → payload_of n (xs ++ (n, p) ∷ []) ≡ p
payload_of-last n [] p h = ap (λ b. cond b p (payload_of n [])) (eq-eqb n n refl)
payload_of-last n (x ∷ xs) p h = elim (cases_Bool (x.0 == n)) [
  | inl same ↦ absurd (true≢false (sym (ap (λ b. b || has_number (numbers_of xs) n) same) ∙ h))
  | inr differ ↦
      ap (λ b. cond b x.1 (payload_of n (xs ++ (n, p) ∷ []))) differ
      ∙ payload_of-last n xs p (sym (ap (λ b. b || has_number (numbers_of xs) n) differ) ∙ h)
]
