-- What the tables answer of a sequence, as the windows of its records.
use Rattle.std.proofs.Common.{◌≡◌, inl, inr, ℕ, ◌+◌, ◌-◌, ◌==◌, ◌<◌, ◌≤◌, Bool, true, false, cond, List, [], ◌∷◌}
use Rattle.std.proofs.Common.{◌++◌, length, Option, Some, None, refl, sym, ap, subst, ◌∙◌, arith}
use Rattle.std.specs.Prelude.{◌↔◌, ◌&&◌, ◌||◌, ◌^◌, nat_le, nat_lt, slice_get}
use Rattle.std.specs.List.{flat_map}
use Rattle.std.proofs.lemmas.Bool.{and_parts, cases_lt, false≢true, true≢false, le-leb, leb-true, lt-ltb, ltb-true}
use Rattle.std.proofs.lemmas.Bool.Decides.{nat_tests}
use Rattle.std.proofs.lemmas.Option.{none-some, slice_get_past}
use Rattle.rm_sides.specs.declared.ranges.range.Range.{Range}
use Rattle.rm_sides.specs.Ranges.Ranges.{in_ranges, IsCanonical, IsFront as IsFrontOf, IsGreatest, RisesFrom}
use Rattle.rm_base.specs.Limits.{window}
use Rattle.rm_base.specs.NumberSet.{has_number}
use Rattle.rm_sides.specs.Destination.Incoming.{items, Receiving}
use Rattle.rm_sides.specs.Destination.Laws.{FrontIsReached, IsFront}
use Rattle.rm_sides.specs.Destination.Messages.{front_of, Item, numbers_of}
use Rattle.record_batch.specs.Fact.{Fact, Made}
use Rattle.record_batch.specs.Sequences.Fits.{all_fit, fits, is_incoming_side, is_outgoing_side}
use Rattle.record_batch.specs.Sequences.Makers.{Maker, Outgoing, Offered, Incoming, Taken, maker, makers, nodes_of}
use Rattle.record_batch.specs.Sequences.Makers.{number}
use Rattle.rm_sides.specs.Destination.Messages.{is_empty}
use Rattle.record_batch.specs.Sequences.Words.{first_or}
use Rattle.node_laws.specs.Records.{BeginsWithMade}
use Rattle.node_tables.specs.Laws.{IncomingIsAsRecorded}
use Rattle.node_tables.specs.Reads.{incoming_in, incoming_of}
use Rattle.node_store.specs.Mounted.{AreNear, HasNear, KeepsWindow}

-- ---- the first record

not_empty : (r : List Fact) (f : Fact) → is_empty (r ++ f ∷ []) ≡ false
not_empty [] f = refl
not_empty (g ∷ r) f = refl

no_node : (r : List Fact) (f : Fact) → is_empty r ≡ false → fits r f ≡ true → nodes_of f ≡ []
no_node r (Made node to) some fit =
    absurd (true≢false (sym (and_parts (is_empty r) (nat_le 1 node && nat_lt node (2 ^ 60)) fit).0 ∙ some))
no_node r _ some fit = refl

none_later : (r more : List Fact) → is_empty r ≡ false → all_fit r more ≡ true → flat_map nodes_of more ≡ []
none_later r [] some fit = refl
none_later r (f ∷ more) some fit =
    let parts = and_parts (fits r f) (all_fit (r ++ f ∷ []) more) fit in
    ap (λ (l : List ℕ). l ++ flat_map nodes_of more) (no_node r f some parts.0)
    ∙ none_later (r ++ f ∷ []) more (not_empty r f) parts.1

first_made : (f : Fact) (r : List Fact) → all_fit [] (f ∷ r) ≡ true → 0 < number (f ∷ r) → BeginsWithMade (f ∷ r)
first_made (Made node to) r fit some = tt
first_made f r fit some =
    let parts = and_parts (fits [] f) (all_fit (f ∷ []) r) fit in
    let none : first_or 0 (flat_map nodes_of r) ≡ 0 =
    ap (λ (l : List ℕ). first_or 0 l) (none_later (f ∷ []) r refl parts.1) in
    absurd (omega (arith, some, none))

begins : (r : List Fact) → all_fit [] r ≡ true → 0 < number r → BeginsWithMade r
begins [] fit some = absurd (omega (arith, some))
begins (f ∷ r) fit some = first_made f r fit some

numbered_first : (f : Fact) (r : List Fact) → all_fit [] (f ∷ r) ≡ true → BeginsWithMade (f ∷ r) → 0 < number (f ∷ r)
numbered_first (Made node to) r fit h =
    let parts = and_parts (fits [] (Made node to)) (all_fit (Made node to ∷ []) r) fit in
    let own = and_parts (nat_le 1 node) (nat_lt node (2 ^ 60)) parts.0 in
    omega (arith, leb-true 1 node own.0)
numbered_first _ r fit h = absurd h

has_number_first : (r : List Fact) → all_fit [] r ≡ true → BeginsWithMade r → 0 < number r
has_number_first [] fit h = absurd h
has_number_first (f ∷ r) fit h = numbered_first f r fit h

-- the record Made is the first where the node has a number
pub begins_decides : (r : List Fact) (n : ℕ) → all_fit [] r ≡ true → n ≡ number r
    → ((nat_lt 0 n ≡ true) ↔ BeginsWithMade r)
begins_decides r n fit is = (
  λ e. begins r fit (omega (arith, ltb-true 0 n e, is)),
  λ h. lt-ltb 0 n (omega (arith, is, has_number_first r fit h)),
)

-- ---- sequences that are there, and others

no_window : (r : List Fact) (s : ℕ) → maker r s ≡ None → KeepsWindow r s
no_window r s none = record {
  window = λ e. absurd (false≢true (sym (ap is_outgoing_side none) ∙ e));
  near = λ n e. absurd (false≢true (sym (ap is_incoming_side none) ∙ e));
}

not_there : (r : List Fact) (s : ℕ) → length (makers r) < s → maker r s ≡ None
not_there r s past =
    elim (s == 0) as (λ (b : Bool). cond b None (slice_get (makers r) (s - 1)) ≡ None) [
      | true ↦ refl
      | false ↦ slice_get_past (makers r) (s - 1) (omega (arith, past))
    ]

-- there is no sequence 0
pub windows-none : (r : List Fact) (s : ℕ) → s ≤ 0 → KeepsWindow r s
windows-none r s low =
    let first : 0 ≡ s = omega (arith, low) in no_window r s (subst (λ (k : ℕ). maker r k ≡ None) first refl)

-- one sequence more
pub windows-more : (r : List Fact) (n : ℕ) → ((s : ℕ) → s ≤ n → KeepsWindow r s) → KeepsWindow r (n + 1)
    → (s : ℕ) → s ≤ n + 1 → KeepsWindow r s
windows-more r n all one s low =
    elim (cases_lt n s) [
      | inl past ↦ let last : n + 1 ≡ s = omega (arith, past, low) in subst (KeepsWindow r) last one
      | inr within ↦ all s within
    ]

-- all of them
pub windows-all : (r : List Fact) (n : ℕ) → ((s : ℕ) → s ≤ n → KeepsWindow r s) → length (makers r) ≤ n
    → (s : ℕ) → KeepsWindow r s
windows-all r n all whole s =
    elim (cases_lt n s) [
      | inl past ↦ no_window r s (not_there r s (omega (arith, past, whole)))
      | inr within ↦ all s within
    ]

-- ---- incoming sequences

receives : (r : List Fact) (s : ℕ) (o : Option Maker) (f : Receiving) → incoming_of r s o ≡ Some f
    → is_incoming_side o ≡ true
receives r s (Some (Incoming counter message_id acks_to behaviour deadline lapse)) f e = refl
receives r s (Some (Offered ticket counter to behaviour)) f e = refl
receives r s (Some (Outgoing ticket to via lapse)) f e = absurd (none-some f e)
receives r s (Some (Taken message_id ident endpoint)) f e = absurd (none-some f e)
receives r s None f e = absurd (none-some f e)

-- one that is there
pub near_decides : IncomingIsAsRecorded → (r : List Fact) (s : ℕ) (f : Receiving) → Some f ≡ incoming_in r s
    → (b : Bool) → ((b ≡ true) ↔ AreNear (items f)) → ((b ≡ true) ↔ HasNear r s)
near_decides recorded r s f there b is =
    let told = recorded r s f (sym there) in
    let side = receives r s (maker r s) f (sym there) in (
      λ e n incoming has.
          subst (λ (m : ℕ). n ≤ m + window) told.front_
          (is.0 e n (subst (λ (ns : List ℕ). has_number ns n ≡ true) (sym told.numbers) has)),
      λ h. is.1 (λ n has.
          subst (λ (m : ℕ). n ≤ m + window) (sym told.front_)
          (h n side (subst (λ (ns : List ℕ). has_number ns n ≡ true) told.numbers has))),
    )

-- ---- numbers past the front

below : (first n : ℕ) (ranges : List Range) → RisesFrom first ranges → n < first → in_ranges ranges n ≡ false
below first n [] rises low = refl
below first n (x ∷ ranges) rises low =
    let here : nat_le x.lower n ≡ false = grind (arith, nat_tests) in
    let rest : in_ranges ranges n ≡ false =
    below (x.upper + 2) n ranges rises.3 (omega (arith, low, rises.0, rises.1)) in
    ap (λ (b : Bool). (b && nat_le n x.upper) || in_ranges ranges n) here ∙ rest

-- the front of ranges is that of the messages
one_front : (came : List (ℕ × Item)) (ranges : List Range) (m : ℕ) → IsFront (numbers_of came) (front_of came)
    → IsFrontOf ranges m → ((n : ℕ) → in_ranges ranges n ≡ has_number (numbers_of came) n) → m ≡ front_of came
one_front came ranges m reached is same =
    elim (cases_lt m (front_of came)) [
      | inl low ↦ absurd (true≢false (sym (reached.all (m + 1) (omega arith) (omega (arith, low)))
          ∙ sym (same (m + 1)) ∙ is.ends.1))
      | inr within ↦ elim (cases_lt (front_of came) m) [
        | inl past ↦ absurd (true≢false (sym (is.inside (front_of came + 1) (omega arith) (omega (arith, past)))
            ∙ same (front_of came + 1) ∙ reached.ends))
        | inr other ↦ omega (arith, within, other)
      ]
    ]

-- the greatest number and the front decide
pub are_near-decides : FrontIsReached → (came : List (ℕ × Item)) (ranges : List Range) (m k d : ℕ)
    → IsCanonical ranges → ((n : ℕ) → in_ranges ranges n ≡ has_number (numbers_of came) n) → IsFrontOf ranges m
    → IsGreatest ranges k → d ≡ k - m → ((nat_le d window ≡ true) ↔ AreNear came)
are_near-decides reached came ranges m k d canonical same is greatest far =
    let zero_ : has_number (numbers_of came) 0 ≡ false = sym (same 0) ∙ below 1 0 ranges canonical (omega arith) in
    let one : m ≡ front_of came = one_front came ranges m (reached came zero_) is same in (
      λ e n has. omega (arith, leb-true d window e, far, one, greatest.above n (same n ∙ has)),
      λ near. le-leb d window (elim (cases_lt 0 k) [
        | inl some ↦ omega (arith, far, one, near k (sym (same k) ∙ greatest.inside some))
        | inr none ↦ omega (arith, far, none)
      ]),
    )
