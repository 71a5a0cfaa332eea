-- The rows against what the records say.
use Rattle.std.proofs.Common.{◌≡◌, ◌≢◌, ℕ, zero, suc, ◌+◌, ◌-◌, ◌≤◌, ◌==◌, Bool, true, false, cond, List, []}
use Rattle.std.proofs.Common.{◌∷◌, length, map, refl, sym, ap, subst, ◌∙◌, arith, inl, inr, Option, Some, None}
use Rattle.std.specs.Prelude.{slice_get, ◌&&◌, ◌||◌, not, nat_le, nat_lt}
use Rattle.std.specs.Option.{option_map}
use Rattle.std.specs.List.{list_all}
use Rattle.std.proofs.lemmas.Bool.Decides.{nat_tests}
use Rattle.std.proofs.lemmas.Bool.{cases_eq, ne_eqb, false≢true, and_right, and_parts}
use Rattle.std.proofs.lemmas.Option.{get_or_from_slice_get, slice_get-map, slice_get_cases}
use Rattle.rm_base.specs.Numbered.{numbered}
use Rattle.rm_base.specs.NumberSet.{has_number}
use Rattle.rm_sides.specs.declared.ranges.range.Range.{Range}
use Rattle.rm_sides.specs.Ranges.Ranges.{IsCanonical, in_ranges}
use Rattle.rm_sides.specs.Destination.Incoming.{Receiving, held as held_by, is_loose}
use Rattle.rm_sides.specs.Destination.Messages.{is_empty}
use Rattle.record_batch.specs.Fact.{Fact, Created, Accepted, Acked, Received, Closing, ClosedOut, Closed}
use Rattle.record_batch.specs.Fact.{Ending}
use Rattle.record_batch.specs.Fact.{EndedOut, Ended, Failed, Consumed, Dropped, Purged}
use Rattle.record_batch.specs.Sequences.Makers.{Maker, makers, maker, counter}
use Rattle.record_batch.specs.Sequences.Fits.{fits, follows, is_incoming_side, is_outgoing_side, is_up_to, may_be_gone}
use Rattle.record_batch.specs.Sequences.Sources.{accepted_count, phase}
use Rattle.record_batch.specs.Sequences.Destinations.{behaviour, cursor, has_end, held, inbox, is_stopped}
use Rattle.record_batch.specs.Sequences.Told.{Side, Sends, Receives, Told, names, told_all, told_by, told_from}
use Rattle.node_tables.specs.Row.Row.{Seen, takes, draws_next, receiving_in}
use Rattle.node_tables.specs.Row.TakesLemmas.{fits-takes}
use Rattle.node_tables.specs.Kept.{Table, Holds, held_in, records_in, told_in, takes_at, is_naming, row_at, no_row}

-- a set of numbers has no range where there is none of them
none_there : (ranges : List Range) (ns : List ℕ) → IsCanonical ranges
    → ((n : ℕ) → in_ranges ranges n ≡ has_number ns n) → (length ranges == 0) ≡ is_empty ns
none_there [] [] h same = refl
none_there [] (n ∷ ns) h same =
    let here : (n == n) ≡ true = grind (arith, nat_tests) in
    absurd (false≢true (same n ∙ ap (λ b. b || has_number ns n) here))
none_there (r ∷ rs) [] h same =
    let here : (nat_le r.lower r.lower && nat_le r.lower r.upper) ≡ true = grind (arith, nat_tests, h.1) in
    absurd (false≢true (sym (same r.lower) ∙ ap (λ b. b || in_ranges rs r.lower) here))
none_there (r ∷ rs) (n ∷ ns) h same = let none : (suc (length rs) == 0) ≡ false = grind (arith, nat_tests) in none

abbrev held_or : Option Receiving → List ℕ
held_or None = []
held_or (Some t) = held_by t

held_known : (side : Side) → held_in side ≡ held_or (receiving_in side)
held_known (Sends t) = refl
held_known (Receives t) = refl

pub none-received : (side : Side) (t : Receiving) (ranges : List Range) → Some t ≡ receiving_in side
    → IsCanonical ranges
    → ((n : ℕ) → in_ranges ranges n ≡ has_number (held_by t) n) → (length ranges == 0) ≡ is_empty (held_in side)
none-received side t ranges is h same =
    none_there ranges (held_in side) h (λ n. same n ∙ ap (λ (o : Option Receiving). has_number (held_or o) n) is
    ∙ ap (λ (ns : List ℕ). has_number ns n) (sym (held_known side)))

length-told_from : (r : List Fact) (k : ℕ) (ms : List Maker) → length (told_from r k ms) ≡ length ms
length-told_from r k [] = refl
length-told_from r k (m ∷ ms) =
    let rest : length (told_from r (k + 1) ms) ≡ length ms = length-told_from r (k + 1) ms in omega (arith, rest)

pub rows-count : (t : Table) → Holds t → length t.rows ≡ length (makers (records_in t))
rows-count t h = ap length h.rows_ ∙ length-told_from (records_in t) 0 (makers (records_in t))

told_from-at : (r : List Fact) (k : ℕ) (ms : List Maker) (i : ℕ)
    → slice_get (told_from r k ms) i ≡ option_map (λ (m : Maker). told_by r (k + i + 1) m) (slice_get ms i)
told_from-at r k [] i = refl
told_from-at r k (m ∷ ms) zero = ap (λ n. Some (told_by r n m)) (let e : k + 1 ≡ k + 0 + 1 = omega arith in e)
told_from-at r k (m ∷ ms) (suc i) =
    told_from-at r (k + 1) ms i
    ∙ ap (λ n. option_map (λ (x : Maker). told_by r n x) (slice_get ms i))
    (let e : k + 1 + i + 1 ≡ k + suc i + 1 = omega arith in e)

pub told-at : (r : List Fact) (s : ℕ) → s ≢ 0 → slice_get (told_all r) (s - 1) ≡ told_in r s
told-at r s ne =
    let at : 0 + (s - 1) + 1 ≡ s = omega (arith, ne) in
    let there : maker r s ≡ slice_get (makers r) (s - 1) =
    ap (λ b. cond b None (slice_get (makers r) (s - 1))) (ne_eqb s 0 ne) in
    told_from-at r 0 (makers r) (s - 1)
    ∙ ap (λ n. option_map (λ (x : Maker). told_by r n x) (slice_get (makers r) (s - 1))) at
    ∙ ap (λ o. option_map (λ (x : Maker). told_by r s x) o) (sym there)

pub row-told : (t : Table) (s : ℕ) → Holds t → s ≢ 0 → slice_get t.rows (s - 1) ≡ told_in (records_in t) s
row-told t s h ne = ap (λ ts. slice_get ts (s - 1)) h.rows_ ∙ told-at (records_in t) s ne

pub numbered-map : {A B : Type 0} (f : A → B) (xs : List A) (s : ℕ)
    → option_map f (numbered xs s) ≡ numbered (map f xs) s
numbered-map f xs s =
    elim (s == 0) as (λ b. option_map f (cond b None (slice_get xs (s - 1)))
    ≡ cond b None (slice_get (map f xs) (s - 1))) [
      | true ↦ refl
      | false ↦ sym (slice_get-map f xs (s - 1))
    ]

pub told-there : (r : List Fact) (s : ℕ) → numbered (told_all r) s ≡ told_in r s
told-there r s =
    elim (cases_eq s 0) [
      | inl e ↦ rw e refl
      | inr ne ↦ ap (λ b. cond b None (slice_get (told_all r) (s - 1))) (ne_eqb s 0 ne) ∙ told-at r s ne
    ]

pub row-there : (t : Table) (s : ℕ) → Holds t → numbered t.rows s ≡ told_in (records_in t) s
row-there t s h = ap (λ ts. numbered ts s) h.rows_ ∙ told-there (records_in t) s

-- what is known of the row with a number
pub row-seen : (rows : List Seen) (t : Table) (s : ℕ) → t.rows ≡ map (λ (r : Seen). r.told) rows → Holds t
    → option_map (λ (r : Seen). r.told) (numbered rows s) ≡ told_in (records_in t) s
row-seen rows t s e h =
    numbered-map (λ (r : Seen). r.told) rows s ∙ ap (λ ts. numbered ts s) (sym e) ∙ row-there t s h

-- a record that names a sequence which is not there does not fit
nobody : (r : List Fact) (f : Fact) → is_naming f ≡ true → maker r (names f) ≡ None → fits r f ≡ false
nobody r (Created s ident accept) is e =
    ap (λ o. is_outgoing_side o && follows (phase r s) (Created s ident accept)) e
nobody r (Accepted s payload) is e =
    ap (λ o. (is_outgoing_side o && follows (phase r s) (Accepted s payload))
    && nat_lt (accepted_count r s) 9223372036854775807) e
nobody r (Acked s ranges) is e = ap (λ o. is_outgoing_side o && list_all (is_up_to (accepted_count r s)) ranges) e
nobody r (Received s n payload) is e =
    ap (λ o. is_incoming_side o && (nat_le 1 n && (nat_le n 9223372036854775807
    && (not (has_number (held r s) n) && not (is_stopped r s))))) e
nobody r (Closing s ticket) is e =
    ap (λ o. (ticket == counter r + 1) && (is_outgoing_side o && follows (phase r s) (Closing s ticket))) e
    ∙ and_right (ticket == counter r + 1) false refl
nobody r (ClosedOut s) is e = ap (λ o. is_outgoing_side o && follows (phase r s) (ClosedOut s)) e
nobody r (Closed s cause last) is e = ap (λ o. is_incoming_side o && not (is_stopped r s)) e
nobody r (Ending s ticket) is e =
    ap (λ o. (ticket == counter r + 1) && (is_outgoing_side o && follows (phase r s) (Ending s ticket))) e
    ∙ and_right (ticket == counter r + 1) false refl
nobody r (EndedOut s) is e = ap (λ o. is_outgoing_side o && follows (phase r s) (EndedOut s)) e
nobody r (Ended s cause last) is e = ap (λ o. is_incoming_side o && not (has_end r s)) e
nobody r (Failed s fault) is e = ap (λ o. is_outgoing_side o && follows (phase r s) (Failed s fault)) e
nobody r (Consumed s upto) is e =
    ap (λ o. is_incoming_side o && (nat_lt (cursor r s) upto && nat_le upto (length (inbox r s)))) e
nobody r (Dropped s upto) is e =
    ap (λ o. (is_outgoing_side o && follows (phase r s) (Dropped s upto))
    && ((accepted_count r s == 0) && (nat_le 1 upto && nat_le upto 9223372036854775807))) e
nobody r (Purged s ranges) is e =
    ap (λ o. is_incoming_side o && (is_empty (held r s)
    && (list_all (is_up_to 9223372036854775807) ranges && may_be_gone (is_loose (behaviour r s)) ranges))) e
nobody r _ is e = absurd (false≢true is)

taken : (r : List Fact) (f : Fact) (o : Option Maker) → is_naming f ≡ true → maker r (names f) ≡ o
    → takes_at (option_map (λ (m : Maker). told_by r (names f) m) o) (draws_next r f) f ≡ fits r f
taken r f None is e = sym (nobody r f is e)
taken r f (Some m) is e = sym (fits-takes r f m e)

-- a record that names a sequence fits exactly where that is there and takes it
pub fits-at : (r : List Fact) (f : Fact) → is_naming f ≡ true
    → takes_at (told_in r (names f)) (draws_next r f) f ≡ fits r f
fits-at r f is = taken r f (maker r (names f)) is refl

-- the row that a record names takes it, and draws the next number
pub taken-by : (r : List Fact) (f : Fact) (t : Told) (x : Bool) → is_naming f ≡ true → told_in r (names f) ≡ Some t
    → x ≡ (draws_next r f && takes t.side f) → x ≡ fits r f
taken-by r f t x is e h = h ∙ ap (λ o. takes_at o (draws_next r f) f) (sym e) ∙ fits-at r f is

-- the row that a record names is there, and takes it
pub record IsTaken (t : Table) (f : Fact) : Type 0 where
  pub one : 1 ≤ names f
  pub within : names f ≤ length t.rows
  pub takes_ : takes (row_at t.rows (names f - 1)).side f ≡ true

taken_some : (o : Option Told) (x : Told) (next : Bool) (f : Fact) → takes_at o next f ≡ true → o ≡ Some x
    → takes x.side f ≡ true
taken_some o x next f h e =
    (and_parts next (takes x.side f) (subst (λ (p : Option Told). takes_at p next f ≡ true) e h)).1

pub row-taken : (t : Table) (f : Fact) → Holds t → is_naming f ≡ true → fits (records_in t) f ≡ true → IsTaken t f
row-taken t f h is fit =
    let r = records_in t in
    let at : takes_at (told_in r (names f)) (draws_next r f) f ≡ true = fits-at r f is ∙ fit in
    elim (cases_eq (names f) 0) [
      | inl e ↦ absurd (false≢true (subst (λ s. takes_at (told_in r s) (draws_next r f) f ≡ true) e at))
      | inr ne ↦
          let same = row-told t (names f) h ne in
          elim (slice_get_cases t.rows (names f - 1)).1 [
            | inl there ↦
                let known : row_at t.rows (names f - 1) ≡ there.0 =
                get_or_from_slice_get t.rows (names f - 1) there.0 no_row there.2 in
                record {
                  one = omega (arith, ne);
                  within = omega (arith, ne, there.1);
                  takes_ = ap (λ (x : Told). takes x.side f) known
                      ∙ taken_some (told_in r (names f)) there.0 (draws_next r f) f at (sym same ∙ there.2);
                }
            | inr past ↦
                absurd (false≢true (subst (λ (p : Option Told). takes_at p (draws_next r f) f ≡ true)
                (sym same ∙ past.1) at))
          ]
    ]
