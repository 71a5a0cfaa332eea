-- What stays of a sequence, and of the node, whatever records come behind.
use Rattle.std.proofs.Common.{◌≡◌, ◌⊎◌, ℕ, suc, ◌+◌, ◌-◌, ◌<◌, ◌≤◌, ◌==◌, ◌||◌, not, nat_le, cond, Bool, true, false}
use Rattle.std.proofs.Common.{List, [], ◌∷◌, ◌++◌, length, refl, sym, ap, ◌∙◌, arith, inl, inr}
use Rattle.std.specs.Prelude.{Option, Some, None}
use Rattle.std.specs.List.{flat_map}
use Rattle.std.specs.Str.{bytes_eq}
use Rattle.std.proofs.lemmas.Bool.{false≢true}
use Rattle.std.proofs.lemmas.Bool.Decides.{nat_tests}
use Rattle.std.proofs.lemmas.List.{map-append}
use Rattle.std.proofs.lemmas.List.Concat.{flat_map-append}
use Rattle.rm_base.specs.NumberSet.{has_number}
use Rattle.rm_base.specs.declared.message.Payload.{Payload}
use Rattle.rm_sides.specs.Ranges.Ranges.{in_ranges}
use Rattle.rm_sides.specs.Destination.Messages.{is_empty, numbers_of}
use Rattle.rm_sides.specs.Destination.ItemLemmas.{has_number-held, has-more}
use Rattle.rm_sides.specs.Destination.Laws.{FrontIsReached, IsFront}
use Rattle.wsa_headers.specs.declared.endpoint.Epr.{Epr}
use Rattle.record_batch.specs.Fact.{Fact}
use Rattle.record_batch.specs.Snapshot.Same.{AreNumbers, NumbersAreFromOne}
use Rattle.record_batch.specs.Snapshot.FrameLemmas.{created_from-append}
use Rattle.record_batch.specs.Sequences.Words.{Text, at_seq, first_or}
use Rattle.record_batch.specs.Sequences.GatherLemmas.{at_seq-append}
use Rattle.record_batch.specs.Sequences.StayLemmas.{maker-stays}
use Rattle.record_batch.specs.Sequences.Makers.{Maker, Outgoing, Offered, Incoming, Taken, created_from, ident_in}
use Rattle.record_batch.specs.Sequences.Makers.{maker}
use Rattle.record_batch.specs.Sequences.Makers.{makers, makers_of, nodes_of, number, seq_in}
use Rattle.record_batch.specs.Sequences.Sources.{out_ident}
use Rattle.record_batch.specs.Sequences.Destinations.{close_of, closes, deadline_of, front, held, is_ended}
use Rattle.record_batch.specs.Sequences.Destinations.{is_over, is_stopped, items, purged, purged_of, received}
use Rattle.record_batch.specs.Sequences.Destinations.{received_of}
use Rattle.record_batch.specs.Sequences.Fits.{all_fit}
use Rattle.record_batch.specs.Sequences.Find.{accept_of, accepted_by, acks_to, acks_to_of, find_from, find_incoming}
use Rattle.record_batch.specs.Sequences.Find.{find_outgoing, is_incoming, peer, peer_of}
use Rattle.rm_arrival.proofs.RangeLemmas.{in_ranges-first}

-- ---- identifiers

ident_in-longer : (cs ds : List (ℕ × Text)) (s : ℕ) (q : Text) → ident_in cs s ≡ Some q → ident_in (cs ++ ds) s ≡ Some q
ident_in-longer [] ds s q e = absurd (cc)
ident_in-longer (c ∷ cs) ds s q e =
    elim (c.0 == s) as (λ b. cond b (Some c.1) (ident_in cs s) ≡ Some q
    → cond b (Some c.1) (ident_in (cs ++ ds) s) ≡ Some q) [
      | true ↦ λ h. h
      | false ↦ λ h. ident_in-longer cs ds s q h
    ] e

pub out_ident-stays : (r d : List Fact) (s : ℕ) (q : Text) → out_ident r s ≡ Some q → out_ident (r ++ d) s ≡ Some q
out_ident-stays r d s q e =
    ap (λ cs. ident_in cs s) (created_from-append 0 r d)
    ∙ ident_in-longer (created_from 0 r) (created_from (0 + length (makers r)) d) s q e

seq_in-longer : (cs ds : List (ℕ × Text)) (s : ℕ) (q : Text) → seq_in cs q ≡ Some s → seq_in (cs ++ ds) q ≡ Some s
seq_in-longer [] ds s q e = absurd (cc)
seq_in-longer (c ∷ cs) ds s q e =
    elim (bytes_eq c.1 q) as (λ b. cond b (Some c.0) (seq_in cs q) ≡ Some s
    → cond b (Some c.0) (seq_in (cs ++ ds) q) ≡ Some s) [
      | true ↦ λ h. h
      | false ↦ λ h. seq_in-longer cs ds s q h
    ] e

pub find_outgoing-stays : (r d : List Fact) (s : ℕ) (q : Text) → find_outgoing r q ≡ Some s
    → find_outgoing (r ++ d) q ≡ Some s
find_outgoing-stays r d s q e =
    ap (λ cs. seq_in cs q) (created_from-append 0 r d)
    ∙ seq_in-longer (created_from 0 r) (created_from (0 + length (makers r)) d) s q e

first_or-longer : (xs ys : List ℕ) (n : ℕ) → first_or 0 xs ≡ suc n → first_or 0 (xs ++ ys) ≡ first_or 0 xs
first_or-longer [] ys n e = absurd (omega (arith, e))
first_or-longer (x ∷ xs) ys n e = refl

number-stays : (r d : List Fact) (n : ℕ) → number r ≡ suc n → number (r ++ d) ≡ number r
number-stays r d n e =
    ap (λ z. first_or 0 z) (flat_map-append nodes_of r d)
    ∙ first_or-longer (flat_map nodes_of r) (flat_map nodes_of d) n e

find_from-longer : (f : ℕ → Maker → Bool) (k : ℕ) (ms ns : List Maker) (s : ℕ) → find_from f k ms ≡ Some s
    → find_from f k (ms ++ ns) ≡ Some s
find_from-longer f k [] ns s e = absurd (cc)
find_from-longer f k (m ∷ ms) ns s e =
    elim (f (suc k) m) as (λ b. cond b (Some (suc k)) (find_from f (suc k) ms) ≡ Some s
    → cond b (Some (suc k)) (find_from f (suc k) (ms ++ ns)) ≡ Some s) [
      | true ↦ λ h. h
      | false ↦ λ h. find_from-longer f (suc k) ms ns s h
    ] e

pub find_incoming-stays : (r d : List Fact) (t n : ℕ) (q : Text) → number r ≡ suc n → find_incoming r q ≡ Some t
    → find_incoming (r ++ d) q ≡ Some t
find_incoming-stays r d t n q is e =
    ap (λ z. find_from (is_incoming z q) 0 (makers (r ++ d))) (number-stays r d n is)
    ∙ ap (λ ms. find_from (is_incoming (number r) q) 0 ms) (flat_map-append makers_of r d)
    ∙ find_from-longer (is_incoming (number r) q) 0 (makers r) (makers d) t e

-- ---- whom a node speaks to

pub peer-stays : (r d : List Fact) (s : ℕ) (to : Epr) → peer r s ≡ Some to → peer (r ++ d) s ≡ Some to
peer-stays r d s to e = by_maker (maker r s) refl
  where
    by_maker : (o : Option Maker) → maker r s ≡ o → peer (r ++ d) s ≡ Some to
    by_maker None is = absurd (cc (sym (ap peer_of is) ∙ e))
    by_maker (Some m) is = ap peer_of (maker-stays r d s m is) ∙ sym (ap peer_of is) ∙ e

first_or-some : (xs ys : List (Option Epr)) (back : Epr) → first_or None xs ≡ Some back
    → first_or None (xs ++ ys) ≡ Some back
first_or-some [] ys back e = absurd (cc)
first_or-some (x ∷ xs) ys back e = e

accepted_by-stays : (r d : List Fact) (s : ℕ) (back : Epr) → accepted_by r s ≡ Some back
    → accepted_by (r ++ d) s ≡ Some back
accepted_by-stays r d s back e =
    ap (λ xs. first_or None (at_seq s xs)) (flat_map-append accept_of r d)
    ∙ ap (λ xs. first_or None xs) (at_seq-append s (flat_map accept_of r) (flat_map accept_of d))
    ∙ first_or-some (at_seq s (flat_map accept_of r)) (at_seq s (flat_map accept_of d)) back e

pub acks_to-stays : (r d : List Fact) (t : ℕ) (back : Epr) → acks_to r t ≡ Some back → acks_to (r ++ d) t ≡ Some back
acks_to-stays r d t back e = by_maker (maker r t) refl (sym (ap (λ o. acks_to_of r t o) refl) ∙ e)
  where
    by_maker : (o : Option Maker) → maker r t ≡ o → acks_to_of r t (maker r t) ≡ Some back
        → acks_to (r ++ d) t ≡ Some back
    by_maker (Some (Incoming counter message_id acks behaviour deadline lapse)) is h =
        ap (λ o. acks_to_of (r ++ d) t o)
        (maker-stays r d t (Incoming counter message_id acks behaviour deadline lapse) is)
        ∙ sym (ap (λ o. acks_to_of r t o) is) ∙ h
    by_maker (Some (Offered ticket counter to behaviour)) is h =
        ap (λ o. acks_to_of (r ++ d) t o) (maker-stays r d t (Offered ticket counter to behaviour) is)
        ∙ accepted_by-stays r d (t - 1) back (sym (ap (λ o. acks_to_of r t o) is) ∙ h)
    by_maker (Some (Outgoing ticket to via lapse)) is h = absurd (cc (sym (ap (λ o. acks_to_of r t o) is) ∙ h))
    by_maker (Some (Taken message_id ident endpoint)) is h = absurd (cc (sym (ap (λ o. acks_to_of r t o) is) ∙ h))
    by_maker None is h = absurd (cc (sym (ap (λ o. acks_to_of r t o) is) ∙ h))

-- ---- a sequence that is open later was open before

none-first : {A : Type 0} (xs ys : List A) → not (is_empty (xs ++ ys)) ≡ false → xs ≡ []
none-first [] ys e = refl
none-first (x ∷ xs) ys e = absurd (cc (e))

pub closes-before : (r d : List Fact) (t : ℕ) → is_stopped (r ++ d) t ≡ false → closes r t ≡ []
closes-before r d t e =
    let split : closes (r ++ d) t ≡ closes r t ++ closes d t =
    ap (λ xs. at_seq t xs) (flat_map-append close_of r d)
    ∙ at_seq-append t (flat_map close_of r) (flat_map close_of d) in
    none-first (closes r t) (closes d t) (sym (ap (λ xs. not (is_empty xs)) split) ∙ e)

-- neither closed nor ended at any moment
pub record IsGoing (r : List Fact) (t : ℕ) : Type 0 where
  pub over : (now : ℕ) → is_over r t now ≡ false
  pub ended : (now : ℕ) → is_ended r t now ≡ false

pub deadline-before : (r d : List Fact) (t : ℕ) (back : Epr) → acks_to r t ≡ Some back
    → deadline_of (maker (r ++ d) t) ≡ None → deadline_of (maker r t) ≡ None
deadline-before r d t back e none = by_maker (maker r t) refl
  where
    by_maker : (o : Option Maker) → maker r t ≡ o → deadline_of (maker r t) ≡ None
    by_maker None is = absurd (cc (sym (ap (λ o. acks_to_of r t o) is) ∙ e))
    by_maker (Some m) is =
        ap (λ o. deadline_of o) is ∙ sym (ap (λ o. deadline_of o) (maker-stays r d t m is)) ∙ none

pub going-before : (r d : List Fact) (t : ℕ) (back : Epr) → acks_to r t ≡ Some back → is_stopped (r ++ d) t ≡ false
    → deadline_of (maker (r ++ d) t) ≡ None → IsGoing r t
going-before r d t back e open_ forever =
    let none : closes r t ≡ [] = closes-before r d t open_ in
    let never : deadline_of (maker r t) ≡ None = deadline-before r d t back e forever in
    record { over = λ now. rw (none, never) refl; ended = λ now. rw (none, never) refl }

-- ---- what is held stays held, and the front goes up

or-first : (x y : Bool) → x ≡ true → (x || y) ≡ true
or-first true y h = refl
or-first false y h = absurd (cc (h))

or-second : (x y : Bool) → y ≡ true → (x || y) ≡ true
or-second true y h = refl
or-second false y h = h

or-either : (x y : Bool) → (x || y) ≡ true → (x ≡ true) ⊎ (y ≡ true)
or-either true y h = inl refl
or-either false y h = inr h

numbers-stay : (xs ys : List (ℕ × Payload)) (n : ℕ) → has_number (numbers_of xs) n ≡ true
    → has_number (numbers_of (xs ++ ys)) n ≡ true
numbers-stay xs ys n h =
    ap (λ z. has_number z n) (map-append (λ (m : ℕ × Payload). m.0) xs ys)
    ∙ has-more (numbers_of xs) (numbers_of ys) n
    ∙ or-first (has_number (numbers_of xs) n) (has_number (numbers_of ys) n) h

pub held-stays : (r d : List Fact) (t n : ℕ) → has_number (held r t) n ≡ true → has_number (held (r ++ d) t) n ≡ true
held-stays r d t n h =
    has_number-held (purged (r ++ d) t) (received (r ++ d) t) n
    ∙ (elim (or-either (in_ranges (purged r t) n) (has_number (numbers_of (received r t)) n)
    (sym (has_number-held (purged r t) (received r t) n) ∙ h)) [
      | inl x ↦ or-first (in_ranges (purged (r ++ d) t) n) (has_number (numbers_of (received (r ++ d) t)) n)
          (ap (λ z. in_ranges z n) (flat_map-append (purged_of t) r d) ∙ in_ranges-first (purged r t) (purged d t) n x)
      | inr x ↦ or-second (in_ranges (purged (r ++ d) t) n) (has_number (numbers_of (received (r ++ d) t)) n)
          (ap (λ z. has_number (numbers_of z) n) (flat_map-append (received_of t) r d)
          ∙ numbers-stay (received r t) (received d t) n x)
    ])

no-zero : (ms : List (ℕ × Payload)) → AreNumbers ms → has_number (numbers_of ms) 0 ≡ false
no-zero [] h = refl
no-zero (m ∷ ms) h =
    let above : 0 < m.0 = h.0 in
    let off : (m.0 == 0) ≡ false = grind (arith, nat_tests, above) in
    ap (λ b. b || has_number (numbers_of ms) 0) off ∙ no-zero ms h.1

is-false : (b : Bool) → (b ≡ true → ⊥) → b ≡ false
is-false true h = absurd (h refl)
is-false false h = refl

pub front-is : NumbersAreFromOne → FrontIsReached → (r : List Fact) (t : ℕ) → all_fit [] r ≡ true
    → IsFront (held r t) (front r t)
front-is from reached r t fit =
    let it = from r fit t in
    reached (items r t)
    (has_number-held (purged r t) (received r t) 0
    ∙ ap (λ b. b || has_number (numbers_of (received r t)) 0)
    (is-false (in_ranges (purged r t) 0) (λ e. let no : 0 < 0 = it.purged_ 0 e in absurd (omega (arith, no))))
    ∙ no-zero (received r t) it.received_)

pub front-grows : NumbersAreFromOne → FrontIsReached → (r d : List Fact) (t : ℕ) → all_fit [] r ≡ true
    → all_fit [] (r ++ d) ≡ true → front r t ≤ front (r ++ d) t
front-grows from reached r d t fit more =
    let old = front-is from reached r t fit in
    let new = front-is from reached (r ++ d) t more in
    elim (nat_le (front r t) (front (r ++ d) t)) as (λ b. nat_le (front r t) (front (r ++ d) t) ≡ b
    → front r t ≤ front (r ++ d) t) [
      | true ↦ λ e. grind (arith, nat_tests, e)
      | false ↦ λ e.
          let below : front (r ++ d) t + 1 ≤ front r t = grind (arith, nat_tests, e) in
          let has = old.all (front (r ++ d) t + 1) (omega arith) below in
          absurd (false≢true (sym new.ends ∙ held-stays r d t (front (r ++ d) t + 1) has))
    ] refl
