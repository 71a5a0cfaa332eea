-- A node has fewer sequences than there are numbers of 32 bits, and each number that it draws is the next one.
use Rattle.std.proofs.Common.{◌≡◌, ℕ, ◌+◌, ◌≤◌, ◌==◌, true, List, [], ◌∷◌, ◌++◌, length}
use Rattle.std.proofs.Common.{refl, ap, subst, ◌∙◌, arith, inl, inr, Option, Some, None}
use Rattle.std.specs.Prelude.{not}
use Rattle.std.specs.List.{list_all}
use Rattle.std.proofs.lemmas.Bool.{and_from, and_parts, cases_eq, eqb-true, false≢true, leb-true, lt-ltb}
use Rattle.std.proofs.lemmas.List.{append-nil, append_assoc, length-append}
use Rattle.record_batch.specs.Fact.{Fact, Creating, Granted, Closing, Ending}
use Rattle.record_batch.specs.Sequences.Words.{last_or}
use Rattle.record_batch.specs.Sequences.Makers.{makers, makers_of, counter, draws_of}
use Rattle.record_batch.specs.Sequences.Fits.{fits, all_fit, has_places, is_no_moment, offer_fits}
use Rattle.record_batch.specs.Sequences.NodeLemmas.{one_more}
use Rattle.node_tables.specs.Row.Row.{is_moment}
use Rattle.node_tables.specs.Kept.{Table, Holds, is_timed_record, records_in}
use Rattle.node_tables.proofs.RowsLemmas.{rows-count}

places : (r : List Fact) (f : Fact) → has_places r f ≡ true → length (makers r) + length (makers_of f) ≤ 4294967295
places r f h = leb-true (length (makers r) + length (makers_of f)) 4294967295 h

pub fits-few : (r : List Fact) (f : Fact) → fits r f ≡ true → length (makers r) ≤ 4294967295
    → length (makers r) + length (makers_of f) ≤ 4294967295
fits-few r (Creating ticket to via lapse offer) h le =
    places r (Creating ticket to via lapse offer)
    (and_parts (offer_fits (counter r) offer) (has_places r (Creating ticket to via lapse offer))
    (and_parts (ticket == counter r + 1) _ h).1).1
fits-few r (Granted drawn message_id acks_to behaviour deadline lapse offer) h le =
    places r (Granted drawn message_id acks_to behaviour deadline lapse offer)
    (and_parts (not (is_no_moment deadline)) _ (and_parts (drawn == counter r + 1) _ h).1).1
fits-few r _ h le = omega (arith, le)

all-few : (r xs : List Fact) → all_fit r xs ≡ true → length (makers r) ≤ 4294967295
    → length (makers (r ++ xs)) ≤ 4294967295
all-few r [] h le = rw (append-nil r) le
all-few r (f ∷ xs) h le =
    let parts = and_parts (fits r f) (all_fit (r ++ f ∷ []) xs) h in
    let more : length (makers (r ++ f ∷ [])) ≡ length (makers r) + length (makers_of f) =
    ap length (one_more.makers_ r f) ∙ length-append (makers r) (makers_of f) in
    let next : length (makers (r ++ f ∷ [])) ≤ 4294967295 = omega (arith, more, fits-few r f parts.0 le) in
    subst (λ rs. length (makers rs) ≤ 4294967295) (append_assoc r (f ∷ []) xs)
    (all-few (r ++ f ∷ []) xs parts.1 next)

pub rows-few : (t : Table) → Holds t → length t.rows ≤ 4294967295
rows-few t h =
    let few = all-few [] (records_in t) h.fit (omega arith) in
    omega (arith, few, rows-count t h)

pub made-few : (t : Table) (f : Fact) → Holds t → fits (records_in t) f ≡ true
    → length t.rows + length (makers_of f) ≤ 4294967295
made-few t f h fit =
    let few = all-few [] (records_in t) h.fit (omega arith) in
    omega (arith, rows-count t h, fits-few (records_in t) f fit few)

-- the last number that a record draws
pub last-drawn : (r : List Fact) (f : Fact) (drawn : ℕ) → drawn ≡ counter r → fits r f ≡ true
    → last_or drawn (draws_of f) ≡ drawn + length (draws_of f)
last-drawn r (Creating ticket to via lapse None) drawn e h =
    let is = eqb-true ticket (counter r + 1) (and_parts (ticket == counter r + 1) _ h).0 in omega (arith, is, e)
last-drawn r (Creating ticket to via lapse (Some offer)) drawn e h =
    let more = (and_parts (ticket == counter r + 1) _ h).1 in
    let next = (and_parts (offer_fits (counter r) (Some offer)) _ more).0 in
    let is = eqb-true offer.counter (counter r + 2) next in
    omega (arith, is, e)
last-drawn r (Granted number message_id acks_to behaviour deadline lapse offer) drawn e h =
    let is = eqb-true number (counter r + 1) (and_parts (number == counter r + 1) _ h).0 in omega (arith, is, e)
last-drawn r (Closing seq ticket) drawn e h =
    let is = eqb-true ticket (counter r + 1) (and_parts (ticket == counter r + 1) _ h).0 in omega (arith, is, e)
last-drawn r (Ending seq ticket) drawn e h =
    let is = eqb-true ticket (counter r + 1) (and_parts (ticket == counter r + 1) _ h).0 in omega (arith, is, e)
last-drawn r _ drawn e h = let is : drawn ≡ drawn + 0 = omega arith in is

moment : (deadline : Option ℕ) → not (is_no_moment deadline) ≡ true → is_moment deadline ≡ true
moment None h = refl
moment (Some t) h = elim (cases_eq t 0) [
  | inl e ↦ absurd (false≢true (subst (λ n. not (n == 0) ≡ true) e h))
  | inr ne ↦ lt-ltb 0 t (omega (arith, ne))
]

-- the deadline of a record that fits is a moment
pub timed : (r : List Fact) (f : Fact) → fits r f ≡ true → is_timed_record f ≡ true
timed r (Granted drawn message_id acks_to behaviour deadline lapse offer) h =
    moment deadline (and_parts (not (is_no_moment deadline)) _ (and_parts (drawn == counter r + 1) _ h).1).0
timed r _ h = refl

-- so are those of records that fit one after the other
pub all-timed : (r xs : List Fact) → all_fit r xs ≡ true → list_all is_timed_record xs ≡ true
all-timed r [] h = refl
all-timed r (f ∷ xs) h =
    let parts = and_parts (fits r f) (all_fit (r ++ f ∷ []) xs) h in
    and_from (is_timed_record f) (list_all is_timed_record xs) (timed r f parts.0)
    (all-timed (r ++ f ∷ []) xs parts.1)
