-- The ticket of the request that a sequence waits with in phase Closing or Ending.
use Rattle.std.proofs.Common.{◌≡◌, ℕ, ◌+◌, ◌≤◌, ◌==◌, true, false, cond, List, [], ◌∷◌, ◌++◌, length, refl, sym}
use Rattle.std.proofs.Common.{subst, ◌∙◌, arith, append-nil, append_assoc, Option, Some, None}
use Rattle.std.specs.List.{AllByRecursion, flat_map}
use Rattle.std.proofs.lemmas.Bool.{and_parts, eqb-true}
use Rattle.rm_sides.specs.declared.source.phase.OutPhase.{OutPhase}
use Rattle.rm_sides.specs.declared.source.phase.OutPhase.TheVariants as out
use Rattle.record_batch.specs.Fact.{Fact, Closing, ClosedOut, Ending, EndedOut, Failed}
use Rattle.record_batch.specs.Sequences.Words.{Text, at_seq, last_or}
use Rattle.record_batch.specs.Sequences.Makers.{Maker, counter, draws_of, maker}
use Rattle.record_batch.specs.Sequences.Sources.{first_phase, mark_of, marks, out_ident, phase, ticket_of, tickets}
use Rattle.record_batch.specs.Sequences.Find.{peer, peer_of}
use Rattle.record_batch.specs.Sequences.Fits.{fits, follows_at, all_fit}
use Rattle.record_batch.specs.Sequences.Told.{first_ticket, last_onto}
use Rattle.record_batch.specs.Sequences.GatherLemmas.{at_seq-append, flat_map-more}
use Rattle.record_batch.specs.Sequences.NodeLemmas.{one_more}
use Rattle.node_tables.specs.Reads.{ticket_in, ticket_of as ticket_for}
use Rattle.node_calls.specs.Records.{is_finishing}
use Rattle.node_calls.proofs.DrawnLemmas.{All-append, All-weaker}

-- ---- a sequence in such a phase has drawn a ticket for its request

-- a phase that waits for no such answer
abbrev IsOther : OutPhase → Type 0
IsOther p = is_finishing p ≡ false

none-both : {A : Type 0} (xs ys : List A) → xs ++ ys ≡ [] → (xs ≡ []) × (ys ≡ [])
none-both [] ys e = (refl, e)
none-both (x ∷ xs) ys e = absurd (cc)

mark-asked : (seq s ticket : ℕ) (p : OutPhase) → at_seq s ((seq, ticket) ∷ []) ≡ []
    → AllByRecursion IsOther (at_seq s ((seq, p) ∷ []))
mark-asked seq s ticket p h =
    elim (seq == s) as (λ b. cond b (ticket ∷ []) [] ≡ [] → AllByRecursion IsOther (cond b (p ∷ []) [])) [
      | true ↦ λ e. absurd (cc)
      | false ↦ λ e. tt
    ] h

mark-other : (seq s : ℕ) (p : OutPhase) → IsOther p → AllByRecursion IsOther (at_seq s ((seq, p) ∷ []))
mark-other seq s p h = elim (seq == s) as (λ b. AllByRecursion IsOther (cond b (p ∷ []) [])) [
  | true ↦ (h, tt)
  | false ↦ tt
]

-- a record without a ticket of the sequence leads to no such phase
quiet-mark : (s : ℕ) (f : Fact) → at_seq s (ticket_of f) ≡ [] → AllByRecursion IsOther (at_seq s (mark_of f))
quiet-mark s (Closing seq ticket) h = mark-asked seq s ticket out.Closing h
quiet-mark s (Ending seq ticket) h = mark-asked seq s ticket out.Ending h
quiet-mark s (ClosedOut seq) h = mark-other seq s out.Closed refl
quiet-mark s (EndedOut seq) h = mark-other seq s out.Ended refl
quiet-mark s (Failed seq fault) h = mark-other seq s out.Failed refl
quiet-mark s _ h = tt

quiet-marks : (r : List Fact) (s : ℕ) → tickets r s ≡ [] → AllByRecursion IsOther (marks r s)
quiet-marks [] s h = tt
quiet-marks (f ∷ r) s h =
    let both = none-both (at_seq s (ticket_of f)) (tickets r s)
    (sym (at_seq-append s (ticket_of f) (flat_map ticket_of r)) ∙ h) in
    subst (AllByRecursion IsOther) (sym (at_seq-append s (mark_of f) (flat_map mark_of r)))
    (All-append IsOther (at_seq s (mark_of f)) (marks r s) (quiet-mark s f both.0) (quiet-marks r s both.1))

last-other : (p : OutPhase) (ps : List OutPhase) → IsOther p → AllByRecursion IsOther ps → IsOther (last_or p ps)
last-other p [] h k = h
last-other p (q ∷ ps) h k = last-other q ps k.0 k.1

first-other : (o : Option Text) → IsOther (first_phase o)
first-other None = refl
first-other (Some q) = refl

asked : (r : List Fact) (s : ℕ) → is_finishing (phase r s) ≡ true → tickets r s ≡ [] → ⊥
asked r s h none =
    let other : is_finishing (phase r s) ≡ false =
    last-other (first_phase (out_ident r s)) (marks r s) (first-other (out_ident r s)) (quiet-marks r s none) in
    absurd (cc)

-- ---- so the ticket that the tables have is the last of those

last_onto-is : {A : Type 0} (a : A) (o : Option A) (xs : List A) → (xs ≡ [] → ⊥) → last_onto o xs ≡ Some (last_or a xs)
last_onto-is a o [] h = absurd (h refl)
last_onto-is a o (x ∷ []) h = refl
last_onto-is a o (x ∷ y ∷ ys) h = last_onto-is x (Some x) (y ∷ ys) (λ e. absurd (cc))

for-is : (r : List Fact) (s : ℕ) (m : Maker) → is_finishing (phase r s) ≡ true
    → ticket_for r s (Some m) ≡ Some (last_or 0 (tickets r s))
for-is r s m h = last_onto-is 0 (first_ticket m) (tickets r s) (asked r s h)

pub ticket-last : (r : List Fact) (s t : ℕ) → is_finishing (phase r s) ≡ true → Some t ≡ ticket_in r s
    → last_or 0 (tickets r s) ≡ t
ticket-last r s t h e = by_maker (maker r s) e
  where
    by_maker : (o : Option Maker) → Some t ≡ ticket_for r s o → last_or 0 (tickets r s) ≡ t
    by_maker None k = absurd (cc)
    by_maker (Some m) k = let is = for-is r s m h in cc

pub ticket-none : (r : List Fact) (s : ℕ) → is_finishing (phase r s) ≡ true → None ≡ ticket_in r s → peer r s ≡ None
ticket-none r s h e = by_maker (maker r s) e
  where
    by_maker : (o : Option Maker) → None ≡ ticket_for r s o → peer_of o ≡ None
    by_maker None k = refl
    by_maker (Some m) k = let is = for-is r s m h in absurd (cc)

-- ---- and it is among the numbers that were drawn

-- a sequence's ticket is one of the first n numbers
abbrev UpTo : ℕ → ℕ × ℕ → Type 0
UpTo n x = x.1 ≤ n

new-ticket : (r : List Fact) (f : Fact) → fits r f ≡ true
    → AllByRecursion (UpTo (counter r + length (draws_of f))) (ticket_of f)
new-ticket r (Closing seq ticket) h =
    let t : ticket ≡ counter r + 1 = eqb-true ticket (counter r + 1)
    (and_parts (ticket == counter r + 1) (follows_at r seq (Closing seq ticket)) h).0 in
    (omega (arith, t), tt)
new-ticket r (Ending seq ticket) h =
    let t : ticket ≡ counter r + 1 = eqb-true ticket (counter r + 1)
    (and_parts (ticket == counter r + 1) (follows_at r seq (Ending seq ticket)) h).0 in
    (omega (arith, t), tt)
new-ticket r _ h = tt

all-tickets : (r xs : List Fact) → AllByRecursion (UpTo (counter r)) (flat_map ticket_of r) → all_fit r xs ≡ true
    → AllByRecursion (UpTo (counter (r ++ xs))) (flat_map ticket_of (r ++ xs))
all-tickets r [] a h =
    subst (λ (rs : List Fact). AllByRecursion (UpTo (counter rs)) (flat_map ticket_of rs)) (sym (append-nil r)) a
all-tickets r (f ∷ xs) a h =
    let now = r ++ f ∷ [] in
    let parts = and_parts (fits r f) (all_fit now xs) h in
    let count : counter now ≡ counter r + length (draws_of f) = one_more.counter_ r f in
    let old : AllByRecursion (UpTo (counter now)) (flat_map ticket_of r) =
    All-weaker (UpTo (counter r)) (UpTo (counter now)) (λ x le. omega (arith, le, count)) (flat_map ticket_of r) a in
    let new : AllByRecursion (UpTo (counter now)) (ticket_of f) =
    subst (λ n. AllByRecursion (UpTo n) (ticket_of f)) (sym count) (new-ticket r f parts.0) in
    let here : AllByRecursion (UpTo (counter now)) (flat_map ticket_of now) =
    subst (AllByRecursion (UpTo (counter now))) (sym (flat_map-more ticket_of r f))
    (All-append (UpTo (counter now)) (flat_map ticket_of r) (ticket_of f) old new) in
    subst (λ (rs : List Fact). AllByRecursion (UpTo (counter rs)) (flat_map ticket_of rs)) (append_assoc r (f ∷ []) xs)
    (all-tickets now xs here parts.1)

of-one : (n s : ℕ) (xs : List (ℕ × ℕ)) → AllByRecursion (UpTo n) xs → AllByRecursion (λ t. t ≤ n) (at_seq s xs)
of-one n s [] h = tt
of-one n s (x ∷ xs) h =
    elim (x.0 == s) as (λ b. AllByRecursion (λ t. t ≤ n) (cond b (x.1 ∷ at_seq s xs) (at_seq s xs))) [
      | true ↦ (h.0, of-one n s xs h.1)
      | false ↦ of-one n s xs h.1
    ]

last-up : (n a : ℕ) (xs : List ℕ) → a ≤ n → AllByRecursion (λ t. t ≤ n) xs → last_or a xs ≤ n
last-up n a [] h k = h
last-up n a (x ∷ xs) h k = last-up n x xs k.0 k.1

pub ticket-drawn : (r : List Fact) (s : ℕ) → all_fit [] r ≡ true → last_or 0 (tickets r s) ≤ counter r
ticket-drawn r s h =
    last-up (counter r) 0 (tickets r s) (omega arith)
    (of-one (counter r) s (flat_map ticket_of r) (all-tickets [] r tt h))
