-- What the records of a node say of their sequences keeps the limits.
use Rattle.std.proofs.Common.{◌≡◌, ℕ, ◌+◌, ◌-◌, ◌<◌, ◌≤◌, ◌==◌, min, max, Bool, true, false, cond, List, [], ◌∷◌}
use Rattle.std.proofs.Common.{length, sym, subst, arith, Option, Some, None}
use Rattle.std.specs.Prelude.{nat_le, nat_lt, not, take, filter, zero, suc, IfSome}
use Rattle.std.specs.List.{AllByRecursion, flat_map, list_all}
use Rattle.std.proofs.lemmas.Bool.{and_parts, leb-true}
use Rattle.rm_sides.specs.declared.ranges.range.Range.{Range}
use Rattle.rm_sides.specs.Ranges.Changes.{with_range}
use Rattle.rm_sides.specs.Ranges.Ranges.{greatest_of, size_of}
use Rattle.rm_base.specs.Message.{max_number}
use Rattle.rm_base.specs.NumberSet.{has_number}
use Rattle.rm_base.specs.Text.{IsText}
use Rattle.rm_base.specs.declared.message.Payload.{Payload}
use Rattle.rm_message.specs.Elements.Writable.{IsNumber, IsRange, IsKindWritable, IsAckWritable, IsLapseWritable}
use Rattle.soap_document.specs.Profile.Payload.{IsClosedContent}
use Rattle.wsa_headers.specs.Writable.{IsEprWritable}
use Rattle.wsa_headers.specs.declared.endpoint.Epr.{Epr}
use Rattle.record_batch.specs.Fact.{Fact, Made, Creating, Created, Granted, Accepted, Purged, Received}
use Rattle.rm_sides.specs.Destination.Incoming.{is_loose}
use Rattle.rm_sides.specs.Destination.ItemLemmas.{numbers_of-both}
use Rattle.rm_sides.specs.Destination.Messages.{is_empty, numbers_in, numbers_of, ranges_onto, run_of}
use Rattle.record_batch.specs.Sequences.Words.{Text, at_seq}
use Rattle.record_batch.specs.Sequences.Makers.{Maker, Outgoing, Offered, Incoming, Taken, makers, makers_of, maker}
use Rattle.record_batch.specs.Sequences.Makers.{address}
use Rattle.record_batch.specs.Sequences.Makers.{created_of, created_from, created, ident_in}
use Rattle.record_batch.specs.Sequences.Sources.{accepted, accepted_of, dropped, out_ident, payload_at}
use Rattle.record_batch.specs.Sequences.Destinations.{behaviour, held, is_over, purged, purged_of, received}
use Rattle.record_batch.specs.Sequences.Destinations.{received_of}
use Rattle.record_batch.specs.Sequences.Find.{plain_endpoint, peer_of, peer, accept_of, accepted_by, acks_to_of}
use Rattle.record_batch.specs.Sequences.Find.{acks_to}
use Rattle.record_batch.specs.Sequences.Fits.{fits, all_fit, is_incoming_side, is_up_to, may_be_gone}
use Rattle.record_batch.specs.Sequences.GatherLemmas.{flat_map-more}
use Rattle.rm_protocol.specs.FitInduction.{fit-induction}
use Rattle.rm_protocol.specs.Messages.{kind_of, block_of}
use Rattle.rm_protocol.specs.Calls.{missing_of, most_missing}
use Rattle.rm_protocol.specs.Waiting.{numbers_from}
use Rattle.node_laws.specs.Records.{KeepsLimits, HasValues, IsKept}
use Rattle.node_laws.proofs.Lists.{All-append, All-flat_map, All-numbered, All-at_seq, first_or-has}

-- ---- how sequences were made

-- a record that keeps its limits, of such values
abbrev IsGood : Fact → Type 0
IsGood f = KeepsLimits f × HasValues f

all-good : (r : List Fact) → AllByRecursion KeepsLimits r → AllByRecursion HasValues r → AllByRecursion IsGood r
all-good [] h v = tt
all-good (f ∷ r) h v = ((h.0, v.0), all-good r h.1 v.1)

-- what a sequence was made with keeps the limits
abbrev pub IsMakerKept : Maker → Type 0
IsMakerKept (Outgoing ticket to via lapse) = IsText 2048 to × IsLapseWritable lapse
IsMakerKept (Offered ticket counter to behaviour) = Unit {0}
IsMakerKept (Incoming counter message_id acks_to behaviour deadline lapse) =
    IsText 2048 message_id × IsEprWritable acks_to × IsLapseWritable lapse
IsMakerKept (Taken message_id ident endpoint) = IsEprWritable endpoint

makers-one : (f : Fact) → IsGood f → AllByRecursion IsMakerKept (makers_of f)
makers-one (Creating ticket to via lapse None) h = ((h.1, h.0), tt)
makers-one (Creating ticket to via lapse (Some offer)) h = ((h.1, h.0), (tt, tt))
makers-one (Granted counter message_id to behaviour deadline lapse None) h = ((h.1.0, h.0.0, h.0.1), tt)
makers-one (Granted counter message_id to behaviour deadline lapse (Some offer)) h =
    ((h.1.0, h.0.0, h.0.1), (h.0.2, tt))
makers-one _ h = tt

pub maker-kept : (r : List Fact) (s : ℕ) → IsKept r → IfSome (maker r s) IsMakerKept
maker-kept r s h =
    All-numbered IsMakerKept (makers r) s
    (All-flat_map IsGood IsMakerKept makers_of makers-one r (all-good r h.node.each h.values))

-- ---- identifiers, addresses and payloads

-- a sequence with an identifier
abbrev IsNamed : ℕ × Text → Type 0
IsNamed c = IsText 512 c.1

created-one : (k : ℕ) (f : Fact) → HasValues f → AllByRecursion IsNamed (created_of k f)
created-one k (Created seq ident accept) h = (h, tt)
created-one k (Granted counter message_id acks_to behaviour deadline lapse (Some offer)) h = (h.1, tt)
created-one k _ h = tt

created-named : (k : ℕ) (r : List Fact) → AllByRecursion HasValues r → AllByRecursion IsNamed (created_from k r)
created-named k [] h = tt
created-named k (f ∷ r) h =
    All-append IsNamed (created_of k f) (created_from (k + length (makers_of f)) r) (created-one k f h.0)
    (created-named (k + length (makers_of f)) r h.1)

named-in : (cs : List (ℕ × Text)) (s : ℕ) → AllByRecursion IsNamed cs → IfSome (ident_in cs s) (IsText 512)
named-in [] s h = tt
named-in (c ∷ cs) s h = elim (c.0 == s) as (λ b. IfSome (cond b (Some c.1) (ident_in cs s)) (IsText 512)) [
  | true ↦ h.0
  | false ↦ named-in cs s h.1
]

pub ident-kept : (r : List Fact) (s : ℕ) → IsKept r → IfSome (out_ident r s) (IsText 512)
ident-kept r s h = named-in (created r) s (created-named 0 r h.values)

pub address-kept : (r : List Fact) → IsKept r → IsText 2048 (address r)
address-kept [] h = absurd h.node.begins
address-kept (Made node text ∷ r) h = h.values.0
address-kept (_ ∷ r) h = absurd h.node.begins

closed-one : (s : ℕ) (f : Fact) → KeepsLimits f → AllByRecursion IsClosedContent (accepted_of s f)
closed-one s (Accepted seq payload) h =
    elim (seq == s) as (λ b. AllByRecursion IsClosedContent (cond b (payload ∷ []) [])) [
      | true ↦ (h, tt)
      | false ↦ tt
    ]
closed-one s _ h = tt

pub payload-kept : (r : List Fact) (s i : ℕ) → IsKept r → IfSome (payload_at r s i) IsClosedContent
payload-kept r s i h =
    All-numbered IsClosedContent (accepted r s) (i - dropped r s)
    (All-flat_map KeepsLimits IsClosedContent (accepted_of s) (closed-one s) r h.node.each)

-- ---- endpoints

pub plain-kept : (to : Text) → IsText 2048 to → IsEprWritable (plain_endpoint to)
plain-kept to h = record { address = h; each = tt; short = omega arith }

peer-by : (m : Option Maker) → IfSome m IsMakerKept → IfSome (peer_of m) IsEprWritable
peer-by (Some (Outgoing ticket to via lapse)) h = plain-kept to h.0
peer-by (Some (Taken message_id ident endpoint)) h = h
peer-by _ h = tt

pub peer-kept : (r : List Fact) (s : ℕ) → IsKept r → IfSome (peer r s) IsEprWritable
peer-kept r s h = peer-by (maker r s) (maker-kept r s h)

-- an endpoint, where there is one
abbrev MayBeSent : Option Epr → Type 0
MayBeSent accept = IfSome accept IsEprWritable

accept-one : (f : Fact) → KeepsLimits f → AllByRecursion (λ (x : ℕ × Option Epr). MayBeSent x.1) (accept_of f)
accept-one (Created seq ident accept) h = (h, tt)
accept-one _ h = tt

accepted_by-kept : (r : List Fact) (s : ℕ) → IsKept r → MayBeSent (accepted_by r s)
accepted_by-kept r s h =
    first_or-has MayBeSent None (at_seq s (flat_map accept_of r)) tt
    (All-at_seq MayBeSent s (flat_map accept_of r)
    (All-flat_map KeepsLimits (λ (x : ℕ × Option Epr). MayBeSent x.1) accept_of accept-one r h.node.each))

acks_to-by : (r : List Fact) (s : ℕ) → IsKept r → (m : Option Maker) → IfSome m IsMakerKept
    → IfSome (acks_to_of r s m) IsEprWritable
acks_to-by r s h (Some (Incoming counter message_id to behaviour deadline lapse)) k = k.1
acks_to-by r s h (Some (Offered ticket counter to behaviour)) k = accepted_by-kept r (s - 1) h
acks_to-by r s h _ k = tt

pub acks_to-kept : (r : List Fact) (s : ℕ) → IsKept r → IfSome (acks_to r s) IsEprWritable
acks_to-kept r s h = acks_to-by r s h (maker r s) (maker-kept r s h)

-- ---- acknowledgements

received-one : (r : List Fact) (f : Fact) (s : ℕ) → fits r f ≡ true
    → AllByRecursion (λ (m : ℕ × Payload). IsNumber m.0) (received_of s f)
received-one r (Received seq n payload) s fit =
    let parts = and_parts (is_incoming_side (maker r seq)) _ fit in
    let low = and_parts (nat_le 1 n) _ parts.1 in
    let high = and_parts (nat_le n max_number) _ low.1 in
    let is : IsNumber n = record { low = leb-true 1 n low.0; high = leb-true n max_number high.0 } in
    elim (seq == s) as (λ b. AllByRecursion (λ (m : ℕ × Payload). IsNumber m.0) (cond b ((n, payload) ∷ []) [])) [
      | true ↦ (is, tt)
      | false ↦ tt
    ]
received-one r _ s fit = tt

-- so have those that are gone
IsSpan : Range → Type 0
IsSpan x = (1 ≤ x.lower) × (x.upper ≤ max_number)

spans-of : (ranges : List Range) → list_all (is_up_to max_number) ranges ≡ true → AllByRecursion IsSpan ranges
unfolding IsSpan
spans-of [] h = tt
spans-of (x ∷ ranges) h =
    let parts = and_parts (is_up_to max_number x) (list_all (is_up_to max_number) ranges) h in
    let ends = and_parts (nat_le 1 x.lower) (nat_le x.upper max_number) parts.0 in
    ((leb-true 1 x.lower ends.0, leb-true x.upper max_number ends.1), spans-of ranges parts.1)

purged-one : (r : List Fact) (f : Fact) (s : ℕ) → fits r f ≡ true → AllByRecursion IsSpan (purged_of s f)
purged-one r (Purged seq ranges) s fit =
    let one = and_parts (is_incoming_side (maker r seq)) _ fit in
    let two = and_parts (is_empty (held r seq)) _ one.1 in
    let three = and_parts (list_all (is_up_to max_number) ranges)
    (may_be_gone (is_loose (behaviour r seq)) ranges) two.1 in
    elim (seq == s) as (λ b. AllByRecursion IsSpan (cond b ranges [])) [
      | true ↦ spans-of ranges three.0
      | false ↦ tt
    ]
purged-one r _ s fit = tt

-- what was received has message numbers
AreHeld : ℕ → List Fact → Type 0
AreHeld s r = AllByRecursion IsSpan (purged r s) × AllByRecursion (λ (m : ℕ × Payload). IsNumber m.0) (received r s)

are-held : (r : List Fact) (s : ℕ) → all_fit [] r ≡ true → AreHeld s r
unfolding AreHeld
are-held r s h = fit-induction (AreHeld s) (tt, tt)
    (λ x f old fit. (
      subst (AllByRecursion IsSpan) (sym (flat_map-more (purged_of s) x f))
          (All-append IsSpan (purged x s) (purged_of s f) old.0 (purged-one x f s fit)),
      subst (AllByRecursion (λ (m : ℕ × Payload). IsNumber m.0)) (sym (flat_map-more (received_of s) x f))
          (All-append (λ (m : ℕ × Payload). IsNumber m.0) (received x s) (received_of s f) old.1
          (received-one x f s fit)),
    )) r h

numbers-of : (ms : List (ℕ × Payload)) → AllByRecursion (λ (m : ℕ × Payload). IsNumber m.0) ms
    → AllByRecursion IsNumber (numbers_of ms)
numbers-of [] h = tt
numbers-of (m ∷ ms) h = (h.0, numbers-of ms h.1)

run-numbers : (lower k : ℕ) → 1 ≤ lower → (0 < k → lower + k ≤ max_number + 1)
    → AllByRecursion IsNumber (run_of lower k)
run-numbers lower zero low high = tt
run-numbers lower (suc k) low high =
    let top = high (omega arith) in (
      record { low = low; high = omega (arith, top) },
      run-numbers (lower + 1) k (omega arith) (λ lt. omega (arith, top)),
    )

spans-numbers : (ranges : List Range) → AllByRecursion IsSpan ranges → AllByRecursion IsNumber (numbers_in ranges)
unfolding IsSpan
spans-numbers [] h = tt
spans-numbers (x ∷ ranges) h =
    All-append IsNumber (run_of x.lower (size_of x)) (numbers_in ranges)
    (run-numbers x.lower (size_of x) h.0.0 (λ lt. omega (arith, lt, h.0.1))) (spans-numbers ranges h.1)

held-numbers : (r : List Fact) (s : ℕ) → all_fit [] r ≡ true → AllByRecursion IsNumber (held r s)
unfolding AreHeld
held-numbers r s h =
    let are = are-held r s h in
    subst (AllByRecursion IsNumber) (sym (numbers_of-both (numbers_in (purged r s)) (received r s)))
    (All-append IsNumber (numbers_in (purged r s)) (numbers_of (received r s)) (spans-numbers (purged r s) are.0)
    (numbers-of (received r s) are.1))

-- a range of message numbers
range-is : (lower upper : ℕ) → IsNumber lower → IsNumber upper → lower ≤ upper
    → IsRange (record { lower = lower; upper = upper })
range-is lower upper low high rises = record { lower = low; rises = rises; upper = high }

with-range : (lower upper : ℕ) (rs : List Range) → IsNumber lower → IsNumber upper → lower ≤ upper
    → AllByRecursion IsRange rs → AllByRecursion IsRange (with_range rs lower upper)
with-range lower upper [] low high rises h = (range-is lower upper low high rises, tt)
with-range lower upper (r ∷ rs) low high rises h =
    let least : IsNumber (min r.lower lower) = record {
      low = omega (arith, h.0.lower.low, low.low);
      high = omega (arith, h.0.lower.high, low.high);
    } in
    let most : IsNumber (max r.upper upper) = record {
      low = omega (arith, h.0.upper.low, high.low);
      high = omega (arith, h.0.upper.high, high.high);
    } in
    let joined = with-range (min r.lower lower) (max r.upper upper) rs least most
    (omega (arith, rises, h.0.rises)) h.1 in
    elim (nat_lt (r.upper + 1) lower) as (λ x. AllByRecursion IsRange (cond x (r ∷ with_range rs lower upper)
    (cond (nat_lt (upper + 1) r.lower) (record { lower = lower; upper = upper } ∷ r ∷ rs)
    (with_range rs (min r.lower lower) (max r.upper upper))))) [
      | true ↦ (h.0, with-range lower upper rs low high rises h.1)
      | false ↦ elim (nat_lt (upper + 1) r.lower) as (λ x. AllByRecursion IsRange (cond x
          (record { lower = lower; upper = upper } ∷ r ∷ rs)
          (with_range rs (min r.lower lower) (max r.upper upper)))) [
            | true ↦ (range-is lower upper low high rises, h)
            | false ↦ joined
          ]
    ]

onto-ranges : (rs : List Range) (ns : List ℕ) → AllByRecursion IsRange rs → AllByRecursion IsNumber ns
    → AllByRecursion IsRange (ranges_onto rs ns)
onto-ranges rs [] h k = h
onto-ranges rs (n ∷ ns) h k =
    onto-ranges (with_range rs n n) ns (with-range n n rs k.0 k.0 (omega arith) h) k.1

kind-kept : (rs : List Range) (last : Bool) → AllByRecursion IsRange rs → IsKindWritable (kind_of rs) last
kind-kept [] last h = tt
kind-kept (r ∷ rs) last h = (λ e. absurd (cc), h)

-- an acknowledgement of what was received may be written
pub block-kept : (r : List Fact) (s : ℕ) (q : Text) (now : ℕ) → IsKept r → IsText 512 q
    → IsAckWritable (block_of r s q now)
block-kept r s q now h is = record {
  ident = is;
  kind = kind-kept (ranges_onto [] (held r s)) (is_over r s now)
      (onto-ranges [] (held r s) tt (held-numbers r s h.node.fit));
}

-- ---- numbers that are missing

greatest-number : (rs : List Range) → AllByRecursion IsRange rs → greatest_of rs ≤ max_number
greatest-number [] h = omega arith
greatest-number (r ∷ []) h = h.0.upper.high
greatest-number (r ∷ s ∷ rs) h = greatest-number (s ∷ rs) h.1

from-numbers : (i count : ℕ) → 1 ≤ i → i + count ≤ 9223372036854775808 → AllByRecursion IsNumber (numbers_from i count)
from-numbers i zero low high = tt
from-numbers i (suc count) low high =
    (record { low = low; high = omega arith }, from-numbers (i + 1) count (omega arith) (omega arith))

All-filter : {A : Type 0} (P : A → Type 0) (f : A → Bool) (xs : List A) → AllByRecursion P xs
    → AllByRecursion P (filter f xs)
All-filter P f [] h = tt
All-filter P f (x ∷ xs) h = elim (f x) as (λ b. AllByRecursion P (cond b (x ∷ filter f xs) (filter f xs))) [
  | true ↦ (h.0, All-filter P f xs h.1)
  | false ↦ All-filter P f xs h.1
]

All-take : {A : Type 0} (P : A → Type 0) (n : ℕ) (xs : List A) → AllByRecursion P xs → AllByRecursion P (take n xs)
All-take P zero xs h = tt
All-take P (suc n) [] h = tt
All-take P (suc n) (x ∷ xs) h = (h.0, All-take P n xs h.1)

-- they are message numbers
pub missing-kept : (r : List Fact) (s : ℕ) → IsKept r → AllByRecursion IsNumber (missing_of r s)
missing-kept r s h =
    let ranges = ranges_onto [] (held r s) in
    let most : greatest_of ranges ≤ max_number =
    greatest-number ranges (onto-ranges [] (held r s) tt (held-numbers r s h.node.fit)) in
    let all = numbers_from 1 (greatest_of ranges - 1) in
    let missing = λ (n : ℕ). not (has_number (held r s) n) in
    All-take IsNumber most_missing (filter missing all)
    (All-filter IsNumber missing all (from-numbers 1 (greatest_of ranges - 1) (omega arith) (omega (arith, most))))
