-- What is gathered from a snapshot of what items don't give is what is gathered from the records.
use Rattle.std.proofs.Common.{◌≡◌, ◌⊎◌, ℕ, ◌+◌, ◌==◌, Bool, true, false, cond, List, [], ◌∷◌, ◌++◌, length, refl, sym}
use Rattle.std.proofs.Common.{◌∙◌, ap, inl, inr, arith, append_assoc, length-append}
use Rattle.std.specs.Prelude.{nat_lt}
use Rattle.std.specs.List.{flat_map, list_any, AllByRecursion}
use Rattle.std.proofs.lemmas.Bool.{false≢true}
use Rattle.std.proofs.lemmas.Grind.{flat_map-append}
use Rattle.std.proofs.lemmas.List.{append-nil}
use Rattle.rm_sides.specs.declared.ranges.range.Range.{Range}
use Rattle.rm_sides.specs.Ranges.Ranges.{in_ranges}
use Rattle.rm_sides.specs.Destination.Messages.{is_empty}
use Rattle.record_batch.specs.Fact.{Fact, Accepted, Acked, Received, Consumed, Dropped, Purged}
use Rattle.record_batch.specs.Sequences.Makers.{makers, makers_of, draws_of, nodes_of, addresses_of, created_of}
use Rattle.record_batch.specs.Sequences.Makers.{created_from}
use Rattle.record_batch.specs.Sequences.Sources.{accepted_count, mark_of, ticket_of}
use Rattle.record_batch.specs.Sequences.Destinations.{close_of, held, told_of}
use Rattle.record_batch.specs.Sequences.Find.{accept_of}
use Rattle.record_batch.specs.Snapshot.Same.{SameFrame}
use Rattle.record_batch.specs.Snapshot.Snapshot.{acked_with, acks, instead, left_acked, passed, purged_with, settled}
use Rattle.record_batch.specs.Snapshot.Snapshot.{snapshot_from, snapshot}

-- a record of what went over a sequence: all others stand in a snapshot as they are
abbrev pub is_item : Fact → Bool
is_item (Accepted seq payload) = true
is_item (Acked seq ranges) = true
is_item (Received seq n payload) = true
is_item (Consumed seq upto) = true
is_item (Dropped seq upto) = true
is_item (Purged seq ranges) = true
is_item _ = false

-- so is each
abbrev pub AreItems : List Fact → Type 0
AreItems xs = AllByRecursion (λ (f : Fact). is_item f ≡ true) xs

-- what stands for a record is that record, or both are of what went over sequences
abbrev pub IsPlaced : Fact → List Fact → Type 0
IsPlaced f xs = (xs ≡ f ∷ []) ⊎ ((is_item f ≡ true) × AreItems xs)

acked-items : (seq : ℕ) (xs : List Range) → AreItems (acked_with seq xs)
acked-items seq [] = tt
acked-items seq (x ∷ xs) = (refl, tt)

purged-items : (seq : ℕ) (xs : List Range) → AreItems (purged_with seq xs)
purged-items seq [] = tt
purged-items seq (x ∷ xs) = (refl, tt)

both-items : (xs ys : List Fact) → AreItems xs → AreItems ys → AreItems (xs ++ ys)
both-items [] ys h g = g
both-items (x ∷ xs) ys h g = (h.0, both-items xs ys h.1 g)

pub placed : (r before : List Fact) (f : Fact) (behind : List Fact) → IsPlaced f (instead r before f behind)
placed r before (Acked seq ranges) behind = inr (
  refl,
  elim (list_any (acks seq) behind) as (λ b. AreItems (cond b [] (acked_with seq (left_acked r seq)))) [
    | true ↦ tt
    | false ↦ acked-items seq (left_acked r seq)
  ],
)
placed r before (Accepted seq payload) behind = inr (
  refl,
  elim (nat_lt (accepted_count before seq) (settled r seq)) as (λ b. AreItems (cond b
      (cond (accepted_count before seq == 0) (Dropped seq (settled r seq) ∷ []) []) (Accepted seq payload ∷ []))) [
        | true ↦ elim (accepted_count before seq == 0) as
            (λ b. AreItems (cond b (Dropped seq (settled r seq) ∷ []) [])) [
              | true ↦ (refl, tt)
              | false ↦ tt
            ]
        | false ↦ (refl, tt)
      ],
)
placed r before (Dropped seq upto) behind = inr (refl, (refl, tt))
placed r before (Received seq n payload) behind = inr (
  refl,
  both-items (cond (is_empty (held before seq)) (purged_with seq (passed r seq)) [])
      (cond (in_ranges (passed r seq) n) [] (Received seq n payload ∷ []))
      (elim (is_empty (held before seq)) as (λ b. AreItems (cond b (purged_with seq (passed r seq)) [])) [
        | true ↦ purged-items seq (passed r seq)
        | false ↦ tt
      ])
      (elim (in_ranges (passed r seq) n) as (λ b. AreItems (cond b [] (Received seq n payload ∷ []))) [
        | true ↦ tt
        | false ↦ (refl, tt)
      ]),
)
placed r before (Purged seq ranges) behind = inr (
  refl,
  elim (is_empty (passed r seq)) as (λ b. AreItems (cond b (Purged seq ranges ∷ []) (purged_with seq (passed r seq)))) [
    | true ↦ (refl, tt)
    | false ↦ purged-items seq (passed r seq)
  ],
)
placed r before (Consumed seq upto) behind = inr (
  refl,
  elim (is_empty (passed r seq)) as (λ b. AreItems (cond b (Consumed seq upto ∷ []) [])) [
    | true ↦ (refl, tt)
    | false ↦ tt
  ],
)
placed r before _ behind = inl refl

none_of : {A : Type 0} (g : Fact → List A) → ((f : Fact) → is_item f ≡ true → g f ≡ []) → (xs : List Fact)
    → AreItems xs → flat_map g xs ≡ []
none_of g none [] are = refl
none_of g none (x ∷ xs) are = ap (λ ys. ys ++ flat_map g xs) (none x are.0) ∙ none_of g none xs are.1

pub in_place : {A : Type 0} (g : Fact → List A) → ((f : Fact) → is_item f ≡ true → g f ≡ [])
    → (f : Fact) (xs : List Fact)
    → IsPlaced f xs → flat_map g xs ≡ g f
in_place g none f xs (inl same) = ap (λ ys. flat_map g ys) same ∙ append-nil (g f)
in_place g none f xs (inr items) = none_of g none xs items.1 ∙ sym (none f items.0)

pub frame : {A : Type 0} (g : Fact → List A) → ((f : Fact) → is_item f ≡ true → g f ≡ []) → (r before l : List Fact)
    → flat_map g (snapshot_from r before l) ≡ flat_map g l
frame g none r before [] = refl
frame g none r before (f ∷ behind) =
    flat_map-append g (instead r before f behind) (snapshot_from r (before ++ f ∷ []) behind)
    ∙ ap (λ xs. xs ++ flat_map g (snapshot_from r (before ++ f ∷ []) behind))
    (in_place g none f (instead r before f behind) (placed r before f behind))
    ∙ ap (λ xs. g f ++ xs) (frame g none r (before ++ f ∷ []) behind)

pub no_makers : (f : Fact) → is_item f ≡ true → makers_of f ≡ []
no_makers (Accepted seq payload) e = refl
no_makers (Acked seq ranges) e = refl
no_makers (Received seq n payload) e = refl
no_makers (Consumed seq upto) e = refl
no_makers (Dropped seq upto) e = refl
no_makers (Purged seq ranges) e = refl
no_makers _ e = absurd (false≢true e)

pub no_draws : (f : Fact) → is_item f ≡ true → draws_of f ≡ []
no_draws (Accepted seq payload) e = refl
no_draws (Acked seq ranges) e = refl
no_draws (Received seq n payload) e = refl
no_draws (Consumed seq upto) e = refl
no_draws (Dropped seq upto) e = refl
no_draws (Purged seq ranges) e = refl
no_draws _ e = absurd (false≢true e)

pub no_nodes : (f : Fact) → is_item f ≡ true → nodes_of f ≡ []
no_nodes (Accepted seq payload) e = refl
no_nodes (Acked seq ranges) e = refl
no_nodes (Received seq n payload) e = refl
no_nodes (Consumed seq upto) e = refl
no_nodes (Dropped seq upto) e = refl
no_nodes (Purged seq ranges) e = refl
no_nodes _ e = absurd (false≢true e)

pub no_addresses : (f : Fact) → is_item f ≡ true → addresses_of f ≡ []
no_addresses (Accepted seq payload) e = refl
no_addresses (Acked seq ranges) e = refl
no_addresses (Received seq n payload) e = refl
no_addresses (Consumed seq upto) e = refl
no_addresses (Dropped seq upto) e = refl
no_addresses (Purged seq ranges) e = refl
no_addresses _ e = absurd (false≢true e)

pub no_mark : (f : Fact) → is_item f ≡ true → mark_of f ≡ []
no_mark (Accepted seq payload) e = refl
no_mark (Acked seq ranges) e = refl
no_mark (Received seq n payload) e = refl
no_mark (Consumed seq upto) e = refl
no_mark (Dropped seq upto) e = refl
no_mark (Purged seq ranges) e = refl
no_mark _ e = absurd (false≢true e)

pub no_ticket : (f : Fact) → is_item f ≡ true → ticket_of f ≡ []
no_ticket (Accepted seq payload) e = refl
no_ticket (Acked seq ranges) e = refl
no_ticket (Received seq n payload) e = refl
no_ticket (Consumed seq upto) e = refl
no_ticket (Dropped seq upto) e = refl
no_ticket (Purged seq ranges) e = refl
no_ticket _ e = absurd (false≢true e)

pub no_close : (f : Fact) → is_item f ≡ true → close_of f ≡ []
no_close (Accepted seq payload) e = refl
no_close (Acked seq ranges) e = refl
no_close (Received seq n payload) e = refl
no_close (Consumed seq upto) e = refl
no_close (Dropped seq upto) e = refl
no_close (Purged seq ranges) e = refl
no_close _ e = absurd (false≢true e)

pub no_told : (f : Fact) → is_item f ≡ true → told_of f ≡ []
no_told (Accepted seq payload) e = refl
no_told (Acked seq ranges) e = refl
no_told (Received seq n payload) e = refl
no_told (Consumed seq upto) e = refl
no_told (Dropped seq upto) e = refl
no_told (Purged seq ranges) e = refl
no_told _ e = absurd (false≢true e)

pub no_accept : (f : Fact) → is_item f ≡ true → accept_of f ≡ []
no_accept (Accepted seq payload) e = refl
no_accept (Acked seq ranges) e = refl
no_accept (Received seq n payload) e = refl
no_accept (Consumed seq upto) e = refl
no_accept (Dropped seq upto) e = refl
no_accept (Purged seq ranges) e = refl
no_accept _ e = absurd (false≢true e)

pub no_created : (k : ℕ) (f : Fact) → is_item f ≡ true → created_of k f ≡ []
no_created k (Accepted seq payload) e = refl
no_created k (Acked seq ranges) e = refl
no_created k (Received seq n payload) e = refl
no_created k (Consumed seq upto) e = refl
no_created k (Dropped seq upto) e = refl
no_created k (Purged seq ranges) e = refl
no_created k _ e = absurd (false≢true e)

pub created_from-append : (k : ℕ) (xs ys : List Fact)
    → created_from k (xs ++ ys) ≡ created_from k xs ++ created_from (k + length (makers xs)) ys
created_from-append k [] ys = ap (λ n. created_from n ys) (let e : k ≡ k + 0 = omega arith in e)
created_from-append k (x ∷ xs) ys =
    let count : k + length (makers_of x) + length (makers xs) ≡ k + length (makers (x ∷ xs)) =
    omega (arith, length-append (makers_of x) (makers xs)) in
    ap (λ cs. created_of k x ++ cs) (created_from-append (k + length (makers_of x)) xs ys)
    ∙ sym (append_assoc (created_of k x) (created_from (k + length (makers_of x)) xs) _)
    ∙ ap (λ n. (created_of k x ++ created_from (k + length (makers_of x)) xs) ++ created_from n ys) count

none_created : (k : ℕ) (xs : List Fact) → AreItems xs → created_from k xs ≡ []
none_created k [] are = refl
none_created k (x ∷ xs) are = ap (λ ys. ys ++ created_from (k + length (makers_of x)) xs) (no_created k x are.0)
    ∙ none_created (k + length (makers_of x)) xs are.1

pub created_in_place : (k : ℕ) (f : Fact) (xs : List Fact) → IsPlaced f xs → created_from k xs ≡ created_of k f
created_in_place k f xs (inl same) = ap (λ ys. created_from k ys) same ∙ append-nil (created_of k f)
created_in_place k f xs (inr items) = none_created k xs items.1 ∙ sym (no_created k f items.0)

pub created-kept : (r before : List Fact) (k : ℕ) (l : List Fact)
    → created_from k (snapshot_from r before l) ≡ created_from k l
created-kept r before k [] = refl
created-kept r before k (f ∷ behind) =
    let xs = instead r before f behind in
    let is = placed r before f behind in
    let made : length (makers xs) ≡ length (makers_of f) = ap length (in_place makers_of no_makers f xs is) in
    created_from-append k xs (snapshot_from r (before ++ f ∷ []) behind)
    ∙ ap (λ cs. cs ++ created_from (k + length (makers xs)) (snapshot_from r (before ++ f ∷ []) behind))
    (created_in_place k f xs is)
    ∙ ap (λ n. created_of k f ++ created_from (k + n) (snapshot_from r (before ++ f ∷ []) behind)) made
    ∙ ap (λ cs. created_of k f ++ cs) (created-kept r (before ++ f ∷ []) (k + length (makers_of f)) behind)

pub same_frame : (r : List Fact) → SameFrame (snapshot r) r
same_frame r = record {
  makers_ = frame makers_of no_makers r [] r;
  draws = frame draws_of no_draws r [] r;
  nodes = frame nodes_of no_nodes r [] r;
  addresses = frame addresses_of no_addresses r [] r;
  created_ = created-kept r [] 0 r;
  marks_ = frame mark_of no_mark r [] r;
  tickets_ = frame ticket_of no_ticket r [] r;
  closes_ = frame close_of no_close r [] r;
  told_ = frame told_of no_told r [] r;
  accepts = frame accept_of no_accept r [] r;
}
