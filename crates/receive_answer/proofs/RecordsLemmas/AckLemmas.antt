-- The rows of acknowledgements receive no message, make no sequence and draw no number.
use Rattle.std.proofs.Common.{◌≡◌, ℕ, Bool, true, false, cond, List, [], ◌∷◌, ◌++◌, append-nil, refl, ap, ◌∙◌}
use Rattle.std.proofs.Common.{Option, Some, None}
use Rattle.std.specs.List.{flat_map}
use Rattle.std.specs.Prelude.{◌&&◌, ◌||◌, is_none, length, nat_le}
use Rattle.std.proofs.lemmas.Grind.{flat_map-append}
use Rattle.rm_base.specs.Limits.{most_sequences}
use Rattle.rm_sides.specs.declared.ranges.range.Range.{Range}
use Rattle.rm_sides.specs.Ranges.Changes.{covers_all, united}
use Rattle.rm_message.specs.declared.elements.header.AckBlock.{AckBlock}
use Rattle.rm_message.specs.declared.elements.lifecycle.Lifecycle.TheVariants as life
use Rattle.rm_message.specs.declared.message.Body.{Body}
use Rattle.rm_message.specs.declared.message.Body.TheVariants as body
use Rattle.record_batch.specs.Fact.{Fact, Acked, ClosedOut}
use Rattle.record_batch.specs.Sequences.Destinations.{received, received_of}
use Rattle.record_batch.specs.Sequences.Find.{find_from, find_outgoing, is_granted}
use Rattle.record_batch.specs.Sequences.Makers.{Maker, counter, draws_of, makers, makers_of}
use Rattle.record_batch.specs.Sequences.Sources.{acked, is_sending, phase}
use Rattle.record_batch.specs.Sequences.Words.{Text}
use Rattle.rm_protocol.specs.Addresses.{is_nowhere}
use Rattle.rm_protocol.specs.Rows.{ack_at, ack_row, ack_rows, final_at, final_row, ranges_of}
use Rattle.rm_protocol.specs.Verdict.{refuses_create}
use Rattle.tables_ahead.specs.Known.{all_records, KnownRecords}
use Rattle.receive_answer.specs.Records.WithRow.{with_row}

-- what is gathered by f has nothing of these records
record Skips {A : Type 0} (f : Fact → List A) : Type 0 where
  acked_ : (s : ℕ) (ranges : List Range) → f (Acked s ranges) ≡ []
  closed_ : (s : ℕ) → f (ClosedOut s) ≡ []

both_none : {A : Type 0} (f : Fact → List A) (xs ys : List Fact) → flat_map f xs ≡ [] → flat_map f ys ≡ []
    → flat_map f (xs ++ ys) ≡ []
both_none f xs ys ex ey = flat_map-append f xs ys ∙ ap (λ zs. zs ++ flat_map f ys) ex ∙ ey

ack_none : {A : Type 0} (f : Fact → List A) → Skips f → (o : Option ℕ) (ranges : List Range) (r : List Fact)
    → flat_map f (ack_at o ranges r) ≡ []
ack_none f h None ranges r = refl
ack_none f h (Some s) ranges r =
    elim (covers_all (united [] (acked r s)) ranges)
    as (λ b. flat_map f (cond b [] (Acked s (united [] ranges) ∷ [])) ≡ []) [
      | true ↦ refl
      | false ↦ ap (λ xs. xs ++ []) (h.acked_ s (united [] ranges))
    ]

final_none : {A : Type 0} (f : Fact → List A) → Skips f → (o : Option ℕ) (last : Bool) (r : List Fact)
    → flat_map f (final_at o last r) ≡ []
final_none f h None last r = refl
final_none f h (Some s) false r = refl
final_none f h (Some s) true r =
    elim (is_sending (phase r s)) as (λ b. flat_map f (cond b (ClosedOut s ∷ []) []) ≡ []) [
      | true ↦ ap (λ xs. xs ++ []) (h.closed_ s)
      | false ↦ refl
    ]

acks_none : {A : Type 0} (f : Fact → List A) → Skips f → (blocks : List AckBlock) (r : List Fact)
    → flat_map f (ack_rows blocks r) ≡ []
acks_none f h [] r = refl
acks_none f h (block ∷ blocks) r =
    let first = ack_row block r in
    let second = final_row block (r ++ first) in
    both_none f (first ++ second) (ack_rows blocks (r ++ (first ++ second)))
    (both_none f first second (ack_none f h (find_outgoing r block.ident) (ranges_of block.kind) r)
    (final_none f h (find_outgoing (r ++ first) block.ident) block.last (r ++ first)))
    (acks_none f h blocks (r ++ (first ++ second)))

-- what was gathered stays, where the records ahead are those of acknowledgements
gathered-acks : {A : Type 0} (f : Fact → List A) → Skips f → (blocks : List AckBlock) (a b : KnownRecords)
    → a.delta ≡ []
    → b.records ≡ a.records → b.delta ≡ with_row (ack_rows blocks) a
    → (flat_map f b.delta ≡ []) × (flat_map f (all_records b) ≡ flat_map f a.records)
gathered-acks f h blocks a b none records delta =
    let rows = ack_rows blocks (all_records a) in
    let silent : flat_map f b.delta ≡ [] =
    ap (flat_map f) (delta ∙ ap (λ (d : List Fact). d ++ rows) none) ∙ acks_none f h blocks (all_records a) in (
      silent,
      flat_map-append f b.records b.delta ∙ ap (λ xs. flat_map f b.records ++ xs) silent
          ∙ append-nil (flat_map f b.records) ∙ ap (flat_map f) records,
    )

-- where only acknowledgements are ahead
pub record OnlyAcks (a b : KnownRecords) : Type 0 where
  pub received_ : (s : ℕ) → received b.delta s ≡ []
  pub makers_ : makers (all_records b) ≡ makers a.records
  pub counter_ : counter (all_records b) ≡ counter a.records

pub only-acks : (blocks : List AckBlock) (a b : KnownRecords) → a.delta ≡ [] → b.records ≡ a.records
    → b.delta ≡ with_row (ack_rows blocks) a → OnlyAcks a b
only-acks blocks a b none records delta = record {
  received_ = λ s. (gathered-acks (received_of s) (record { acked_ = λ t ranges. refl; closed_ = λ t. refl }) blocks a b
      none records delta).0;
  makers_ = (gathered-acks makers_of (record { acked_ = λ t ranges. refl; closed_ = λ t. refl }) blocks a b none
      records delta).1;
  counter_ = ap length (gathered-acks draws_of (record { acked_ = λ t ranges. refl; closed_ = λ t. refl }) blocks a b
      none records delta).1;
}

-- a CreateSequence is refused by the sequences that there are
pub refuses_create-same : (r q : List Fact) (t : Option Text) (content : Body) → makers r ≡ makers q
    → refuses_create r t content ≡ refuses_create q t content
refuses_create-same r q (Some t) (body.Lifecycle (life.Create c)) e =
    ap (λ (ms : List Maker). is_none (find_from (is_granted t) 0 ms)
    && (is_nowhere c.acks_to.address || nat_le most_sequences (length ms))) e
refuses_create-same r q _ _ e = refl
