-- What comes of data at its destination.
use Rattle.std.proofs.Common.{◌≡◌, ℕ, suc, ◌+◌, ◌-◌, ◌≤◌, ◌==◌, ◌||◌, nat_lt, cond, Bool, true, false, List, []}
use Rattle.std.proofs.Common.{◌∷◌, ◌++◌, refl, sym, ap, ◌∙◌, subst, arith, inl, inr, append-nil, append_assoc}
use Rattle.std.specs.Prelude.{Option, Some, None}
use Rattle.std.specs.List.{flat_map}
use Rattle.std.proofs.lemmas.Bool.{eq-eqb}
use Rattle.std.proofs.lemmas.Bool.Decides.{nat_tests}
use Rattle.std.proofs.lemmas.List.{map-append}
use Rattle.rm_sides.specs.declared.ranges.range.Range.{Range}
use Rattle.rm_sides.specs.Ranges.Ranges.{in_ranges}
use Rattle.rm_base.specs.Limits.{window}
use Rattle.rm_base.specs.NumberSet.{has_number}
use Rattle.rm_base.specs.declared.message.Behaviour.{Behaviour}
use Rattle.rm_base.specs.declared.message.Payload.{Payload}
use Rattle.rm_sides.specs.Destination.Messages.{ranges_onto, numbers_of}
use Rattle.rm_sides.specs.Destination.ItemLemmas.{has_number-held, has-more}
use Rattle.rm_message.specs.declared.elements.header.AckBlock.{AckBlock}
use Rattle.rm_message.specs.declared.message.Message.{Message}
use Rattle.wsa_headers.specs.declared.endpoint.Epr.{Epr}
use Rattle.record_batch.specs.Fact.{Fact, Received}
use Rattle.record_batch.specs.Sequences.Words.{Text, at_seq, first_or}
use Rattle.record_batch.specs.Sequences.GatherLemmas.{flat_map-more}
use Rattle.record_batch.specs.Sequences.Makers.{Maker, Offered, maker, makers, makers_of, nodes_of, number}
use Rattle.record_batch.specs.Sequences.Sources.{out_ident, payload_at}
use Rattle.record_batch.specs.Sequences.Destinations.{front, held, is_over, purged, received, received_of}
use Rattle.record_batch.specs.Sequences.Find.{accept_of, acks_to, acks_to_of, find_from, find_incoming, find_outgoing}
use Rattle.record_batch.specs.Sequences.Find.{is_incoming, peer}
use Rattle.rm_base.specs.Numbered.{numbered}
use Rattle.rm_protocol.specs.Addresses.{is_anonymous}
use Rattle.rm_protocol.specs.Messages.{ack_message, block_of, data_at, data_by, data_of, kind_of, written_scope}
use Rattle.rm_protocol.specs.Rows.{ack_row, data_row_at, final_row, ranges_of, rows}
use Rattle.rm_protocol.specs.Said.{ack_of, ack_to, answered, said}
use Rattle.rm_protocol.specs.Terms.{Terms}
use Rattle.rm_arrival.specs.Round.{Arrives, CanTake, IsAcked}
use Rattle.rm_arrival.proofs.RangeLemmas.{ranges_onto-adds}
use Rattle.rm_arrival.proofs.WaitLemmas.{Has, ack_row-has, has-silent, has-stays}

or-second : (x y : Bool) → y ≡ true → (x || y) ≡ true
or-second true y h = refl
or-second false y h = h

-- the payload of data
abbrev pub carried : Text → Payload
carried p = record { bytes = p; scope = written_scope }

-- ---- one record more, that a message was received

abbrev with_one : List Fact → ℕ → ℕ → Payload → List Fact
with_one r t i x = r ++ Received t i x ∷ []

same-makers : (r : List Fact) (t i : ℕ) (x : Payload) → makers (with_one r t i x) ≡ makers r
same-makers r t i x = flat_map-more makers_of r (Received t i x) ∙ append-nil (makers r)

same-number : (r : List Fact) (t i : ℕ) (x : Payload) → number (with_one r t i x) ≡ number r
same-number r t i x =
    ap (first_or 0) (flat_map-more nodes_of r (Received t i x) ∙ append-nil (flat_map nodes_of r))

same-found : (r : List Fact) (t i : ℕ) (x : Payload) (q : Text)
    → find_incoming (with_one r t i x) q ≡ find_incoming r q
same-found r t i x q =
    ap (λ n. find_from (is_incoming n q) 0 (makers (with_one r t i x))) (same-number r t i x)
    ∙ ap (λ ms. find_from (is_incoming (number r) q) 0 ms) (same-makers r t i x)

same-acks_to : (r : List Fact) (t i s : ℕ) (x : Payload) → acks_to (with_one r t i x) s ≡ acks_to r s
same-acks_to r t i s x =
    by_maker (maker (with_one r t i x) s) ∙ ap (λ ms. acks_to_of r s (numbered ms s)) (same-makers r t i x)
  where
    same : flat_map accept_of (with_one r t i x) ≡ flat_map accept_of r
    same = flat_map-more accept_of r (Received t i x) ∙ append-nil (flat_map accept_of r)

    by_maker : (m : Option Maker) → acks_to_of (with_one r t i x) s m ≡ acks_to_of r s m
    by_maker (Some (Offered ticket counter to behaviour)) = ap (λ z. first_or None (at_seq (s - 1) z)) same
    by_maker _ = refl

own_received : (r : List Fact) (t i : ℕ) (x : Payload) → received (with_one r t i x) t ≡ received r t ++ (i, x) ∷ []
own_received r t i x =
    flat_map-more (received_of t) r (Received t i x)
    ∙ ap (λ b. received r t ++ cond b ((i, x) ∷ []) []) (eq-eqb t t refl)

one_held : (r : List Fact) (t i : ℕ) (x : Payload) → has_number (held (with_one r t i x) t) i ≡ true
one_held r t i x =
    has_number-held (purged (with_one r t i x) t) (received (with_one r t i x) t) i
    ∙ or-second (in_ranges (purged (with_one r t i x) t) i) (has_number (numbers_of (received (with_one r t i x) t)) i)
    (ap (λ z. has_number (numbers_of z) i) (own_received r t i x)
    ∙ ap (λ z. has_number z i) (map-append (λ (m : ℕ × Payload). m.0) (received r t) ((i, x) ∷ []))
    ∙ has-more (numbers_of (received r t)) (i ∷ []) i
    ∙ or-second (has_number (numbers_of (received r t)) i) ((i == i) || false)
    (ap (λ b. b || false) (eq-eqb i i refl)))

-- ---- what is said

said-one : (back : Epr) (block : AckBlock) → answered [] ((back, block) ∷ []) ≡ ack_message back (block ∷ []) ∷ []
said-one back block =
    elim (is_anonymous back.address) as (λ b. (cond b (ack_message back (block ∷ []) ∷ []) []
    ++ cond b [] (ack_message back (block ∷ []) ∷ [])) ≡ ack_message back (block ∷ []) ∷ []) [
      | true ↦ refl
      | false ↦ refl
    ]

says-data : (r : List Fact) (now t i : ℕ) (q p : Text) (to back : Epr) → find_incoming r q ≡ Some t
    → acks_to r t ≡ Some back
    → said r now (data_of to q i p) ≡ ack_message back (block_of r t q now ∷ []) ∷ []
says-data r now t i q p to back found to_back =
    let acks : (ack_of r now q (find_incoming r q) ++ []) ≡ (back, block_of r t q now) ∷ [] =
    ap (λ x. ack_of r now q x ++ []) found ∙ ap (λ x. ack_to x (block_of r t q now) ++ []) to_back in
    ap (λ z. answered [] z) acks ∙ said-one back (block_of r t q now)

ranges-kind : (rs : List Range) → ranges_of (kind_of rs) ≡ rs
ranges-kind [] = refl
ranges-kind (r ∷ rs) = refl

names-held : (r : List Fact) (t i now : ℕ) (q : Text) → has_number (held r t) i ≡ true
    → in_ranges (ranges_of (block_of r t q now).kind) i ≡ true
names-held r t i now q h =
    ap (λ z. in_ranges z i) (ranges-kind (ranges_onto [] (held r t))) ∙ ranges_onto-adds [] (held r t) i h

-- ---- the row of data, and all of it

not-past : (i n : ℕ) → i ≤ n → nat_lt n i ≡ false
not-past i n h = grind (arith, nat_tests, h)

-- the records that data adds: none, or the one
data-rows : (terms : Terms) (r : List Fact) (t i now : ℕ) (y : Behaviour) (q p : Text) (to : Epr)
    → find_incoming r q ≡ Some t
    → rows terms now y (data_of to q i p) r ≡ data_row_at now (Some t) i (carried p) r
data-rows terms r t i now y q p to found =
    ap (λ z. data_row_at now (find_incoming z q) i (carried p) z) (append-nil r)
    ∙ ap (λ x. data_row_at now x i (carried p) r) found

abbrev Taken : List Fact → List Fact → ℕ → ℕ → Text → Epr → Text → Type 0
Taken r d t i q back p =
    (has_number (held (r ++ d) t) i ≡ true) × (find_incoming (r ++ d) q ≡ Some t) × (acks_to (r ++ d) t ≡ Some back)

taken-none : (r : List Fact) (t i : ℕ) (q p : Text) (back : Epr) → has_number (held r t) i ≡ true
    → find_incoming r q ≡ Some t → acks_to r t ≡ Some back → Taken r [] t i q back p
taken-none r t i q p back h found to_back =
    subst (λ z. (has_number (held z t) i ≡ true) × (find_incoming z q ≡ Some t) × (acks_to z t ≡ Some back))
    (sym (append-nil r)) (h, found, to_back)

taken-one : (r : List Fact) (t i : ℕ) (q p : Text) (back : Epr) → find_incoming r q ≡ Some t
    → acks_to r t ≡ Some back → Taken r (Received t i (carried p) ∷ []) t i q back p
taken-one r t i q p back found to_back = (
  one_held r t i (carried p),
  same-found r t i (carried p) q ∙ found,
  same-acks_to r t i t (carried p) ∙ to_back,
)

taken-row : (r : List Fact) (t i now : ℕ) (q p : Text) (back : Epr) → find_incoming r q ≡ Some t
    → acks_to r t ≡ Some back → CanTake r t i now → Taken r (data_row_at now (Some t) i (carried p) r) t i q back p
taken-row r t i now q p back found to_back can = by_held (has_number (held r t) i) refl
  where
    new : List Fact
    new = Received t i (carried p) ∷ []

    by_held : (b : Bool) → has_number (held r t) i ≡ b
        → Taken r (cond b [] (cond (is_over r t now) [] (cond (nat_lt (front r t + window) i) [] new))) t i q back p
    by_held true e = taken-none r t i q p back e found to_back
    by_held false e = elim can [
      | inl h ↦ absurd (cc (e, h))
      | inr h ↦ subst (λ b. Taken r (cond b [] (cond (nat_lt (front r t + window) i) [] new)) t i q back p) (sym h.0)
          (subst (λ b. Taken r (cond b [] new) t i q back p) (sym (not-past i (front r t + window) h.1))
          (taken-one r t i q p back found to_back))
    ]

pub held-acked : (terms : Terms) (r : List Fact) (t i now : ℕ) (y : Behaviour) (q : Text) (to back : Epr) (p : Text)
    → find_incoming r q ≡ Some t → acks_to r t ≡ Some back → CanTake r t i now
    → IsAcked terms r t i now y q back (data_of to q i p)
held-acked terms r t i now y q to back p found to_back can =
    let d = rows terms now y (data_of to q i p) r in
    let took : Taken r d t i q back p =
    subst (λ z. Taken r z t i q back p) (sym (data-rows terms r t i now y q p to found))
    (taken-row r t i now q p back found to_back can) in
    record {
      block = block_of (r ++ d) t q now;
      has = took.0;
      says = says-data (r ++ d) now t i q p to back took.1 took.2;
      ident = refl;
      names = names-held (r ++ d) t i now q took.0;
    }

-- ---- one message, one round

pub record IsData (q : Text) (i : ℕ) (m : Message) : Type 0 where
  pub to : Epr
  pub text : Text
  pub is : m ≡ data_of to q i text

pub data-form : (to : Option Epr) (q : Text) (i : ℕ) (p : Option Text) (m : Message) → data_by to (Some q) i p ≡ Some m
    → IsData q i m
data-form (Some e) q i (Some x) m h = record { to = e; text = x; is = cc (h) }
data-form (Some e) q i None m h = absurd (cc (h))
data-form None q i p m h = absurd (cc (h))

pub ack-rows : (terms : Terms) (c : List Fact) (later : ℕ) (z : Behaviour) (back : Epr) (block : AckBlock)
    → c ++ rows terms later z (ack_message back (block ∷ [])) c
    ≡ (c ++ ack_row block c) ++ final_row block (c ++ ack_row block c)
ack-rows terms c later z back block =
    let a = ack_row block c in
    let f = final_row block (c ++ a) in
    ap (λ x. c ++ x) (append-nil ((a ++ f) ++ []) ∙ append-nil (a ++ f)) ∙ sym (append_assoc c a f)

pub arrives : (terms : Terms) (a b : List Fact) (s t i now : ℕ) (y : Behaviour) (q : Text) (back : Epr) (m : Message)
    → out_ident a s ≡ Some q → data_at a s (suc i) ≡ Some m
    → find_incoming b q ≡ Some t → acks_to b t ≡ Some back → CanTake b t (suc i) now
    → Arrives terms b s t i now y q m
arrives terms a b s t i now y q back m ident said_ found to_back can =
    let form = data-form (peer a s) q (suc i) (payload_at a s (suc i)) m
    (subst (λ o. data_by (peer a s) o (suc i) (payload_at a s (suc i)) ≡ Some m) ident said_) in
    subst (λ x. Arrives terms b s t i now y q x) (sym form.is)
    (of_data (data_of form.to q (suc i) form.text)
    (held-acked terms b t (suc i) now y q form.to back form.text found to_back can))
  where
    of_data : (x : Message) → IsAcked terms b t (suc i) now y q back x → Arrives terms b s t i now y q x
    of_data x it = record {
      answer = ack_message back (it.block ∷ []);
      has = it.has;
      says = it.says;
      ends = λ c later z known d.
          has-silent ((c ++ rows terms later z (ack_message back (it.block ∷ [])) c) ++ d) s i
          (has-stays (c ++ rows terms later z (ack_message back (it.block ∷ [])) c) d s (suc i)
          (subst (λ w. Has w s (suc i)) (sym (ack-rows terms c later z back it.block))
          (has-stays (c ++ ack_row it.block c) (final_row it.block (c ++ ack_row it.block c)) s (suc i)
          (ack_row-has c it.block s (suc i) (ap (λ w. find_outgoing c w) it.ident ∙ known) it.names))));
    }
