-- A message that is new is recorded by the call that brings it, and released where it closes the gap.
use Rattle.std.proofs.Common.{◌≡◌, ℕ, suc, ◌+◌, ◌<◌, ◌≤◌, ◌==◌, ◌||◌, not, nat_lt, cond, Bool, true, false, List, []}
use Rattle.std.proofs.Common.{◌∷◌, ◌++◌, length, refl, sym, ap, ◌∙◌, arith, append-nil, append_assoc}
use Rattle.std.specs.Prelude.{Option, Some, None, slice_get}
use Rattle.std.specs.List.{AllByRecursion, flat_map}
use Rattle.std.proofs.lemmas.Bool.{eqb-true}
use Rattle.std.proofs.lemmas.Bool.Decides.{nat_tests}
use Rattle.std.proofs.lemmas.List.{map-append}
use Rattle.std.proofs.lemmas.List.Concat.{flat_map-append}
use Rattle.rm_sides.specs.declared.ranges.range.Range.{Range}
use Rattle.rm_base.specs.Limits.{window}
use Rattle.rm_base.specs.Numbered.{numbered}
use Rattle.rm_base.specs.NumberSet.{has_number}
use Rattle.rm_base.specs.declared.message.Behaviour.{Behaviour}
use Rattle.rm_base.specs.declared.message.Payload.{Payload}
use Rattle.rm_message.specs.declared.elements.header.AckBlock.{AckBlock}
use Rattle.rm_message.specs.declared.message.Message.{Message}
use Rattle.record_batch.specs.Fact.{Fact, Acked, Received, ClosedOut}
use Rattle.record_batch.specs.Snapshot.Same.{AreNumbers}
use Rattle.rm_sides.specs.Destination.Messages.{Item, contents_of, gone_items, is_empty, items_of, numbers_in}
use Rattle.rm_sides.specs.Destination.Messages.{sorted_onto}
use Rattle.rm_sides.specs.Destination.Messages.{there_items, with_message, without_gap}
use Rattle.record_batch.specs.Sequences.Words.{Text, at_seq, first_or}
use Rattle.rm_sides.specs.Destination.Messages.{numbers_of}
use Rattle.record_batch.specs.Sequences.Makers.{makers, makers_of, maker, nodes_of, number}
use Rattle.record_batch.specs.Sequences.Sources.{acked, is_sending, phase}
use Rattle.record_batch.specs.Sequences.Destinations.{received, received_of, held, close_of, told, front, is_over}
use Rattle.record_batch.specs.Sequences.Destinations.{items}
use Rattle.rm_sides.specs.Destination.Incoming.{inbox_of, is_loose}
use Rattle.rm_sides.specs.Destination.LooseLemmas.{inbox_of-loose}
use Rattle.record_batch.specs.Sequences.Destinations.{is_stopped, messages, inbox, behaviour, behaviour_of, purged}
use Rattle.record_batch.specs.Sequences.Destinations.{purged_of}
use Rattle.record_batch.specs.Sequences.Find.{find_from, find_incoming, find_outgoing, is_incoming}
use Rattle.rm_base.specs.declared.message.Behaviour.TheVariants.{FollowingFirstGap}
use Rattle.rm_sides.specs.Ranges.Changes.{covers_all, united}
use Rattle.rm_protocol.specs.Rows.{then_row, ranges_of, ack_at, ack_row, final_at, final_row, ack_rows, data_row_at}
use Rattle.rm_protocol.specs.Rows.{data_row, body_row, rows}
use Rattle.rm_protocol.specs.Recorded.{IsNew}
use Rattle.rm_protocol.specs.Terms.{Terms}
use Rattle.rm_protocol.proofs.ListLemmas.{All-append, numbered-next}
use Rattle.rm_sides.specs.Destination.Incoming.{is_past}
use Rattle.record_batch.specs.Sequences.Destinations.{deadline_of}

-- what acknowledgements bring says nothing of incoming sequences
abbrev pub IsAck : Fact → Type 0
IsAck (Acked s ns) = Unit {0}
IsAck (ClosedOut s) = Unit {0}
IsAck _ = ⊥

abbrev pub AreAcks : List Fact → Type 0
AreAcks d = AllByRecursion IsAck d

if_ack : (b : Bool) (rec : Fact) → IsAck rec → AreAcks (cond b (rec ∷ []) [])
if_ack true rec h = (h, tt)
if_ack false rec h = tt

unless_ack : (b : Bool) (rec : Fact) → IsAck rec → AreAcks (cond b [] (rec ∷ []))
unless_ack true rec h = tt
unless_ack false rec h = (h, tt)

pub one_row-acks : (k : AckBlock) (r : List Fact) → AreAcks (then_row (ack_row k) (final_row k) r)
one_row-acks k r =
    All-append IsAck (ack_row k r) (final_row k (r ++ ack_row k r)) (by_found (find_outgoing r k.ident))
    (by_final (r ++ ack_row k r) (find_outgoing (r ++ ack_row k r) k.ident) k.last)
  where
    by_found : (x : Option ℕ) → AreAcks (ack_at x (ranges_of k.kind) r)
    by_found None = tt
    by_found (Some s) = unless_ack (covers_all (united [] (acked r s)) (ranges_of k.kind))
        (Acked s (united [] (ranges_of k.kind))) tt

    by_final : (z : List Fact) (x : Option ℕ) (y : Bool) → AreAcks (final_at x y z)
    by_final z (Some s) true = if_ack (is_sending (phase z s)) (ClosedOut s) tt
    by_final z _ _ = tt

pub ack_rows-acks : (ks : List AckBlock) (r : List Fact) → AreAcks (ack_rows ks r)
ack_rows-acks [] r = tt
ack_rows-acks (k ∷ ks) r =
    let one = then_row (ack_row k) (final_row k) r in
    All-append IsAck one (ack_rows ks (r ++ one)) (one_row-acks k r) (ack_rows-acks ks (r ++ one))

calm_all : {A : Type 0} (g : Fact → List A) → ((rec : Fact) → IsAck rec → g rec ≡ []) → (d : List Fact) → AreAcks d
    → flat_map g d ≡ []
calm_all g calm [] h = refl
calm_all g calm (rec ∷ d) h = ap (λ z. z ++ flat_map g d) (calm rec h.0) ∙ calm_all g calm d h.1

pub calm_after : {A : Type 0} (g : Fact → List A) → ((rec : Fact) → IsAck rec → g rec ≡ []) → (r d : List Fact)
    → AreAcks d → flat_map g (r ++ d) ≡ flat_map g r
calm_after g calm r d h = flat_map-append g r d ∙ ap (λ z. flat_map g r ++ z) (calm_all g calm d h)
    ∙ append-nil (flat_map g r)

pub calm_makers : (rec : Fact) → IsAck rec → makers_of rec ≡ []
calm_makers (Acked s ns) h = refl
calm_makers (ClosedOut s) h = refl
calm_makers _ h = absurd h

pub calm_nodes : (rec : Fact) → IsAck rec → nodes_of rec ≡ []
calm_nodes (Acked s ns) h = refl
calm_nodes (ClosedOut s) h = refl
calm_nodes _ h = absurd h

calm_closes : (rec : Fact) → IsAck rec → close_of rec ≡ []
calm_closes (Acked s ns) h = refl
calm_closes (ClosedOut s) h = refl
calm_closes _ h = absurd h

calm_received : (s : ℕ) (rec : Fact) → IsAck rec → received_of s rec ≡ []
calm_received s (Acked t ns) h = refl
calm_received s (ClosedOut t) h = refl
calm_received s _ h = absurd h

calm_purged : (s : ℕ) (rec : Fact) → IsAck rec → purged_of s rec ≡ []
calm_purged s (Acked t ns) h = refl
calm_purged s (ClosedOut t) h = refl
calm_purged s _ h = absurd h

received-after : (r d : List Fact) (s : ℕ) → AreAcks d → received (r ++ d) s ≡ received r s
received-after r d s h = calm_after (received_of s) (calm_received s) r d h

purged-after : (r d : List Fact) (s : ℕ) → AreAcks d → purged (r ++ d) s ≡ purged r s
purged-after r d s h = calm_after (purged_of s) (calm_purged s) r d h

items-after : (r d : List Fact) (s : ℕ) → AreAcks d → items (r ++ d) s ≡ items r s
items-after r d s h = ap (λ ps. items_of ps (received (r ++ d) s)) (purged-after r d s h)
    ∙ ap (items_of (purged r s)) (received-after r d s h)

over-after : (r d : List Fact) (s now : ℕ) → AreAcks d → is_over (r ++ d) s now ≡ is_over r s now
over-after r d s now h =
    ap (λ z. not (is_empty (at_seq s z)) || is_past (deadline_of (maker (r ++ d) s)) now)
    (calm_after close_of calm_closes r d h)
    ∙ ap (λ z. is_stopped r s || is_past (deadline_of (numbered z s)) now) (calm_after makers_of calm_makers r d h)

find-after : (r d : List Fact) (q : Text) → AreAcks d → find_incoming (r ++ d) q ≡ find_incoming r q
find-after r d q h =
    ap (λ z. find_from (is_incoming (first_or 0 z) q) 0 (makers (r ++ d))) (calm_after nodes_of calm_nodes r d h)
    ∙ ap (λ z. find_from (is_incoming (number r) q) 0 z) (calm_after makers_of calm_makers r d h)

near-test : (i n : ℕ) → i ≤ n → nat_lt n i ≡ false
near-test i n h = grind (arith, nat_tests)

data-new : (r d : List Fact) (now : ℕ) (s i : ℕ) (p : Payload) (x : Option ℕ) → AreAcks d → x ≡ Some s
    → has_number (held r s) i ≡ false
    → is_over r s now ≡ false → i ≤ front r s + window → data_row_at now x i p (r ++ d) ≡ Received s i p ∷ []
data-new r d now s i p x h e new open_ near =
    let same : items (r ++ d) s ≡ items r s = items-after r d s h in
    let one : has_number (held (r ++ d) s) i ≡ false = ap (λ z. has_number (numbers_of z) i) same ∙ new in
    let two : is_over (r ++ d) s now ≡ false = over-after r d s now h ∙ open_ in
    let three : nat_lt (front (r ++ d) s + window) i ≡ false =
    ap (λ z. nat_lt (length (without_gap 0 (sorted_onto [] z)) + window) i) same
    ∙ near-test i (front r s + window) near in
    ap (λ z. data_row_at now z i p (r ++ d)) e ∙ rw (one, two, three) refl

rows-new : (terms : Terms) (r : List Fact) (now : ℕ) (y : Behaviour) (m : Message) (s i : ℕ) (p : Payload)
    (h : IsNew r now m s i p)
    → rows terms now y m r ≡ ack_rows m.acks r ++ Received s i p ∷ []
rows-new terms r now y m s i p h =
    let acks = ack_rows m.acks r in
    let calm = ack_rows-acks m.acks r in
    let row : body_row terms now y m m.body (r ++ acks) ≡ Received s i p ∷ [] =
    ap (λ z. body_row terms now y m z (r ++ acks)) h.payload
    ∙ ap (λ z. data_row now z p (r ++ acks)) h.header
    ∙ data-new r acks now s i p (find_incoming (r ++ acks) h.ident) calm (find-after r acks h.ident calm ∙ h.incoming)
    h.new h.open_ h.near in
    ap (λ z. acks ++ z) row

pub new-recorded : (terms : Terms) (r : List Fact) (now : ℕ) (y : Behaviour) (m : Message) (s i : ℕ) (p : Payload)
    → IsNew r now m s i p
    → (before : List Fact) × (rows terms now y m r ≡ before ++ Received s i p ∷ [])
new-recorded terms r now y m s i p h = (ack_rows m.acks r, rows-new terms r now y m s i p h)

-- messages by rising number, all above n
RisesAbove : {A : Type 0} → ℕ → List (ℕ × A) → Type 0
RisesAbove n [] = Unit {0}
RisesAbove n (m ∷ ms) = (n < m.0) × RisesAbove m.0 ms

with-rises : {A : Type 0} (n : ℕ) (ms : List (ℕ × A)) (i : ℕ) (p : A) → n < i → RisesAbove n ms
    → RisesAbove n (with_message ms i p)
unfolding RisesAbove
with-rises n [] i p l h = (l, tt)
with-rises n (m ∷ ms) i p l h =
    elim (nat_lt i m.0) as (λ b. nat_lt i m.0 ≡ b
    → RisesAbove n (cond b ((i, p) ∷ m ∷ ms) (cond (i == m.0) (m ∷ ms) (m ∷ with_message ms i p)))) [
      | true ↦ λ d. (l, (grind (arith, nat_tests), h.1))
      | false ↦ λ d. elim (i == m.0) as (λ b. (i == m.0) ≡ b
          → RisesAbove n (cond b (m ∷ ms) (m ∷ with_message ms i p))) [
            | true ↦ λ e. h
            | false ↦ λ e. (h.0, with-rises m.0 ms i p (grind (arith, nat_tests)) h.1)
          ] refl
    ] refl

sorted-rises : {A : Type 0} (acc ms : List (ℕ × A)) → RisesAbove 0 acc → AreNumbers ms
    → RisesAbove 0 (sorted_onto acc ms)
sorted-rises acc [] h k = h
sorted-rises acc (m ∷ ms) h k = sorted-rises (with_message acc m.0 m.1) ms (with-rises 0 acc m.0 m.1 k.0 h) k.1

pub sorted-push : {A : Type 0} (acc ms : List (ℕ × A)) (i : ℕ) (p : A)
    → sorted_onto acc (ms ++ (i, p) ∷ []) ≡ with_message (sorted_onto acc ms) i p
sorted-push acc [] i p = refl
sorted-push acc (m ∷ ms) i p = sorted-push (with_message acc m.0 m.1) ms i p

-- the message after the front goes to the front
closes : {A : Type 0} (n : ℕ) (ms : List (ℕ × A)) (i : ℕ) (p : A) → RisesAbove n ms
    → i ≡ n + length (without_gap n ms) + 1
    → slice_get (without_gap n (with_message ms i p)) (length (without_gap n ms)) ≡ Some p
unfolding RisesAbove
closes n [] i p h e =
    let same : (i == n + 1) ≡ true = grind (arith, nat_tests) in rw same refl
closes n (m ∷ ms) i p h e = by_number (m.0 == n + 1) refl (closes m.0 ms i p h.1)
  where
    by_number : (b : Bool) → (m.0 == n + 1) ≡ b
        → (i ≡ m.0 + length (without_gap m.0 ms) + 1
        → slice_get (without_gap m.0 (with_message ms i p)) (length (without_gap m.0 ms)) ≡ Some p)
        → slice_get (without_gap n (with_message (m ∷ ms) i p)) (length (without_gap n (m ∷ ms))) ≡ Some p
    by_number true d rest =
        let number : m.0 ≡ n + 1 = eqb-true m.0 (n + 1) d in
        let size : length (without_gap n (m ∷ ms)) ≡ suc (length (without_gap m.0 ms)) = rw d refl in
        let sum : i ≡ m.0 + length (without_gap m.0 ms) + 1 = omega arith in
        let above : nat_lt i m.0 ≡ false = grind (arith, nat_tests) in
        let other : (i == m.0) ≡ false = grind (arith, nat_tests) in
        rw (above, other, d) (rest sum)
    by_number false d rest =
        let none : length (without_gap n (m ∷ ms)) ≡ 0 = rw d refl in
        let low : n < m.0 = h.0 in
        let first : i ≡ n + 1 = omega arith in
        let here : (i == n + 1) ≡ true = grind (arith, nat_tests) in
        let before : nat_lt i m.0 ≡ true = grind (arith, nat_tests) in
        rw (before, d, here) refl

-- the records after the rows
rows-after : (terms : Terms) (r : List Fact) (now : ℕ) (y : Behaviour) (m : Message) (s i : ℕ) (p : Payload)
    → IsNew r now m s i p
    → r ++ rows terms now y m r ≡ (r ++ ack_rows m.acks r) ++ Received s i p ∷ []
rows-after terms r now y m s i p h =
    ap (λ z. r ++ z) (rows-new terms r now y m s i p h) ∙ sym (append_assoc r (ack_rows m.acks r) (Received s i p ∷ []))

received-last : (r acks : List Fact) (s i : ℕ) (p : Payload) → AreAcks acks
    → received ((r ++ acks) ++ Received s i p ∷ []) s ≡ received r s ++ (i, p) ∷ []
received-last r acks s i p calm =
    let same : (s == s) ≡ true = grind (arith, nat_tests) in
    flat_map-append (received_of s) (r ++ acks) (Received s i p ∷ [])
    ∙ ap (λ z. received (r ++ acks) s ++ (cond z ((i, p) ∷ []) [] ++ [])) same
    ∙ ap (λ z. z ++ (i, p) ∷ []) (received-after r acks s calm)

-- a message goes behind all others
items-push : (ps : List Range) (ms : List (ℕ × Payload)) (i : ℕ) (p : Payload)
    → items_of ps (ms ++ (i, p) ∷ []) ≡ items_of ps ms ++ (i, Some p) ∷ []
items-push ps ms i p =
    ap (λ xs. gone_items (numbers_in ps) ++ xs) (map-append (λ (m : ℕ × Payload). (m.0, Some m.1)) ms ((i, p) ∷ []))
    ∙ sym (append_assoc (gone_items (numbers_in ps)) (there_items ms) ((i, Some p) ∷ []))

items-last : (r acks : List Fact) (s i : ℕ) (p : Payload) → AreAcks acks
    → items ((r ++ acks) ++ Received s i p ∷ []) s ≡ items r s ++ (i, Some p) ∷ []
items-last r acks s i p calm =
    ap (λ ps. items_of ps (received ((r ++ acks) ++ Received s i p ∷ []) s))
    (flat_map-append (purged_of s) (r ++ acks) (Received s i p ∷ []) ∙ append-nil (purged (r ++ acks) s)
    ∙ purged-after r acks s calm)
    ∙ ap (items_of (purged r s)) (received-last r acks s i p calm) ∙ items-push (purged r s) (received r s) i p

pub received-new : (terms : Terms) (r : List Fact) (now : ℕ) (y : Behaviour) (m : Message) (s i : ℕ) (p : Payload)
    → IsNew r now m s i p
    → received (r ++ rows terms now y m r) s ≡ received r s ++ (i, p) ∷ []
received-new terms r now y m s i p h = ap (λ z. received z s) (rows-after terms r now y m s i p h)
    ∙ received-last r (ack_rows m.acks r) s i p (ack_rows-acks m.acks r)

contents-push : (ms : List (ℕ × Item)) (m : ℕ × Item) → contents_of (ms ++ m ∷ []) ≡ contents_of ms ++ m.1 ∷ []
contents-push [] m = refl
contents-push (x ∷ ms) m = ap (λ xs. x.1 ∷ xs) (contents-push ms m)

pub loose-released : (terms : Terms) (r : List Fact) (now : ℕ) (y : Behaviour) (m : Message) (s i : ℕ) (p : Payload)
    → IsNew r now m s i p → is_loose (behaviour r s) ≡ true
    → inbox (r ++ rows terms now y m r) s ≡ inbox r s ++ Some p ∷ []
loose-released terms r now y m s i p h loose =
    let acks = ack_rows m.acks r in
    let calm = ack_rows-acks m.acks r in
    let all = rows-after terms r now y m s i p h in
    let after = (r ++ acks) ++ Received s i p ∷ [] in
    let got = items-last r acks s i p calm in
    let made : makers after ≡ makers r =
    flat_map-append makers_of (r ++ acks) (Received s i p ∷ []) ∙ append-nil (makers (r ++ acks))
    ∙ calm_after makers_of calm_makers r acks calm in
    let still : behaviour after s ≡ behaviour r s = ap (λ z. behaviour_of (numbered z s)) made in
    ap (λ z. inbox z s) all
    ∙ inbox_of-loose (behaviour after s) (told after s) (items after s) (ap is_loose still ∙ loose)
    ∙ ap contents_of got
    ∙ contents-push (items r s) (i, Some p)
    ∙ ap (λ xs. xs ++ Some p ∷ []) (sym (inbox_of-loose (behaviour r s) (told r s) (items r s) loose))

pub gap-closed : (terms : Terms) (r : List Fact) (now : ℕ) (y : Behaviour) (m : Message) (s i : ℕ) (p : Payload)
    → IsNew r now m s i p
    → AreNumbers (items r s) → behaviour r s ≡ FollowingFirstGap → i ≡ front r s + 1
    → numbered (inbox (r ++ rows terms now y m r) s) i ≡ Some (Some p)
unfolding RisesAbove
gap-closed terms r now y m s i p h numbers dfg e =
    let acks = ack_rows m.acks r in
    let calm = ack_rows-acks m.acks r in
    let all = rows-after terms r now y m s i p h in
    let got = items-last r acks s i p calm in
    let made : makers ((r ++ acks) ++ Received s i p ∷ []) ≡ makers r =
    flat_map-append makers_of (r ++ acks) (Received s i p ∷ []) ∙ append-nil (makers (r ++ acks))
    ∙ calm_after makers_of calm_makers r acks calm in
    let still : behaviour ((r ++ acks) ++ Received s i p ∷ []) s ≡ FollowingFirstGap =
    ap (λ z. behaviour_of (numbered z s)) made ∙ dfg in
    let box : inbox ((r ++ acks) ++ Received s i p ∷ []) s ≡ without_gap 0 (with_message (messages r s) i (Some p)) =
    ap (λ z. inbox_of z (told ((r ++ acks) ++ Received s i p ∷ []) s)
    (items ((r ++ acks) ++ Received s i p ∷ []) s)) still
    ∙ ap (λ z. without_gap 0 (sorted_onto [] z)) got ∙ ap (without_gap 0) (sorted-push [] (items r s) i (Some p)) in
    let place : i ≡ suc (front r s) = omega arith in
    let item : slice_get (without_gap 0 (with_message (messages r s) i (Some p))) (front r s) ≡ Some (Some p) =
    closes 0 (messages r s) i (Some p) (sorted-rises [] (items r s) tt numbers) (omega arith) in
    ap (λ z. numbered (inbox z s) i) all ∙ ap (λ z. numbered z i) box
    ∙ ap (numbered (without_gap 0 (with_message (messages r s) i (Some p)))) place
    ∙ numbered-next (without_gap 0 (with_message (messages r s) i (Some p))) (front r s) ∙ item
