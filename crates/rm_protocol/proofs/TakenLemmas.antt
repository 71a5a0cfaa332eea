-- What becomes of a delivered message that is new.
use Rattle.std.proofs.Common.{◌≡◌, ℕ, ◌<◌, ◌==◌, ◌&&◌, ◌||◌, not, cond, Bool, true, false, List, [], ◌∷◌}
use Rattle.std.proofs.Common.{◌++◌, refl, sym, ap, ◌∙◌, subst, append-nil}
use Rattle.std.specs.Prelude.{Option, Some, None, Ok, is_none}
use Rattle.std.specs.List.{list_any}
use Rattle.std.proofs.lemmas.Bool.{eq-eqb}
use Rattle.rm_base.specs.Numbered.{numbered}
use Rattle.rm_base.specs.NumberSet.{has_number}
use Rattle.rm_base.specs.declared.message.Payload.{Payload}
use Rattle.rm_message.specs.declared.elements.header.AckBlock.{AckBlock}
use Rattle.rm_message.specs.declared.elements.header.SeqHeader.{SeqHeader}
use Rattle.rm_message.specs.declared.message.Body.TheVariants as body
use Rattle.rm_message.specs.declared.message.Message.{Message}
use Rattle.rm_message.specs.declared.refusal.FaultKind.{FaultKind}
use Rattle.rm_message.specs.declared.refusal.FaultKind.TheVariants.{WsrmRequired, UnknownSequence}
use Rattle.rm_message.specs.declared.refusal.FaultKind.TheVariants.{SequenceTerminated, SequenceClosed}
use Rattle.rm_message.specs.declared.refusal.FaultKind.TheVariants.{InvalidAcknowledgement, CreateSequenceRefused}
use Rattle.rm_message.specs.declared.refusal.FaultKind.TheVariants.{MissingSelection, UnsupportedSelection}
use Rattle.rm_message.specs.declared.refusal.FaultKind.TheVariants.{StoreFull}
use Rattle.record_batch.specs.Fact.{Fact}
use Rattle.record_batch.specs.Snapshot.Same.{AreNumbers}
use Rattle.rm_sides.specs.Destination.Messages.{is_empty, numbers_of}
use Rattle.record_batch.specs.Sequences.Words.{Text}
use Rattle.record_batch.specs.Sequences.Makers.{maker}
use Rattle.rm_sides.specs.Destination.Incoming.{is_past}
use Rattle.rm_sides.specs.Destination.Messages.{any_true}
use Rattle.record_batch.specs.Sequences.Destinations.{closes, deadline_of, held, is_ended, is_over, items, received}
use Rattle.rm_protocol.specs.Calls.{Answer, Done, judged}
use Rattle.rm_protocol.specs.Delivered.{Brings, Takes, IsWriting, TakesUnless, TakesNew}
use Rattle.rm_protocol.specs.Node.{Node, State, Up, Writing, Compacting, records, node_end, is_short, goes_down}
use Rattle.rm_protocol.specs.Node.{with_batch, written, after, after_by, Answered, DiskFault}
use Rattle.rm_protocol.specs.Node.{call_outcome, outcome_by, outcome_with}
use Rattle.rm_protocol.specs.Recorded.{IsNew}
use Rattle.rm_protocol.specs.Rows.{rows}
use Rattle.rm_protocol.specs.Sent.{Called, arrival_outcome}
use Rattle.rm_protocol.specs.Sound.{IsSound}
use Rattle.rm_protocol.specs.Terms.{Terms}
use Rattle.rm_protocol.specs.Verdict.{lacks_header, target, is_unknown, names_none, going_on, is_ended_at, is_ended_for}
use Rattle.rm_protocol.specs.Verdict.{is_shut_at, is_shut_for, is_invalid, refuses_create, lacks_selection}
use Rattle.rm_protocol.specs.Verdict.{selects_other, has_room, is_fault_body, first_held, verdict}
use Rattle.rm_protocol.specs.World.{World, Side, One, Two, node, calls, received_by, arrives}
use Rattle.rm_protocol.proofs.Kept.{kept-held}
use Rattle.rm_protocol.proofs.NewLemmas.{gap-closed, loose-released, received-new}
use Rattle.rm_protocol.proofs.NumberLemmas.{number-of}
use Rattle.rm_protocol.proofs.RunLemmas.{received-at, sound_at, records-with}

-- of a new message no test can hold but those of its acknowledgements and of the store

ended-open : (r : List Fact) (s now : ℕ) → is_over r s now ≡ false → is_ended r s now ≡ false
ended-open r s now h = by_closes (closes r s) h
  where
    by_closes : (xs : List Bool) → (not (is_empty xs) || is_past (deadline_of (maker r s)) now) ≡ false
        → (any_true xs || is_past (deadline_of (maker r s)) now) ≡ false
    by_closes [] e = e
    by_closes (x ∷ xs) e = absurd (cc (e))

none_shut : (b : Bool) → (b && false) ≡ false
none_shut true = refl
none_shut false = refl

names-payload : (r : List Fact) (blocks : List AckBlock) (asks : List Text) (p : Payload)
    → names_none r blocks asks (body.Payload p) ≡ false
names-payload r [] [] p = refl
names-payload r [] (ask ∷ asks) p = refl
names-payload r (block ∷ blocks) [] p = refl
names-payload r (block ∷ blocks) (ask ∷ asks) p = refl

creates-none : (r : List Fact) (t : Option Text) (p : Payload) → refuses_create r t (body.Payload p) ≡ false
creates-none r None p = refl
creates-none r (Some t) p = refl

-- the first of the tests that can hold
abbrev held_of : Bool → Bool → Option FaultKind
held_of ack store = first_held ((ack, InvalidAcknowledgement) ∷ (store, StoreFull) ∷ [])

only_two : (a b c d e f g h ack store : Bool) → a ≡ false → b ≡ false → c ≡ false → d ≡ false → f ≡ false → g ≡ false
    → h ≡ false
    → first_held ((a, WsrmRequired) ∷ (b, UnknownSequence) ∷ (c, SequenceTerminated) ∷ (d, SequenceClosed)
    ∷ (ack, InvalidAcknowledgement) ∷ (f, CreateSequenceRefused) ∷ (g, MissingSelection) ∷ (h, UnsupportedSelection)
    ∷ (store, StoreFull) ∷ [])
    ≡ held_of ack store
only_two a b c d e f g h ack store ea eb ec ed ef eg eh = rw (ea, eb, ec, ed, ef, eg, eh) refl

verdict-new : (terms : Terms) (x : Node) (m : Message) (s i : ℕ) (p : Payload) → IsNew (records x) x.clock m s i p
    → verdict terms (records x) (node_end terms x) x.clock x.granted m
    ≡ held_of (list_any (is_invalid (records x)) m.acks)
    (not (has_room terms (node_end terms x) (rows terms x.clock x.granted m (records x))))
verdict-new terms x m s i p h =
    let r = records x in
    let header : SeqHeader = record { ident = h.ident; number = i } in
    let content = body.Payload p in
    let required : (not (is_fault_body m.body) && lacks_header m.sequence m.body) ≡ false =
    ap (λ z. not (is_fault_body z) && lacks_header m.sequence z) h.payload
    ∙ ap (λ z. lacks_header z content) h.header in
    let unknown : (not (is_fault_body m.body)
    && (is_unknown r (target m.sequence m.body) || names_none r m.acks m.asks m.body)) ≡ false =
    ap (λ z. not (is_fault_body z) && (is_unknown r (target m.sequence z) || names_none r m.acks m.asks z)) h.payload
    ∙ ap (λ z. is_unknown r (target z content) || names_none r m.acks m.asks content) h.header
    ∙ ap (λ z. is_none z || names_none r m.acks m.asks content) h.incoming ∙ names-payload r m.acks m.asks p in
    let ended : (not (is_fault_body m.body) && is_ended_for r x.clock (going_on m.sequence m.body)) ≡ false =
    ap (λ z. not (is_fault_body z) && is_ended_for r x.clock (going_on m.sequence z)) h.payload
    ∙ ap (λ z. is_ended_for r x.clock (going_on z content)) h.header ∙ ap (is_ended_at r x.clock) h.incoming
    ∙ ended-open r s x.clock h.open_ in
    let shut : (not (is_fault_body m.body) && is_shut_for r x.clock m.sequence) ≡ false =
    ap (λ z. not (is_fault_body z) && is_shut_for r x.clock m.sequence) h.payload
    ∙ ap (is_shut_for r x.clock) h.header ∙ ap (is_shut_at r x.clock i) h.incoming
    ∙ ap (λ z. not (has_number (held r s) i) && z) h.open_ ∙ none_shut (not (has_number (held r s) i)) in
    let create : refuses_create r m.addressing.message_id m.body ≡ false =
    ap (refuses_create r m.addressing.message_id) h.payload ∙ creates-none r m.addressing.message_id p in
    let lacks : lacks_selection m.body ≡ false = ap lacks_selection h.payload in
    let other_ : selects_other m.body ≡ false = ap selects_other h.payload in
    only_two _ _ _ _ false _ _ _ _ _ required unknown ended shut create lacks other_

-- a batch that takes the message is written, or the disk fails
batch-taken : (terms : Terms) (x : Node) (m : Message) (s i : ℕ) (p : Payload) (d : List Fact)
    → Takes (records x) (records x ++ d) s i p
    → TakesUnless terms x (written x d) m s i p (Called (outcome_with x.fuse d Done))
batch-taken terms x m s i p [] h =
    subst (λ z. Takes (records x) z s i p) (append-nil (records x)) h
batch-taken terms x m s i p (rec ∷ d) h = by_fuse (is_short 4 x.fuse) refl
  where
    by_fuse : (b : Bool) → is_short 4 x.fuse ≡ b
        → TakesUnless terms x (cond b (goes_down x (rec ∷ d)) (with_batch x (rec ∷ d))) m s i p
        (Called (cond b DiskFault (Answered Done)))
    by_fuse true e = e
    by_fuse false e = subst (λ z. Takes (records x) z s i p) (sym (records-with x.entries (rec ∷ d))) h

-- the message is taken by the call of a node that is up
abbrev IsTaken : Terms → Node → Message → ℕ → ℕ → Payload → Answer → Type 0
IsTaken terms x m s i p answer =
    TakesUnless terms x (written x answer.delta) m s i p (Called (outcome_with x.fuse answer.delta answer.outcome))

not-true : (b : Bool) → not b ≡ true → b ≡ false
not-true true e = absurd (cc (e))
not-true false e = refl

judged-taken : (terms : Terms) (x : Node) (m : Message) (s i : ℕ) (p : Payload) → IsNew (records x) x.clock m s i p
    → AreNumbers (items (records x) s)
    → TakesUnless terms x (after x (received_by terms x (Ok m))) m s i p
    (Called (call_outcome x (received_by terms x (Ok m))))
judged-taken terms x m s i p h numbers = by_state x.state refl
  where
    takes : Takes (records x) (records x ++ rows terms x.clock x.granted m (records x)) s i p
    takes = record {
      recorded = received-new terms (records x) x.clock x.granted m s i p h;
      released = gap-closed terms (records x) x.clock x.granted m s i p h numbers;
      loose = loose-released terms (records x) x.clock x.granted m s i p h;
    }

    by_tests : (ack store : Bool) → list_any (is_invalid (records x)) m.acks ≡ ack
        → not (has_room terms (node_end terms x) (rows terms x.clock x.granted m (records x))) ≡ store
        → IsTaken terms x m s i p (judged terms (records x) x.clock x.granted m (held_of ack store))
    by_tests true store e f = e
    by_tests false true e f =
        not-true (has_room terms (node_end terms x) (rows terms x.clock x.granted m (records x))) f
    by_tests false false e f = batch-taken terms x m s i p (rows terms x.clock x.granted m (records x)) takes

    by_state : (z : State) → x.state ≡ z
        → TakesUnless terms x (after_by x z (received_by terms x (Ok m))) m s i p
        (Called (outcome_by x z (received_by terms x (Ok m))))
    by_state Up e =
        subst (λ v. IsTaken terms x m s i p (judged terms (records x) x.clock x.granted m v))
        (sym (verdict-new terms x m s i p h))
        (by_tests _ _ refl refl)
    by_state (Writing delta) e = subst IsWriting (sym e) tt
    by_state (Compacting start) e = subst IsWriting (sym e) tt

-- what a node received has numbers from 1 on
each-from : {A : Type 0} (ms : List (ℕ × A)) → ((n : ℕ) → has_number (numbers_of ms) n ≡ true → 0 < n) → AreNumbers ms
each-from [] h = tt
each-from (m ∷ ms) h = (
  h m.0 (ap (λ b. b || has_number (numbers_of ms) m.0) (eq-eqb m.0 m.0 refl)),
  each-from ms (λ n e. h n (behind (m.0 == n) (has_number (numbers_of ms) n) e)),
)
  where
    behind : (a b : Bool) → b ≡ true → (a || b) ≡ true
    behind true b e = refl
    behind false b e = e

numbers-sound : (terms : Terms) (w : World) (side : Side) (s : ℕ) → IsSound terms w
    → AreNumbers (items (records (node w side)) s)
numbers-sound terms w side s h =
    let b = (node w side).whole in
    let at = sound_at terms w side h in
    each-from (items (records (node w side)) s)
    (λ n e. (number-of (received b s) n (received-at terms w side s h)
    (sym (kept-held (records (node w side)) b s n at.stands.kept) ∙ e)).from)

-- where a packet goes
call-at : (terms : Terms) (w : World) (side : Side) (answer : Answer)
    → node (calls terms w side true answer) side ≡ after (node w side) answer
call-at terms w One answer = refl
call-at terms w Two answer = refl

delivered-node : (terms : Terms) (w : World) (k : ℕ) (side : Side) (m : Message) (h : Brings terms w k side m)
    → node (arrives terms w (numbered w.packets k)) side ≡ after (node w side) (received_by terms (node w side) (Ok m))
delivered-node terms w k side m h =
    ap (λ o. node (arrives terms w o) side) h.there
    ∙ ap (λ z. node (calls terms w z true (received_by terms (node w z) (terms.read h.packet.message))) side) h.to
    ∙ call-at terms w side (received_by terms (node w side) (terms.read h.packet.message))
    ∙ ap (λ z. after (node w side) (received_by terms (node w side) z)) h.read

delivered-outcome : (terms : Terms) (w : World) (k : ℕ) (side : Side) (m : Message) (h : Brings terms w k side m)
    → arrival_outcome terms w (numbered w.packets k)
    ≡ Called (call_outcome (node w side) (received_by terms (node w side) (Ok m)))
delivered-outcome terms w k side m h =
    ap (arrival_outcome terms w) h.there
    ∙ ap (λ z. Called (call_outcome (node w z) (received_by terms (node w z) (terms.read h.packet.message)))) h.to
    ∙ ap (λ z. Called (call_outcome (node w side) (received_by terms (node w side) z))) h.read

pub takes-new : (terms : Terms) (w : World) → IsSound terms w → TakesNew terms w
takes-new terms w sound k side m s i p h new =
    let x = node w side in
    subst (λ y. TakesUnless terms x y m s i p (arrival_outcome terms w (numbered w.packets k)))
    (sym (delivered-node terms w k side m h))
    (subst (TakesUnless terms x (after x (received_by terms x (Ok m))) m s i p)
    (sym (delivered-outcome terms w k side m h))
    (judged-taken terms x m s i p new (numbers-sound terms w side s sound)))
