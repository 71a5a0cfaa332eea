-- In each world of a run both nodes are near: what each call adds keeps it, and so do a crash and a list written anew.
use Rattle.std.proofs.Common.{◌≡◌, ℕ, ◌+◌, ◌<◌, ◌≤◌, ◌&&◌, max, nat_le, nat_lt, not, cond, Bool, true, false}
use Rattle.std.proofs.Common.{List, [], ◌∷◌, ◌++◌, length, refl, sym, ◌∙◌, subst, arith}
use Rattle.std.specs.Prelude.{Option, Some, None, Result, Ok, Err}
use Rattle.std.specs.List.{AllByRecursion}
use Rattle.std.proofs.lemmas.Bool.Decides.{nat_tests}
use Rattle.std.specs.Option.{option_to_list}
use Rattle.rm_base.specs.Limits as limits
use Rattle.rm_base.specs.Limits.{window}
use Rattle.rm_base.specs.Message.{max_number}
use Rattle.rm_base.specs.Numbered.{numbered}
use Rattle.rm_base.specs.NumberSet.{has_number}
use Rattle.rm_base.specs.declared.message.Behaviour.{Behaviour}
use Rattle.rm_base.specs.declared.message.Cause.TheVariants.{Operator, Expired}
use Rattle.rm_base.specs.declared.message.Payload.{Payload}
use Rattle.rm_message.specs.declared.elements.header.AckBlock.{AckBlock}
use Rattle.rm_message.specs.declared.message.Body.{Body}
use Rattle.rm_message.specs.declared.message.Body.TheVariants as body
use Rattle.rm_message.specs.declared.message.Message.{Message}
use Rattle.rm_message.specs.declared.refusal.FaultKind.{FaultKind}
use Rattle.rm_message.specs.declared.refusal.Refusal.{Refusal}
use Rattle.rm_message.specs.declared.elements.header.SeqHeader.{SeqHeader}
use Rattle.rm_sides.specs.Destination.Incoming.{is_past}
use Rattle.rm_sides.specs.Ranges.Changes.{covers_all, united}
use Rattle.timers.specs.declared.slots.timers.Key.{Key}
use Rattle.timers.specs.Keys.Waits.{first_due}
use Rattle.record_batch.specs.Fact.{Fact, Accepted, Acked, Closed, ClosedOut, Closing, Consumed, Creating, Ended}
use Rattle.record_batch.specs.Fact.{Dropped, Ending, Made, Purged, Received}
use Rattle.record_batch.specs.Snapshot.Same.{HaveProper}
use Rattle.record_batch.specs.Snapshot.Snapshot.{snapshot}
use Rattle.record_batch.specs.Sequences.Words.{Text}
use Rattle.record_batch.specs.Sequences.Makers.{Maker, Incoming, Offered, Outgoing, Taken, counter, maker, makers}
use Rattle.record_batch.specs.Sequences.Sources.{accepted_count, acked, all_unacked, is_sending, out_ident, phase}
use Rattle.record_batch.specs.Sequences.Sources.{unacked}
use Rattle.record_batch.specs.Sequences.Destinations.{cursor, deadline_of, front, has_end, held, inbox, is_over}
use Rattle.record_batch.specs.Sequences.Find.{find_incoming, find_outgoing, peer}
use Rattle.record_batch.specs.Sequences.Fits.{all_fit}
use Rattle.rm_protocol.specs.AloneLemmas.{records-alone}
use Rattle.rm_protocol.specs.Calls.{Answer, Wish, ask_ack, close, consume, create, cursor_to, end, expired_from}
use Rattle.rm_protocol.specs.Calls.{if_room}
use Rattle.rm_protocol.specs.Calls.{ask_out, close_by, close_in, close_out, consume_in, end_out, judged, nack_in}
use Rattle.rm_protocol.specs.Calls.{nack_missing, on_incoming, on_outgoing, send, send_out, tick, tick_with, ticked}
use Rattle.rm_protocol.specs.Calls.{Cause, BadPayload, NoSequence, NodeFull, NotOpen, PastInbox, PayloadTooLong}
use Rattle.rm_protocol.specs.Calls.{Rollover, StoreFull, TooManySequences, WindowFull, WrongSide, adds, ask_to}
use Rattle.rm_protocol.specs.Calls.{final_ack, is_open, made_by, may_end, nack_by, offer_of, refusal, wanted}
use Rattle.rm_protocol.specs.Compact.{compacted, compacted_by, may_compact, rewritten, stops_compacting, with_list}
use Rattle.rm_protocol.specs.Heard.{Heard}
use Rattle.rm_protocol.specs.Messages.{data_at, request_at}
use Rattle.rm_protocol.specs.Node.{Node, State, Up, Writing, Compacting, after, after_by, armed, goes_down, is_short}
use Rattle.rm_protocol.specs.Node.{mounted, node_end, records, records_in, with_batch, written, entries_left}
use Rattle.rm_protocol.specs.Polls.{poll, polls}
use Rattle.rm_protocol.specs.Recorded.{OnlyHeardIsRecorded}
use Rattle.rm_protocol.specs.Rows.{ack_at, ack_row, ack_rows, body_row, data_row, data_row_at, final_at}
use Rattle.rm_protocol.specs.Rows.{final_row, ranges_of, rows}
use Rattle.rm_protocol.specs.Sound.{IsSound}
use Rattle.rm_protocol.specs.Terms.{AreTerms, Terms}
use Rattle.rm_protocol.specs.Verdict.{has_room, verdict}
use Rattle.rm_protocol.specs.World.{Arm, Ask, Close, Compact, Consume, Crash, Create, Deliver, End, Event, Grant, Nack}
use Rattle.rm_protocol.specs.World.{Noise, One, Packet, Poll, Send, Side, Tick, Two, World, arrives, calls, happens}
use Rattle.rm_protocol.specs.World.{node}
use Rattle.rm_protocol.specs.World.{other, place, received_by, run, start, with_clock, with_node, wish_of}
use Rattle.rm_arrival.specs.Near.{IsNear}
use Rattle.rm_arrival.proofs.MemberLemmas.{all-back}
use Rattle.rm_arrival.proofs.NearLemmas.{AllFollow, BringsNone, MayFollow, NearLaws, all-near, follow-join}
use Rattle.rm_arrival.proofs.NearLemmas.{none-follow, short-near}
use Rattle.rm_arrival.proofs.NodeLemmas.{batch-there}
use Rattle.rm_arrival.proofs.OnwardLemmas.{StaysSound}
use Rattle.rm_arrival.proofs.ValidLemmas.{sees}

-- ---- what the calls add

-- the records of an answer may come next
record Follows (r : List Fact) (a : Answer) : Type 0 where
  all : AllFollow r a.delta

no-records : (r : List Fact) (a : Answer) → a.delta ≡ [] → Follows r a
no-records r a e = record { all = subst (λ d. AllFollow r d) (sym e) tt }

-- refused, or as else
guard : (r : List Fact) (b : Bool) (cause : Cause) (a : Answer) → (b ≡ false → Follows r a)
    → Follows r (cond b (refusal cause) a)
guard r b cause a h = elim b as (λ z. b ≡ z → Follows r (cond z (refusal cause) a)) [
  | true ↦ λ e. no-records r (refusal cause) refl
  | false ↦ λ e. h e
] refl

unless : (r : List Fact) (b : Bool) (cause : Cause) (a : Answer) → Follows r a → Follows r (cond b a (refusal cause))
unless r b cause a h = elim b as (λ z. Follows r (cond z a (refusal cause))) [
  | true ↦ h
  | false ↦ no-records r (refusal cause) refl
]

room-one : (terms : Terms) (r : List Fact) (at : ℕ) (f : Fact) (outs : List Fact → List Message) → MayFollow r f
    → Follows r (if_room terms at (adds r (f ∷ []) outs))
room-one terms r at f outs h =
    unless r (has_room terms at (f ∷ [])) (StoreFull at (terms.size (f ∷ []) + 6)) (adds r (f ∷ []) outs)
    (record { all = (h, tt) })

outgoing : (r : List Fact) (a : Answer) → Follows r a → (m : Option Maker) → Follows r (on_outgoing m a)
outgoing r a h None = no-records r (refusal NoSequence) refl
outgoing r a h (Some (Outgoing ticket to via lapse)) = h
outgoing r a h (Some (Taken message_id ident endpoint)) = h
outgoing r a h (Some (Incoming counter_ message_id acks_to behaviour deadline lapse)) =
    no-records r (refusal WrongSide) refl
outgoing r a h (Some (Offered ticket counter_ to behaviour)) = no-records r (refusal WrongSide) refl

incoming : (r : List Fact) (a : Answer) → Follows r a → (m : Option Maker) → Follows r (on_incoming m a)
incoming r a h None = no-records r (refusal NoSequence) refl
incoming r a h (Some (Outgoing ticket to via lapse)) = no-records r (refusal WrongSide) refl
incoming r a h (Some (Taken message_id ident endpoint)) = no-records r (refusal WrongSide) refl
incoming r a h (Some (Incoming counter_ message_id acks_to behaviour deadline lapse)) = h
incoming r a h (Some (Offered ticket counter_ to behaviour)) = h

create-follows : (terms : Terms) (r : List Fact) (at : ℕ) (wish : Wish) → Follows r (create terms r at wish)
create-follows terms r at wish =
    let f = Creating (counter r + 1) wish.to wish.via wish.expires (offer_of (counter r) wish.offer) in
    let outs = λ (after : List Fact). option_to_list (request_at after (length (makers r) + 1)) in
    guard r (nat_lt limits.most_sequences (length (makers r) + wanted wish.offer))
    (TooManySequences (length (makers r))) (if_room terms at (adds r (f ∷ []) outs))
    (λ e. room-one terms r at f outs tt)

send-follows : (terms : Terms) (r : List Fact) (at s : ℕ) (text : Text) → Follows r (send terms r at s text)
send-follows terms r at s text =
    let f = Accepted s text in
    let outs = λ (after : List Fact). option_to_list (data_at after s (accepted_count r s + 1)) in
    let done = if_room terms at (adds r (f ∷ []) outs) in
    let rolls = cond (nat_le max_number (accepted_count r s)) (refusal Rollover) done in
    let full = cond (nat_le limits.most_unacked (all_unacked r)) (refusal (NodeFull (all_unacked r))) rolls in
    let window_ = cond (nat_le limits.window (unacked r s)) (refusal (WindowFull (unacked r s))) full in
    let shut = cond (not (is_open (phase r s))) (refusal NotOpen) window_ in
    let bad = cond (not (terms.is_content text)) (refusal BadPayload) shut in
    outgoing r (send_out terms r at s text)
    (guard r (nat_lt limits.payload_bytes (length text)) (PayloadTooLong (length text)) bad (λ a.
    guard r (not (terms.is_content text)) BadPayload shut (λ b.
    guard r (not (is_open (phase r s))) NotOpen window_ (λ c.
    guard r (nat_le limits.window (unacked r s)) (WindowFull (unacked r s)) full (λ d.
    guard r (nat_le limits.most_unacked (all_unacked r)) (NodeFull (all_unacked r)) rolls (λ e.
    guard r (nat_le max_number (accepted_count r s)) Rollover done (λ g.
    room-one terms r at f outs (below (unacked r s) d)))))))) (maker r s)
  where
    below : (n : ℕ) → nat_le limits.window n ≡ false → n < window
    below n e = grind (arith, nat_tests, e)

close-follows : (terms : Terms) (r : List Fact) (at s now : ℕ) → Follows r (close terms r at s now)
close-follows terms r at s now = by_maker (maker r s)
  where
    out_ : Follows r (close_out terms r at s)
    out_ =
        let f = Closing s (counter r + 1) in
        let outs = λ (after : List Fact). option_to_list (request_at after s) in
        unless r (is_open (phase r s)) NotOpen (if_room terms at (adds r (f ∷ []) outs))
        (room-one terms r at f outs tt)

    in_ : Follows r (close_in terms r at s now)
    in_ =
        let f = Closed s Operator 0 in
        let outs = λ (after : List Fact). final_ack after s now (made_by after (maker after s)) in
        guard r (is_over r s now) NotOpen (if_room terms at (adds r (f ∷ []) outs))
        (λ e. room-one terms r at f outs tt)

    by_maker : (m : Option Maker) → Follows r (close_by terms r at s now m)
    by_maker None = no-records r (refusal NoSequence) refl
    by_maker (Some (Outgoing ticket to via lapse)) = out_
    by_maker (Some (Taken message_id ident endpoint)) = out_
    by_maker (Some (Incoming counter_ message_id acks_to behaviour deadline lapse)) = in_
    by_maker (Some (Offered ticket counter_ to behaviour)) = in_

end-follows : (terms : Terms) (r : List Fact) (at s : ℕ) → Follows r (end terms r at s)
end-follows terms r at s =
    let f = Ending s (counter r + 1) in
    let outs = λ (after : List Fact). option_to_list (request_at after s) in
    outgoing r (end_out terms r at s)
    (unless r (may_end (phase r s)) NotOpen (if_room terms at (adds r (f ∷ []) outs))
    (room-one terms r at f outs tt)) (maker r s)

ask-follows : (r : List Fact) (s : ℕ) → Follows r (ask_ack r s)
ask-follows r s =
    let a = adds r [] (λ (after : List Fact). ask_to (peer after s) (out_ident after s)) in
    outgoing r (ask_out r s) (unless r (may_end (phase r s)) NotOpen a (no-records r a refl)) (maker r s)

nack-follows : (r : List Fact) (s now : ℕ) → Follows r (nack_missing r s now)
nack-follows r s now =
    let a = adds r [] (λ (after : List Fact). nack_by after s (made_by after (maker after s))) in
    incoming r (nack_in r s now) (guard r (is_over r s now) NotOpen a (λ e. no-records r a refl)) (maker r s)

consume-follows : (terms : Terms) (r : List Fact) (at s upto : ℕ) → Follows r (consume terms r at s upto)
consume-follows terms r at s upto =
    let a = adds r (cursor_to r s upto) (λ (after : List Fact). []) in
    incoming r (consume_in terms r at s upto)
    (guard r (nat_lt (length (inbox r s)) upto) (PastInbox (length (inbox r s))) (if_room terms at a)
    (λ e. unless r (has_room terms at a.delta) (StoreFull at (terms.size a.delta + 6)) a (record { all = moved })))
    (maker r s)
  where
    moved : AllFollow r (cursor_to r s upto)
    moved = elim (nat_lt (cursor r s) upto) as (λ b. AllFollow r (cond b (Consumed s upto ∷ []) [])) [
      | true ↦ (tt, tt)
      | false ↦ tt
    ]

expired-none : (r : List Fact) (now k : ℕ) (ms : List Maker) → AllByRecursion BringsNone (expired_from r now k ms)
expired-none r now k [] = tt
expired-none r now k (m ∷ ms) =
    let rest = expired-none r now (k + 1) ms in
    elim (is_past (deadline_of (Some m)) now && not (has_end r (k + 1))) as (λ b. AllByRecursion BringsNone
    (cond b (Ended (k + 1) Expired 0 ∷ expired_from r now (k + 1) ms) (expired_from r now (k + 1) ms))) [
      | true ↦ (tt, rest)
      | false ↦ rest
    ]

tick-follows : (terms : Terms) (r : List Fact) (at now : ℕ) (keys : List Key)
    → Follows r (tick_with terms r at now keys)
tick-follows terms r at now keys =
    let gone = expired_from r now 0 (makers r) in
    elim (has_room terms at gone) as (λ b. Follows r (cond b (ticked r now keys gone) (ticked r now keys []))) [
      | true ↦ record { all = none-follow r gone (expired-none r now 0 (makers r)) }
      | false ↦ no-records r (ticked r now keys []) refl
    ]

-- ---- what a message brings

join-none : (xs ys : List Fact) → AllByRecursion BringsNone xs → AllByRecursion BringsNone ys
    → AllByRecursion BringsNone (xs ++ ys)
join-none [] ys h k = k
join-none (x ∷ xs) ys h k = (h.0, join-none xs ys h.1 k)

ack-none : (block : AckBlock) (r : List Fact) → AllByRecursion BringsNone (ack_row block r)
ack-none block r = at (find_outgoing r block.ident)
  where
    at : (o : Option ℕ) → AllByRecursion BringsNone (ack_at o (ranges_of block.kind) r)
    at None = tt
    at (Some s) = elim (covers_all (united [] (acked r s)) (ranges_of block.kind)) as (λ b. AllByRecursion BringsNone
        (cond b [] (Acked s (united [] (ranges_of block.kind)) ∷ []))) [ true ↦ tt | false ↦ (tt, tt) ]

final-none : (block : AckBlock) (r : List Fact) → AllByRecursion BringsNone (final_row block r)
final-none block r = at (find_outgoing r block.ident) block.last
  where
    at : (o : Option ℕ) (last : Bool) → AllByRecursion BringsNone (final_at o last r)
    at None true = tt
    at None false = tt
    at (Some s) false = tt
    at (Some s) true =
        elim (is_sending (phase r s)) as (λ b. AllByRecursion BringsNone (cond b (ClosedOut s ∷ []) [])) [
          | true ↦ (tt, tt)
          | false ↦ tt
        ]

acks-none : (blocks : List AckBlock) (r : List Fact) → AllByRecursion BringsNone (ack_rows blocks r)
acks-none [] r = tt
acks-none (block ∷ blocks) r =
    join-none (ack_row block r ++ final_row block (r ++ ack_row block r))
    (ack_rows blocks (r ++ (ack_row block r ++ final_row block (r ++ ack_row block r))))
    (join-none (ack_row block r) (final_row block (r ++ ack_row block r)) (ack-none block r)
    (final-none block (r ++ ack_row block r)))
    (acks-none blocks (r ++ (ack_row block r ++ final_row block (r ++ ack_row block r))))

data-follows : (now : ℕ) (header : Option SeqHeader) (p : Payload) (r : List Fact)
    → AllFollow r (data_row now header p r)
data-follows now None p r = tt
data-follows now (Some h) p r = at (find_incoming r h.ident) h.number
  where
    near : (n t : ℕ) → nat_lt (front r t + limits.window) n ≡ false → n ≤ front r t + window
    near n t e = grind (arith, nat_tests, e)

    at : (o : Option ℕ) (n : ℕ) → AllFollow r (data_row_at now o n p r)
    at None n = tt
    at (Some t) n =
        let taken = Received t n p ∷ [] in
        let within = cond (nat_lt (front r t + limits.window) n) [] taken in
        let going = cond (is_over r t now) [] within in
        elim (has_number (held r t) n) as (λ b. AllFollow r (cond b [] going)) [
          | true ↦ tt
          | false ↦ elim (is_over r t now) as (λ b. AllFollow r (cond b [] within)) [
            | true ↦ tt
            | false ↦ elim (nat_lt (front r t + limits.window) n) as (λ b. nat_lt (front r t + limits.window) n ≡ b
                → AllFollow r (cond b [] taken)) [
                  | true ↦ λ e. tt
                  | false ↦ λ e. (near n t e, tt)
                ] refl
          ]
        ]

-- a record of a message without a payload tells of no message
heard-none : (m : Message) → ((p : Payload) → m.body ≡ body.Payload p → ⊥) → (f : Fact) → Heard m f → BringsNone f
heard-none m no_data (Received s i p) h = no_data p h.2
heard-none m no_data (Accepted s p) h = absurd h
heard-none m no_data (Dropped s upto) h = h
heard-none m no_data (Purged s ranges) h = h
heard-none m no_data f h = tt

all-heard : (m : Message) → ((p : Payload) → m.body ≡ body.Payload p → ⊥) → (d : List Fact)
    → AllByRecursion (Heard m) d → AllByRecursion BringsNone d
all-heard m no_data [] h = tt
all-heard m no_data (f ∷ d) h = (heard-none m no_data f h.0, all-heard m no_data d h.1)

body-follows : OnlyHeardIsRecorded → (terms : Terms) (r : List Fact) (now : ℕ) (y : Behaviour) (m : Message)
    → AllFollow (r ++ ack_rows m.acks r) (body_row terms now y m m.body (r ++ ack_rows m.acks r))
body-follows law terms r now y m = by_body m.body refl
  where
    next : List Fact
    next = r ++ ack_rows m.acks r

    heard : AllByRecursion (Heard m) (body_row terms now y m m.body next)
    heard = all-back (Heard m) (ack_rows m.acks r) (body_row terms now y m m.body next) (law terms r now y m)

    plain_ : (b : Body) → m.body ≡ b → ((p : Payload) → b ≡ body.Payload p → ⊥)
        → AllFollow next (body_row terms now y m b next)
    plain_ b e off =
        none-follow next (body_row terms now y m b next)
        (all-heard m (λ p h. off p (sym e ∙ h)) (body_row terms now y m b next)
        (subst (λ z. AllByRecursion (Heard m) (body_row terms now y m z next)) e heard))

    by_body : (b : Body) → m.body ≡ b → AllFollow next (body_row terms now y m b next)
    by_body (body.Payload p) e = data-follows now m.sequence p next
    by_body (body.Lifecycle l) e = plain_ (body.Lifecycle l) e (λ p h. absurd (cc (h)))
    by_body (body.Fault f) e = plain_ (body.Fault f) e (λ p h. absurd (cc (h)))
    by_body body.Empty e = plain_ body.Empty e (λ p h. absurd (cc (h)))

rows-follow : OnlyHeardIsRecorded → (terms : Terms) (r : List Fact) (now : ℕ) (y : Behaviour) (m : Message)
    → AllFollow r (rows terms now y m r)
rows-follow law terms r now y m =
    follow-join r (ack_rows m.acks r) (body_row terms now y m m.body (r ++ ack_rows m.acks r))
    (none-follow r (ack_rows m.acks r) (acks-none m.acks r)) (body-follows law terms r now y m)

receive-follows : OnlyHeardIsRecorded → (terms : Terms) (x : Node) (content : Result Message Refusal)
    → Follows (records x) (received_by terms x content)
receive-follows law terms x (Err refused) = no-records (records x) (received_by terms x (Err refused)) refl
receive-follows law terms x (Ok m) = by_verdict (verdict terms (records x) (node_end terms x) x.clock x.granted m)
  where
    by_verdict : (v : Option FaultKind)
        → Follows (records x) (polls x.polled (Ok m) (judged terms (records x) x.clock x.granted m v))
    by_verdict None = record { all = rows-follow law terms (records x) x.clock x.granted m }
    by_verdict (Some kind) = record { all = tt }

-- ---- a node

-- what a call that failed was writing may come next
abbrev pub NextFollows : List Fact → State → Type 0
NextFollows r (Writing d) = AllFollow r d
NextFollows r _ = Unit {0}

-- the node is near, and stays so when it is mounted again
pub record StaysNear (x : Node) : Type 0 where
  pub here : IsNear (records x)
  pub next : NextFollows (records x) x.state

-- the records of a node are those of a list that is right
record IsRight (r : List Fact) : Type 0 where
  fit : all_fit [] r ≡ true
  proper : HaveProper r

right-at : (terms : Terms) (w : World) (side : Side) → IsSound terms w → IsRight (records (node w side))
right-at terms w side sound =
    let it = (sees terms w side sound).stands in record { fit = it.fit; proper = it.proper }

after-near : NearLaws → (x : Node) (a : Answer) → Follows (records x) a → IsRight (records (after x a))
    → StaysNear x → StaysNear (after x a)
after-near laws x a follows later h = by_state x.state refl later
  where
    batch : (d : List Fact) → AllFollow (records x) d → IsRight (records (with_batch x d)) → x.state ≡ Up
        → StaysNear (with_batch x d)
    batch d all right up =
        let there : records (with_batch x d) ≡ records x ++ d = batch-there x.entries d in
        record {
          here = subst IsNear (sym there) (all-near laws (records x) d
              (subst (λ r. all_fit [] r ≡ true) there right.fit) (subst HaveProper there right.proper) all h.here);
          next = subst (λ z. NextFollows (records (with_batch x d)) z) (sym up) tt;
        }

    wrote : (d : List Fact) → AllFollow (records x) d → IsRight (records (written x d)) → x.state ≡ Up
        → StaysNear (written x d)
    wrote [] all right up = h
    wrote (f ∷ d) all right up =
        elim (is_short 4 x.fuse) as (λ b. IsRight (records (cond b (goes_down x (f ∷ d)) (with_batch x (f ∷ d))))
        → StaysNear (cond b (goes_down x (f ∷ d)) (with_batch x (f ∷ d)))) [
          | true ↦ λ k. record { here = h.here; next = all }
          | false ↦ λ k. batch (f ∷ d) all k up
        ] right

    by_state : (z : State) → x.state ≡ z → IsRight (records (after_by x z a)) → StaysNear (after_by x z a)
    by_state Up up right =
        let it = wrote a.delta follows.all record { fit = right.fit; proper = right.proper } up in
        record { here = it.here; next = it.next }
    by_state (Writing d) up right = h
    by_state (Compacting at) up right = h

mounted-near : NearLaws → (x : Node) (kept : Bool) → IsRight (records x) → IsRight (records (mounted x kept))
    → StaysNear x → StaysNear (mounted x kept)
mounted-near laws x kept now later h = record { here = by_state x.state kept h.next later; next = tt }
  where
    by_state : (z : State) (k : Bool) → NextFollows (records x) z → IsRight (records_in (entries_left z k x.entries))
        → IsNear (records_in (entries_left z k x.entries))
    by_state (Writing d) true next right =
        let there : records_in (x.entries ++ d ∷ []) ≡ records x ++ d = batch-there x.entries d in
        subst IsNear (sym there) (all-near laws (records x) d
        (subst (λ r. all_fit [] r ≡ true) there right.fit) (subst HaveProper there right.proper) next h.here)
    by_state (Compacting at) true next right =
        subst IsNear (sym (records-alone (snapshot (records x))))
        (short-near laws (records x) now.fit now.proper h.here)
    by_state (Writing d) false next right = h.here
    by_state (Compacting at) false next right = h.here
    by_state Up true next right = h.here
    by_state Up false next right = h.here

compact-near : NearLaws → (terms : Terms) (x : Node) → IsRight (records x) → StaysNear x
    → StaysNear (compacted terms x)
compact-near laws terms x now h = by_state x.state refl
  where
    listed : x.state ≡ Up → StaysNear (with_list terms x)
    listed up = record {
      here = subst IsNear (sym (records-alone (snapshot (records x))))
          (short-near laws (records x) now.fit now.proper h.here);
      next = subst (λ z. NextFollows (records (with_list terms x)) z) (sym up) tt;
    }

    by_state : (z : State) → x.state ≡ z → StaysNear (compacted_by terms x z)
    by_state Up up =
        elim (may_compact terms x) as (λ b. StaysNear (cond b (rewritten terms x) x)) [
          | true ↦ elim (is_short 5 x.fuse) as (λ b. StaysNear
              (cond b (stops_compacting terms x) (with_list terms x))) [
                | true ↦ record { here = h.here; next = tt }
                | false ↦ listed up
              ]
          | false ↦ h
        ]
    by_state (Writing d) up = h
    by_state (Compacting at) up = h

-- ---- each event keeps it

-- both nodes are so
abbrev pub BothNear : World → Type 0
BothNear w = (side : Side) → StaysNear (node w side)

calls-near : NearLaws → (terms : Terms) (w : World) (side : Side) (connected : Bool) (a : Answer)
    → Follows (records (node w side)) a → IsRight (records (node (calls terms w side connected a) side)) → BothNear w
    → BothNear (calls terms w side connected a)
calls-near laws terms w One connected a follows later h One = after-near laws w.one a follows later (h One)
calls-near laws terms w One connected a follows later h Two = h Two
calls-near laws terms w Two connected a follows later h One = h One
calls-near laws terms w Two connected a follows later h Two = after-near laws w.two a follows later (h Two)

node-near : (w : World) (side : Side) (x : Node) → BothNear w → StaysNear x → BothNear (with_node w side x)
node-near w One x h k One = k
node-near w One x h k Two = h Two
node-near w Two x h k One = h One
node-near w Two x h k Two = k

tick-near : NearLaws → (terms : Terms) (w : World) (side : Side) (now : ℕ)
    → IsSound terms (happens terms w (Tick side now)) → BothNear w → BothNear (happens terms w (Tick side now))
tick-near laws terms w One now later h =
    calls-near laws terms (with_node w One (with_clock w.one now)) One false
    (tick terms (records w.one) (node_end terms w.one) now w.one.time w.one.waits)
    (tick-follows terms (records w.one) (node_end terms w.one) now (first_due (max w.one.time now) w.one.waits))
    (right-at terms (happens terms w (Tick One now)) One later)
    (node-near w One (with_clock w.one now) h (record { here = (h One).here; next = (h One).next }))
tick-near laws terms w Two now later h =
    calls-near laws terms (with_node w Two (with_clock w.two now)) Two false
    (tick terms (records w.two) (node_end terms w.two) now w.two.time w.two.waits)
    (tick-follows terms (records w.two) (node_end terms w.two) now (first_due (max w.two.time now) w.two.waits))
    (right-at terms (happens terms w (Tick Two now)) Two later)
    (node-near w Two (with_clock w.two now) h (record { here = (h Two).here; next = (h Two).next }))

arrives-near : NearLaws → OnlyHeardIsRecorded → (terms : Terms) (w : World) (o : Option Packet)
    → IsSound terms (arrives terms w o) → BothNear w → BothNear (arrives terms w o)
arrives-near laws heard terms w None later h = h
arrives-near laws heard terms w (Some p) later h =
    calls-near laws terms w (other p.from) true (received_by terms (node w (other p.from)) (terms.read p.message))
    (receive-follows heard terms (node w (other p.from)) (terms.read p.message))
    (right-at terms (arrives terms w (Some p)) (other p.from) later) h

mounted-both : NearLaws → (terms : Terms) (w : World) (side : Side) (kept : Bool) → IsSound terms w
    → IsSound terms (happens terms w (Crash side kept)) → BothNear w → BothNear (happens terms w (Crash side kept))
mounted-both laws terms w One kept sound later h =
    node-near w One (mounted w.one kept) h (mounted-near laws w.one kept (right-at terms w One sound)
    (right-at terms (happens terms w (Crash One kept)) One later) (h One))
mounted-both laws terms w Two kept sound later h =
    node-near w Two (mounted w.two kept) h (mounted-near laws w.two kept (right-at terms w Two sound)
    (right-at terms (happens terms w (Crash Two kept)) Two later) (h Two))

step-near : NearLaws → OnlyHeardIsRecorded → (terms : Terms) (w : World) (event : Event) → IsSound terms w
    → IsSound terms (happens terms w event) → BothNear w → BothNear (happens terms w event)
step-near laws heard terms w (Create side via expires offer) sound later h =
    calls-near laws terms w side false _
    (create-follows terms (records (node w side)) (node_end terms (node w side)) (wish_of w side via expires offer))
    (right-at terms (happens terms w (Create side via expires offer)) side later) h
step-near laws heard terms w (Send side seq text) sound later h =
    calls-near laws terms w side false _
    (send-follows terms (records (node w side)) (node_end terms (node w side)) seq text)
    (right-at terms (happens terms w (Send side seq text)) side later) h
step-near laws heard terms w (Close side seq) sound later h =
    calls-near laws terms w side false _
    (close-follows terms (records (node w side)) (node_end terms (node w side)) seq (node w side).clock)
    (right-at terms (happens terms w (Close side seq)) side later) h
step-near laws heard terms w (End side seq) sound later h =
    calls-near laws terms w side false _
    (end-follows terms (records (node w side)) (node_end terms (node w side)) seq)
    (right-at terms (happens terms w (End side seq)) side later) h
step-near laws heard terms w (Ask side seq) sound later h =
    calls-near laws terms w side false _
    (ask-follows (records (node w side)) seq)
    (right-at terms (happens terms w (Ask side seq)) side later) h
step-near laws heard terms w (Nack side seq) sound later h =
    calls-near laws terms w side false _
    (nack-follows (records (node w side)) seq (node w side).clock)
    (right-at terms (happens terms w (Nack side seq)) side later) h
step-near laws heard terms w (Noise side refused) sound later h =
    calls-near laws terms w side true _
    (receive-follows heard terms (node w side) (Err refused))
    (right-at terms (happens terms w (Noise side refused)) side later) h
step-near laws heard terms w (Poll side) sound later h =
    calls-near laws terms w side false _
    (no-records (records (node w side)) (poll (records (node w side)) (place w (other side))) refl)
    (right-at terms (happens terms w (Poll side)) side later) h
step-near laws heard terms w (Consume side seq upto) sound later h =
    calls-near laws terms w side false _
    (consume-follows terms (records (node w side)) (node_end terms (node w side)) seq upto)
    (right-at terms (happens terms w (Consume side seq upto)) side later) h
step-near laws heard terms w (Grant side y) sound later h =
    node-near w side (record (node w side) { granted = y }) h (record { here = (h side).here; next = (h side).next })
step-near laws heard terms w (Tick side now) sound later h = tick-near laws terms w side now later h
step-near laws heard terms w (Deliver k) sound later h =
    arrives-near laws heard terms w (numbered w.packets k) later h
step-near laws heard terms w (Arm side c) sound later h =
    node-near w side (record (node w side) { fuse = armed c (node w side).fuse }) h
    (record { here = (h side).here; next = (h side).next })
step-near laws heard terms w (Crash side kept) sound later h = mounted-both laws terms w side kept sound later h
step-near laws heard terms w (Compact side) sound later h =
    node-near w side (compacted terms (node w side)) h
    (compact-near laws terms (node w side) (right-at terms w side sound) (h side))

pub run-near : NearLaws → OnlyHeardIsRecorded → StaysSound → (terms : Terms) (events : List Event) (w : World)
    → AreTerms terms → IsSound terms w → BothNear w → BothNear (run terms events w)
run-near laws heard sound_ terms [] w t sound h = h
run-near laws heard sound_ terms (x ∷ xs) w t sound h =
    let next = sound_ terms w x t sound in
    run-near laws heard sound_ terms xs (happens terms w x) t next (step-near laws heard terms w x sound next h)

made-near : (n : ℕ) (at : Text) → IsNear (Made n at ∷ [])
made-near n at = record { few = λ s. omega arith; near = λ t k has. absurd (cc (has)) }

pub start-near : (one two : Text) (side : Side) → StaysNear (node (start one two) side)
start-near one two One = record { here = made-near 1 one; next = tt }
start-near one two Two = record { here = made-near 2 two; next = tt }
