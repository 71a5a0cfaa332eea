-- What the lines of a round say has no Nack: so it is enough that what was on its way before has none.
use Rattle.std.proofs.Common.{◌≡◌, ◌⊎◌, ℕ, zero, suc, ◌+◌, ◌≤◌, max, cond, Bool, true, false}
use Rattle.std.proofs.Common.{List, [], ◌∷◌, ◌++◌, map, filter, refl, sym, ap, ◌∙◌, subst, inl, inr}
use Rattle.std.proofs.Common.{append-nil, append_assoc}
use Rattle.std.specs.Prelude.{Option, Some, None, Result, Ok, Err, codes, slice_get}
use Rattle.std.specs.List.{AllByRecursion}
use Rattle.std.specs.Option.{option_to_list}
use Rattle.rm_base.specs.Numbered.{numbered}
use Rattle.rm_base.specs.NumberSet.{has_number}
use Rattle.rm_message.specs.declared.elements.header.AckBlock.{AckBlock}
use Rattle.rm_message.specs.declared.elements.header.SeqHeader.{SeqHeader}
use Rattle.rm_message.specs.declared.elements.lifecycle.Lifecycle.{Lifecycle}
use Rattle.rm_message.specs.declared.elements.lifecycle.Lifecycle.TheVariants as life
use Rattle.rm_message.specs.declared.message.Body.{Body}
use Rattle.rm_message.specs.declared.message.Body.TheVariants as body
use Rattle.rm_message.specs.declared.message.Message.{Message}
use Rattle.rm_message.specs.declared.refusal.FaultKind.{FaultKind}
use Rattle.rm_message.specs.declared.refusal.FaultKind.TheVariants.{SequenceClosed}
use Rattle.rm_message.specs.declared.refusal.Refusal.{Refusal}
use Rattle.rm_sides.specs.declared.ranges.range.Range.{Range}
use Rattle.rm_sides.specs.declared.source.phase.OutPhase.{OutPhase}
use Rattle.rm_sides.specs.declared.source.phase.OutPhase.TheVariants as out
use Rattle.rm_sides.specs.Destination.Messages.{ranges_onto}
use Rattle.timers.specs.declared.slots.timers.Key.{Key}
use Rattle.timers.specs.Keys.Waits.{first_due}
use Rattle.wsa_headers.specs.declared.addressing.Addressing.{Addressing}
use Rattle.wsa_headers.specs.declared.endpoint.Epr.{Epr}
use Rattle.record_batch.specs.Fact.{Fact}
use Rattle.record_batch.specs.Sequences.Words.{Text}
use Rattle.record_batch.specs.Sequences.Makers.{Maker, Incoming, Offered, Outgoing, Taken, maker, makers}
use Rattle.record_batch.specs.Sequences.Sources.{is_sending, out_ident, payload_at, phase}
use Rattle.record_batch.specs.Sequences.Destinations.{held}
use Rattle.record_batch.specs.Sequences.Find.{acks_to, find_incoming, peer}
use Rattle.rm_protocol.specs.Addresses.{is_anonymous, place_of, reply_endpoint}
use Rattle.rm_protocol.specs.Calls.{Answer, block_at, block_by, expired_from, fault_block, judged, message_at}
use Rattle.rm_protocol.specs.Calls.{messages_at, receive, refusal_of, tick, tick_with, ticked}
use Rattle.rm_protocol.specs.Messages.{ack_message, block_of, create_request, data_by, finish_request}
use Rattle.rm_protocol.specs.Messages.{kind_of}
use Rattle.rm_protocol.specs.Messages.{request_by}
use Rattle.rm_protocol.specs.Node.{Node, State, Up, Writing, Compacting, after, after_by, fetched_after, fetched_by}
use Rattle.rm_protocol.specs.Node.{fetched_message, is_short, node_end, polled_with, records, said_after, said_by}
use Rattle.rm_protocol.specs.Node.{said_with}
use Rattle.rm_protocol.specs.PollLemmas.{AllWaiting, IsOfReplies, blocks-all, fetched-all, outs-all, polled_after-all}
use Rattle.rm_protocol.specs.Polls.{blocks_back, polled_after, polls}
use Rattle.rm_protocol.specs.Rows.{rows}
use Rattle.rm_protocol.specs.Said.{Ack, ack_of, ack_to, acks_said, answered, ask_ack, ask_acks, back_blocks}
use Rattle.rm_protocol.specs.Said.{back_message, create_response, data_acks, data_ident, find_grant_of, finish_response}
use Rattle.rm_protocol.specs.Said.{found_in, given_with, grant_response, leaves, own_messages, responses, said}
use Rattle.rm_protocol.specs.Said.{sent_of}
use Rattle.rm_protocol.specs.Said.{with_blocks}
use Rattle.rm_protocol.specs.Terms.{AreTerms, Terms, header_blocks}
use Rattle.rm_protocol.specs.Verdict.{has_room, verdict}
use Rattle.rm_protocol.specs.Waiting.{nacked_of}
use Rattle.rm_protocol.specs.World.{Deliver, Event, One, Packet, Side, Tick, Two, World, arrives, calls, happens}
use Rattle.rm_protocol.specs.World.{messages_in, node, other, puts, received_by, run, sent, with_clock, with_node}
use Rattle.rm_arrival.specs.Fair.{IsFair, IsOpen, moment}
use Rattle.rm_arrival.specs.Rounds.{AreQuiet, AreTurns, HasNoNack, NamesNoneMissing, NoNackWaits, run_rounds}
use Rattle.rm_arrival.proofs.MemberLemmas.{all-at, numbered-next}

-- ---- lists

all-join : {A : Type 0} (P : A → Type 0) (xs ys : List A) → AllByRecursion P xs → AllByRecursion P ys
    → AllByRecursion P (xs ++ ys)
all-join P [] ys h k = k
all-join P (x ∷ xs) ys h k = (h.0, all-join P xs ys h.1 k)

all-filter : {A : Type 0} (P : A → Type 0) (f : A → Bool) (xs : List A) → AllByRecursion P xs
    → AllByRecursion P (filter f xs)
all-filter P f [] h = tt
all-filter P f (x ∷ xs) h =
    let rest = all-filter P f xs h.1 in
    elim (f x) as (λ b. AllByRecursion P (cond b (x ∷ filter f xs) (filter f xs))) [
      | true ↦ (h.0, rest)
      | false ↦ rest
    ]

-- ---- what is said has no Nack

kind-plain : (ranges : List Range) → nacked_of (kind_of ranges) ≡ []
kind-plain [] = refl
kind-plain (range ∷ ranges) = refl

block-plain : (r : List Fact) (s : ℕ) (q : Text) (now : ℕ) → NamesNoneMissing (block_of r s q now)
block-plain r s q now = kind-plain (ranges_onto [] (held r s))

data-calm : (to : Option Epr) (q : Option Text) (i : ℕ) (p : Option Text)
    → AllByRecursion HasNoNack (option_to_list (data_by to q i p))
data-calm None q i p = tt
data-calm (Some to) None i p = tt
data-calm (Some to) (Some q) i None = tt
data-calm (Some to) (Some q) i (Some p) = (tt, tt)

created-calm : (r : List Fact) (s : ℕ) (m : Option Maker)
    → AllByRecursion HasNoNack (option_to_list (create_request r s m))
created-calm r s None = tt
created-calm r s (Some (Outgoing ticket to via lapse)) = (tt, tt)
created-calm r s (Some (Offered ticket counter to behaviour)) = tt
created-calm r s (Some (Incoming counter message_id acks_to behaviour deadline lapse)) = tt
created-calm r s (Some (Taken message_id ident endpoint)) = tt

request-calm : (r : List Fact) (s : ℕ) (p : OutPhase)
    → AllByRecursion HasNoNack (option_to_list (request_by r s p))
request-calm r s out.Creating = created-calm r s (maker r s)
request-calm r s out.Closing = closing (peer r s) (out_ident r s)
  where
    closing : (to : Option Epr) (q : Option Text)
        → AllByRecursion HasNoNack
        (option_to_list (finish_request r s to q (codes "CloseSequence") life.Close))
    closing None q = tt
    closing (Some to) None = tt
    closing (Some to) (Some q) = (tt, tt)
request-calm r s out.Ending = ending (peer r s) (out_ident r s)
  where
    ending : (to : Option Epr) (q : Option Text)
        → AllByRecursion HasNoNack
        (option_to_list (finish_request r s to q (codes "TerminateSequence") life.Terminate))
    ending None q = tt
    ending (Some to) None = tt
    ending (Some to) (Some q) = (tt, tt)
request-calm r s p = tt

messages-calm : (r : List Fact) (keys : List Key) → AllByRecursion HasNoNack (messages_at r keys)
messages-calm r [] = tt
messages-calm r (k ∷ keys) =
    all-join HasNoNack (option_to_list (message_at r k.seq k.number)) (messages_at r keys) (at k.seq k.number)
    (messages-calm r keys)
  where
    at : (s i : ℕ) → AllByRecursion HasNoNack (option_to_list (message_at r s i))
    at s zero = request-calm r s (phase r s)
    at s (suc i) = data-calm (peer r s) (out_ident r s) (suc i) (payload_at r s (suc i))

-- an answer says and fetches nothing with a Nack
record IsCalm (a : Answer) : Type 0 where
  outs : AllByRecursion HasNoNack a.outs
  fetched : AllByRecursion HasNoNack (fetched_message a.fetched)

tick-calm : (terms : Terms) (r : List Fact) (at now : ℕ) (keys : List Key) → IsCalm (tick_with terms r at now keys)
tick-calm terms r at now keys =
    let gone = expired_from r now 0 (makers r) in
    elim (has_room terms at gone) as (λ b. IsCalm (cond b (ticked r now keys gone) (ticked r now keys []))) [
      | true ↦ record { outs = messages-calm (r ++ gone) keys; fetched = tt }
      | false ↦ record { outs = messages-calm (r ++ []) keys; fetched = tt }
    ]

-- the acknowledgement says of no number that it is missing
abbrev AckCalm : Ack → Type 0
AckCalm ack = NamesNoneMissing ack.1

to-plain : (o : Option Epr) (block : AckBlock) → NamesNoneMissing block → AllByRecursion AckCalm (ack_to o block)
to-plain None block h = tt
to-plain (Some to) block h = (h, tt)

of-plain : (r : List Fact) (now : ℕ) (q : Text) (o : Option ℕ)
    → AllByRecursion AckCalm (ack_of r now q o)
of-plain r now q None = tt
of-plain r now q (Some s) = to-plain (acks_to r s) (block_of r s q now) (block-plain r s q now)

data-plain : (r : List Fact) (now : ℕ) (o : Option Text) → AllByRecursion AckCalm (data_acks r now o)
data-plain r now None = tt
data-plain r now (Some q) = of-plain r now q (find_incoming r q)

ask-plain : (r : List Fact) (now : ℕ) (given : List ℕ) (q : Text) (o : Option ℕ)
    → AllByRecursion AckCalm (ask_ack r now given q o)
ask-plain r now given q None = tt
ask-plain r now given q (Some s) =
    elim (has_number given s) as (λ b. AllByRecursion AckCalm (cond b [] (ack_of r now q (Some s)))) [
      | true ↦ tt
      | false ↦ of-plain r now q (Some s)
    ]

asks-plain : (r : List Fact) (now : ℕ) (given : List ℕ) (qs : List Text)
    → AllByRecursion AckCalm (ask_acks r now given qs)
asks-plain r now given [] = tt
asks-plain r now given (q ∷ qs) =
    all-join AckCalm (ask_ack r now given q (find_incoming r q))
    (ask_acks r now (given_with (find_incoming r q) given) qs) (ask-plain r now given q (find_incoming r q))
    (asks-plain r now (given_with (find_incoming r q) given) qs)

blocks-plain : (acks : List Ack) → AllByRecursion AckCalm acks
    → AllByRecursion NamesNoneMissing (back_blocks acks)
blocks-plain [] h = tt
blocks-plain (ack ∷ acks) h =
    let rest = blocks-plain acks h.1 in
    elim (is_anonymous ack.0.address) as (λ b. AllByRecursion NamesNoneMissing
    (cond b (ack.1 ∷ back_blocks acks) (back_blocks acks))) [
      | true ↦ (h.0, rest)
      | false ↦ rest
    ]

back-calm : (acks : List Ack) → AllByRecursion AckCalm acks
    → AllByRecursion HasNoNack (back_message acks)
back-calm [] h = tt
back-calm (ack ∷ acks) h =
    let rest = back-calm acks h.1 in
    let blocks = blocks-plain acks h.1 in
    elim (is_anonymous ack.0.address) as (λ b. AllByRecursion HasNoNack
    (cond b (ack_message ack.0 (ack.1 ∷ back_blocks acks) ∷ []) (back_message acks))) [
      | true ↦ ((h.0, blocks), tt)
      | false ↦ rest
    ]

own-calm : (acks : List Ack) → AllByRecursion AckCalm acks
    → AllByRecursion HasNoNack (own_messages acks)
own-calm [] h = tt
own-calm (ack ∷ acks) h =
    let rest = own-calm acks h.1 in
    elim (is_anonymous ack.0.address) as (λ b. AllByRecursion HasNoNack
    (cond b (own_messages acks) (ack_message ack.0 (ack.1 ∷ []) ∷ own_messages acks))) [
      | true ↦ rest
      | false ↦ ((h.0, tt), rest)
    ]

answered-calm : (ms : List Message) (acks : List Ack) → AllByRecursion HasNoNack ms
    → AllByRecursion AckCalm acks → AllByRecursion HasNoNack (answered ms acks)
answered-calm [] acks h k =
    all-join HasNoNack (back_message acks) (own_messages acks) (back-calm acks k) (own-calm acks k)
answered-calm (m ∷ ms) acks h k =
    let own = all-join HasNoNack ms (own_messages acks) h.1 (own-calm acks k) in
    elim (is_anonymous m.addressing.to) as (λ b. AllByRecursion HasNoNack
    (cond b (with_blocks m (back_blocks acks) ∷ ms ++ own_messages acks)
    (back_message acks ++ (m ∷ ms ++ own_messages acks)))) [
      | true ↦ (all-join NamesNoneMissing m.acks (back_blocks acks) h.0 (blocks-plain acks k), own)
      | false ↦ all-join HasNoNack (back_message acks) (m ∷ ms ++ own_messages acks) (back-calm acks k) (h.0, own)
    ]

granted-calm : (r : List Fact) (to : Epr) (t : Text) (s : ℕ) (m : Option Maker)
    → AllByRecursion HasNoNack (grant_response r to t s m)
granted-calm r to t s None = tt
granted-calm r to t s (Some (Incoming counter message_id acks_to behaviour deadline lapse)) = (tt, tt)
granted-calm r to t s (Some (Outgoing ticket to_ via lapse)) = tt
granted-calm r to t s (Some (Offered ticket counter to_ behaviour)) = tt
granted-calm r to t s (Some (Taken message_id ident endpoint)) = tt

response-calm : (r : List Fact) (to : Epr) (t : Option Text) (s : Option ℕ)
    → AllByRecursion HasNoNack (create_response r to t s)
response-calm r to None s = tt
response-calm r to (Some t) None = tt
response-calm r to (Some t) (Some s) = granted-calm r to t s (maker r s)

finished-calm : (r : List Fact) (now : ℕ) (a : Addressing) (q name : Text) (content : Lifecycle) (o : Option ℕ)
    → AllByRecursion HasNoNack (finish_response r now a q name content o)
finished-calm r now a q name content None = tt
finished-calm r now a q name content (Some s) = ((block-plain r s q now, tt), tt)

responses-calm : (r : List Fact) (now : ℕ) (a : Addressing) (b : Body)
    → AllByRecursion HasNoNack (responses r now a b)
responses-calm r now a (body.Lifecycle (life.Create c)) =
    response-calm r (reply_endpoint a) a.message_id (find_grant_of r a.message_id)
responses-calm r now a (body.Lifecycle (life.Close f)) =
    finished-calm r now a f.ident (codes "CloseSequenceResponse") (life.CloseResponse f.ident)
    (find_incoming r f.ident)
responses-calm r now a (body.Lifecycle (life.Terminate f)) =
    finished-calm r now a f.ident (codes "TerminateSequenceResponse") (life.TerminateResponse f.ident)
    (find_incoming r f.ident)
responses-calm r now a b = tt

said-calm : (r : List Fact) (now : ℕ) (m : Message) → AllByRecursion HasNoNack (said r now m)
said-calm r now m =
    answered-calm (responses r now m.addressing m.body) (acks_said r now m) (responses-calm r now m.addressing m.body)
    (all-join AckCalm (data_acks r now (data_ident m.sequence m.body))
    (ask_acks r now (given_with (found_in r (data_ident m.sequence m.body)) []) m.asks)
    (data-plain r now (data_ident m.sequence m.body))
    (asks-plain r now (given_with (found_in r (data_ident m.sequence m.body)) []) m.asks))

none-header : (kind : FaultKind) → AllByRecursion NamesNoneMissing (header_blocks kind None)
none-header SequenceClosed = tt
none-header kind = tt

by-plain : (r : List Fact) (now : ℕ) (q : Text) (o : Option ℕ)
    → AllByRecursion NamesNoneMissing (option_to_list (block_by r now q o))
by-plain r now q None = tt
by-plain r now q (Some s) = (block-plain r s q now, tt)

at-plain : (r : List Fact) (now : ℕ) (o : Option SeqHeader)
    → AllByRecursion NamesNoneMissing (option_to_list (block_at r now o))
at-plain r now None = tt
at-plain r now (Some h) = by-plain r now h.ident (find_incoming r h.ident)

fault-plain : (r : List Fact) (now : ℕ) (m : Message) (kind : FaultKind)
    → AllByRecursion NamesNoneMissing (header_blocks kind (fault_block r now m kind))
fault-plain r now m SequenceClosed = at-plain r now m.sequence
fault-plain r now m kind = tt

replies : IsOfReplies HasNoNack
replies = record {
  pending = λ m more h. h;
  blocks = λ m outs h k.
      all-join NamesNoneMissing m.acks (blocks_back outs) h (blocks-all HasNoNack NamesNoneMissing (λ x p. p) outs k);
}

polls-calm : (x : Node) (content : Result Message Refusal) (a : Answer)
    → AllWaiting HasNoNack x.polled → AllByRecursion HasNoNack a.outs
    → IsCalm (polls x.polled content a)
polls-calm x content a waits said_ = record {
  outs = outs-all HasNoNack x.polled content a said_;
  fetched = fetched-all HasNoNack replies x.polled content a waits said_;
}

receive-calm : (terms : Terms) (x : Node) (content : Result Message Refusal) → AreTerms terms
    → AllWaiting HasNoNack x.polled → IsCalm (received_by terms x content)
receive-calm terms x (Err refused) t waits =
    polls-calm x (Err refused) (receive terms (records x) (node_end terms x) x.clock x.granted (Err refused)) waits
    (subst (λ z. AllByRecursion NamesNoneMissing z) (sym (t.fault refused None).acks) (none-header refused.kind), tt)
receive-calm terms x (Ok m) t waits =
    polls-calm x (Ok m) (receive terms (records x) (node_end terms x) x.clock x.granted (Ok m)) waits
    (by_verdict (verdict terms (records x) (node_end terms x) x.clock x.granted m))
  where
    by_verdict : (v : Option FaultKind)
        → AllByRecursion HasNoNack (judged terms (records x) x.clock x.granted m v).outs
    by_verdict None = said-calm (records x ++ rows terms x.clock x.granted m (records x)) x.clock m
    by_verdict (Some kind) = (
      subst (λ z. AllByRecursion NamesNoneMissing z)
          (sym (t.fault (refusal_of m kind) (fault_block (records x) x.clock m kind)).acks)
          (fault-plain (records x) x.clock m kind),
      tt,
    )

-- ---- a call

with-calm : (fuse : Option ℕ) (d : List Fact) (ms : List Message) → AllByRecursion HasNoNack ms
    → AllByRecursion HasNoNack (said_with fuse d ms)
with-calm fuse [] ms h = h
with-calm fuse (f ∷ d) ms h = elim (is_short 4 fuse) as (λ b. AllByRecursion HasNoNack (cond b [] ms)) [
  | true ↦ tt
  | false ↦ h
]

-- what leaves the node, and what waits there then
record LeavesCalm (x : Node) (connected : Bool) (a : Answer) : Type 0 where
  leaving : AllByRecursion HasNoNack (fetched_after x a ++ sent_of connected (said_after x a))
  polled : AllWaiting HasNoNack (after x a).polled

leaves-calm : (x : Node) (connected : Bool) (a : Answer) → AllWaiting HasNoNack x.polled → IsCalm a
    → LeavesCalm x connected a
leaves-calm x connected a waits calm = record {
  leaving = all-join HasNoNack (fetched_after x a) (sent_of connected (said_after x a)) (fetched_ x.state)
      (all-filter HasNoNack (λ (m : Message). leaves connected (place_of m.addressing.to)) (said_after x a)
      (said_ x.state));
  polled = polled_ x.state;
}
  where
    fetched_ : (z : State) → AllByRecursion HasNoNack (fetched_by x z a)
    fetched_ Up = with-calm x.fuse a.delta (fetched_message a.fetched) calm.fetched
    fetched_ (Writing d) = tt
    fetched_ (Compacting at) = tt

    said_ : (z : State) → AllByRecursion HasNoNack (said_by x z a)
    said_ Up = with-calm x.fuse a.delta a.outs calm.outs
    said_ (Writing d) = tt
    said_ (Compacting at) = tt

    new : AllWaiting HasNoNack (polled_after x.polled a)
    new = polled_after-all HasNoNack x.polled a waits calm.outs

    by_delta : (d : List Fact) → AllWaiting HasNoNack (polled_with x.fuse d x.polled (polled_after x.polled a))
    by_delta [] = new
    by_delta (f ∷ d) = elim (is_short 4 x.fuse) as (λ b. AllWaiting HasNoNack
        (cond b x.polled (polled_after x.polled a))) [
          | true ↦ waits
          | false ↦ new
        ]

    polled_ : (z : State) → AllWaiting HasNoNack (after_by x z a).polled
    polled_ Up = by_delta a.delta
    polled_ (Writing d) = waits
    polled_ (Compacting at) = waits

-- ---- what was said since then

-- of all packets these were there before, and each other one has no Nack; nor has one that waits
pub record CalmSince (old : List Packet) (u : World) : Type 0 where
  pub rest : List Packet
  pub are : u.packets ≡ old ++ rest
  pub calm : AllByRecursion (λ (p : Packet). HasNoNack p.message) rest
  pub waits : NoNackWaits u

record PutCalm (old new : List Packet) : Type 0 where
  rest : List Packet
  are : new ≡ old ++ rest
  calm : AllByRecursion (λ (p : Packet). HasNoNack p.message) rest

puts-calm : (terms : Terms) (old rest more : List Packet)
    → AllByRecursion (λ (p : Packet). HasNoNack p.message) rest
    → AllByRecursion (λ (p : Packet). HasNoNack p.message) more
    → PutCalm old (puts terms (old ++ rest) more)
puts-calm terms old rest [] h k = record { rest = rest; are = refl; calm = h }
puts-calm terms old rest (p ∷ more) h k =
    elim (terms.takes (messages_in (old ++ rest)) p.message) as (λ b.
    PutCalm old (puts terms (cond b ((old ++ rest) ++ p ∷ []) (old ++ rest)) more)) [
      | true ↦ subst (λ z. PutCalm old (puts terms z more)) (sym (append_assoc old rest (p ∷ [])))
          (puts-calm terms old (rest ++ p ∷ []) more
          (all-join (λ (x : Packet). HasNoNack x.message) rest (p ∷ []) h (k.0, tt)) k.1)
      | false ↦ puts-calm terms old rest more h k.1
    ]

sent-calm : (side : Side) (ms : List Message) → AllByRecursion HasNoNack ms
    → AllByRecursion (λ (p : Packet). HasNoNack p.message) (sent side ms)
sent-calm side [] h = tt
sent-calm side (m ∷ ms) h = (h.0, sent-calm side ms h.1)

put-calm : (terms : Terms) (old packets : List Packet) (side : Side) (ms : List Message) (rest : List Packet)
    → packets ≡ old ++ rest → AllByRecursion (λ (p : Packet). HasNoNack p.message) rest
    → AllByRecursion HasNoNack ms → PutCalm old (puts terms packets (sent side ms))
put-calm terms old packets side ms rest are calm h =
    subst (λ z. PutCalm old (puts terms z (sent side ms))) (sym are)
    (puts-calm terms old rest (sent side ms) calm (sent-calm side ms h))

calls-calm : (terms : Terms) (old : List Packet) (u : World) (side : Side) (connected : Bool) (a : Answer) → IsCalm a
    → CalmSince old u → CalmSince old (calls terms u side connected a)
calls-calm terms old u One connected a calm h =
    let it = leaves-calm u.one connected a (h.waits One) calm in
    let put = put-calm terms old u.packets One _ h.rest h.are h.calm it.leaving in
    record { rest = put.rest; are = put.are; calm = put.calm; waits = waits it.polled }
  where
    waits : AllWaiting HasNoNack (after u.one a).polled → NoNackWaits (calls terms u One connected a)
    waits k One = k
    waits k Two = h.waits Two
calls-calm terms old u Two connected a calm h =
    let it = leaves-calm u.two connected a (h.waits Two) calm in
    let put = put-calm terms old u.packets Two _ h.rest h.are h.calm it.leaving in
    record { rest = put.rest; are = put.are; calm = put.calm; waits = waits it.polled }
  where
    waits : AllWaiting HasNoNack (after u.two a).polled → NoNackWaits (calls terms u Two connected a)
    waits k One = h.waits One
    waits k Two = k

-- ---- the lines of a round

clock-calm : (old : List Packet) (u : World) (side : Side) (now : ℕ) → CalmSince old u
    → CalmSince old (with_node u side (with_clock (node u side) now))
clock-calm old u One now h = record { rest = h.rest; are = h.are; calm = h.calm; waits = waits }
  where
    waits : NoNackWaits (with_node u One (with_clock u.one now))
    waits One = h.waits One
    waits Two = h.waits Two
clock-calm old u Two now h = record { rest = h.rest; are = h.are; calm = h.calm; waits = waits }
  where
    waits : NoNackWaits (with_node u Two (with_clock u.two now))
    waits One = h.waits One
    waits Two = h.waits Two

tick-since : (terms : Terms) (old : List Packet) (u : World) (side : Side) (now : ℕ) → CalmSince old u
    → CalmSince old (happens terms u (Tick side now))
tick-since terms old u side now h =
    let x = node u side in
    calls-calm terms old (with_node u side (with_clock x now)) side false
    (tick terms (records x) (node_end terms x) now x.time x.waits)
    (tick-calm terms (records x) (node_end terms x) now (first_due (max x.time now) x.waits))
    (clock-calm old u side now h)

arrives-since : (terms : Terms) (old : List Packet) (u : World) (o : Option Packet) → AreTerms terms → CalmSince old u
    → CalmSince old (arrives terms u o)
arrives-since terms old u None t h = h
arrives-since terms old u (Some p) t h =
    calls-calm terms old u (other p.from) true
    (received_by terms (node u (other p.from)) (terms.read p.message))
    (receive-calm terms (node u (other p.from)) (terms.read p.message) t (h.waits (other p.from))) h

deliveries-since : (terms : Terms) (old : List Packet) (ks : List ℕ) (u : World) → AreTerms terms → CalmSince old u
    → CalmSince old (run terms (map Deliver ks) u)
deliveries-since terms old [] u t h = h
deliveries-since terms old (k ∷ ks) u t h =
    deliveries-since terms old ks (happens terms u (Deliver k)) t (arrives-since terms old u (numbered u.packets k) t h)

round-since : (terms : Terms) (old : List Packet) (u : World) (round : List Event) → AreTerms terms
    → (fair : IsFair terms u round) → CalmSince old u → CalmSince old (run terms round u)
round-since terms old u round t fair h =
    subst (λ z. CalmSince old (run terms z u)) (sym fair.are)
    (deliveries-since terms old fair.numbers
    (happens terms (happens terms u (Tick One fair.one)) (Tick Two fair.two)) t
    (tick-since terms old (happens terms u (Tick One fair.one)) Two fair.two (tick-since terms old u One fair.one h)))

-- ---- rounds in which no Nack comes

-- one of several rounds, of which it is known that no Nack comes in it
pub record QuietTurn (terms : Terms) (w : World) (round : List Event) (side : Side) (s t : ℕ) : Type 0 where
  pub fair : IsFair terms w round
  pub quiet : AreQuiet (run terms round w).packets fair.numbers
  pub late : (node w side).time + 64000 ≤ moment fair side
  pub sends : is_sending (phase (records (node w side)) s) ≡ true
  pub open_ : IsOpen (records (node (run terms round w) (other side))) t

abbrev pub QuietTurns : Terms → World → Side → ℕ → ℕ → List (List Event) → Type 0
QuietTurns terms w side s t [] = Unit {0}
QuietTurns terms w side s t (round ∷ rounds) =
    QuietTurn terms w round side s t × QuietTurns terms (run terms round w) side s t rounds

-- what has a number is one of the first ones, or is so as the rest
slice-either : {A : Type 0} (P : A → Type 0) (old rest : List A) → AllByRecursion P rest → (k : ℕ) (x : A)
    → slice_get (old ++ rest) k ≡ Some x → (slice_get old k ≡ Some x) ⊎ P x
slice-either P [] rest h k x e = inr (all-at P rest k x h e)
slice-either P (y ∷ old) rest h zero x e = inl e
slice-either P (y ∷ old) rest h (suc k) x e = slice-either P old rest h k x e

numbered-either : {A : Type 0} (P : A → Type 0) (old rest : List A) → AllByRecursion P rest → (k : ℕ) (x : A)
    → numbered (old ++ rest) k ≡ Some x → (numbered old k ≡ Some x) ⊎ P x
numbered-either P old rest h zero x e = absurd (cc)
numbered-either P old rest h (suc k) x e =
    elim (slice-either P old rest h k x (sym (numbered-next (old ++ rest) k) ∙ e)) [
      | inl was ↦ inl (numbered-next old k ∙ was)
      | inr other_ ↦ inr other_
    ]

quiet-now : (old : List Packet) (u : World) (numbers : List ℕ) → CalmSince old u → AreQuiet old numbers
    → AreQuiet u.packets numbers
quiet-now old u numbers h quiet k p has e =
    elim (numbered-either (λ (x : Packet). HasNoNack x.message) old h.rest h.calm k p
    (ap (λ z. numbered z k) (sym h.are) ∙ e)) [
      | inl was ↦ quiet k p has was
      | inr calm ↦ calm
    ]

pub quiet-turns : (terms : Terms) (old : List Packet) (rounds : List (List Event)) (u : World) (side : Side) (s t : ℕ)
    → AreTerms terms → CalmSince old u → AreTurns terms old u side s t rounds → QuietTurns terms u side s t rounds
quiet-turns terms old [] u side s t are h turns = tt
quiet-turns terms old (round ∷ rounds) u side s t are h turns =
    let turn = turns.0 in
    let then = round-since terms old u round are turn.fair h in (
      record {
        fair = turn.fair;
        quiet = quiet-now old (run terms round u) turn.fair.numbers then turn.quiet;
        late = turn.late;
        sends = turn.sends;
        open_ = turn.open_;
      },
      quiet-turns terms old rounds (run terms round u) side s t are then turns.1,
    )

-- before the rounds nothing was said in them
pub calm-at-first : (u : World) → NoNackWaits u → CalmSince u.packets u
calm-at-first u waits = record { rest = []; are = sym (append-nil u.packets); calm = tt; waits = waits }

-- and behind them
pub rounds-since : (terms : Terms) (old : List Packet) (rounds : List (List Event)) (u : World) (side : Side) (s t : ℕ)
    → AreTerms terms → CalmSince old u → AreTurns terms old u side s t rounds
    → CalmSince old (run_rounds terms rounds u)
rounds-since terms old [] u side s t are h turns = h
rounds-since terms old (round ∷ rounds) u side s t are h turns =
    rounds-since terms old rounds (run terms round u) side s t are (round-since terms old u round are turns.0.fair h)
    turns.1
