-- In each world of a run what waits is what waits by the records, and is due soon.
use Rattle.std.proofs.Common.{nat_le, ◌≡◌, ◌⊎◌, ℕ, ◌+◌, ◌-◌, ◌==◌, ◌&&◌, max, nat_lt, not, cond, Bool}
use Rattle.std.proofs.Common.{true, false}
use Rattle.std.proofs.Common.{List, []}
use Rattle.std.proofs.Common.{◌∷◌, ◌++◌}
use Rattle.std.proofs.Common.{length, refl, sym, ap, ◌∙◌, subst, arith, inl, inr, append-nil, append_assoc}
use Rattle.std.specs.Prelude.{Option, Some, None, Result, Ok, Err, slice_get}
use Rattle.std.specs.List.{AllByRecursion}
use Rattle.std.proofs.lemmas.Bool.{and_parts}
use Rattle.std.specs.Option.{option_to_list}
use Rattle.rm_base.specs.Limits as limits
use Rattle.rm_base.specs.Message.{max_number}
use Rattle.rm_base.specs.Numbered.{numbered}
use Rattle.rm_base.specs.declared.message.Cause.TheVariants.{Operator, Expired}
use Rattle.rm_message.specs.declared.message.Message.{Message}
use Rattle.rm_message.specs.declared.refusal.FaultKind.{FaultKind}
use Rattle.rm_message.specs.declared.refusal.Refusal.{Refusal}
use Rattle.rm_sides.specs.Destination.Incoming.{is_past}
use Rattle.timers.specs.declared.slots.timers.Key.{Key}
use Rattle.timers.specs.Keys.Waits.{first_due, has_key}
use Rattle.record_batch.specs.Fact.{Fact, Accepted, Closed, Closing, Consumed, Creating, Ended, Ending, Made}
use Rattle.record_batch.specs.Snapshot.Same.{HaveProper}
use Rattle.record_batch.specs.Snapshot.Snapshot.{snapshot}
use Rattle.record_batch.specs.Sequences.Words.{Text}
use Rattle.record_batch.specs.Sequences.Makers.{Maker, Incoming, Offered, Outgoing, Taken, counter, maker, makers}
use Rattle.record_batch.specs.Sequences.Sources.{accepted_count, all_unacked, out_ident, phase, unacked}
use Rattle.record_batch.specs.Sequences.Destinations.{cursor, deadline_of, has_end, inbox, is_over}
use Rattle.record_batch.specs.Sequences.Find.{peer}
use Rattle.record_batch.specs.Sequences.Fits.{all_fit, fits}
use Rattle.rm_protocol.specs.AloneLemmas.{records-alone}
use Rattle.rm_protocol.specs.Calls.{Answer, Wish, ask_ack, close, consume, create, cursor_to, end, expired_from}
use Rattle.rm_protocol.specs.Calls.{if_room}
use Rattle.rm_protocol.specs.Calls.{ask_out, close_by, close_in, close_out, consume_in, end_out, judged, nack_in}
use Rattle.rm_protocol.specs.Calls.{nack_missing, on_incoming, on_outgoing, send, send_out, tick, tick_with, ticked}
use Rattle.rm_protocol.specs.Calls.{Cause, BadPayload, NoSequence, NodeFull, NotOpen, PastInbox, PayloadTooLong}
use Rattle.rm_protocol.specs.Calls.{Rollover, StoreFull, TooManySequences, WindowFull, WrongSide, adds, ask_to}
use Rattle.rm_protocol.specs.Calls.{final_ack, is_open, made_by, may_end, nack_by, offer_of, refusal, wanted}
use Rattle.rm_protocol.specs.Messages.{data_at, request_at}
use Rattle.rm_protocol.specs.Compact.{compacted, compacted_by, may_compact, rewritten, stops_compacting, with_list}
use Rattle.rm_protocol.specs.Exact.{AreExactly, IsExactAtFirst, StaysExact, StaysExactInShort, WhatBeginsWaits}
use Rattle.rm_protocol.specs.Heard.{Heard}
use Rattle.rm_protocol.specs.Node.{Node, State, Up, Writing, Compacting, after, after_by, armed, goes_down, is_short}
use Rattle.rm_protocol.specs.Node.{mounted, node_end, records, records_in, with_batch, written, entries_left}
use Rattle.rm_protocol.specs.Polls.{poll, polls}
use Rattle.rm_protocol.specs.Recorded.{OnlyHeardIsRecorded}
use Rattle.rm_protocol.specs.Rows.{rows}
use Rattle.rm_protocol.specs.Sound.{IsSound}
use Rattle.rm_protocol.specs.Terms.{AreTerms, Terms}
use Rattle.rm_protocol.specs.Verdict.{has_room, verdict}
use Rattle.rm_protocol.specs.Waiting.{begun_by, begun_of, is_waiting, waits_of}
use Rattle.rm_protocol.specs.World.{Arm, Ask, Close, Compact, Consume, Crash, Create, Deliver, End, Event, Grant, Nack}
use Rattle.rm_protocol.specs.World.{Noise, One, Packet, Poll, Send, Side, Tick, Two, World, arrives, calls, happens}
use Rattle.rm_protocol.specs.World.{node}
use Rattle.rm_protocol.specs.World.{other, place, received_by, run, start, with_clock, with_node, wish_of}
use Rattle.rm_arrival.specs.Runs.{WaitsRight}
use Rattle.rm_arrival.proofs.NodeLemmas.{batch-there}
use Rattle.rm_arrival.proofs.OnwardLemmas.{StaysSound}
use Rattle.rm_arrival.proofs.TimeLemmas.{waits-timely}
use Rattle.rm_arrival.proofs.ValidLemmas.{sees}

-- the laws of what waits
pub record WaitLaws : Type 0 where
  pub first : IsExactAtFirst
  pub stays : StaysExact
  pub short : StaysExactInShort
  pub begins : WhatBeginsWaits
  pub heard : OnlyHeardIsRecorded

-- ---- what begins to wait with the records of a call

-- no key begins with the record
abbrev pub BeginsNone : Fact → Type 0
BeginsNone f = (r : List Fact) → begun_of r f ≡ []

-- none begins with the records, or they are one record
record IsPlain (d : List Fact) : Type 0 where
  is : (AllByRecursion BeginsNone d) ⊎ ((f : Fact) × (d ≡ f ∷ []))

pub none-begun : (d : List Fact) → AllByRecursion BeginsNone d → (r : List Fact) → begun_by r d ≡ []
none-begun [] h r = refl
none-begun (f ∷ d) h r = ap (λ ks. ks ++ begun_by (r ++ f ∷ []) d) (h.0 r) ∙ none-begun d h.1 (r ++ f ∷ [])

begins-wait : WhatBeginsWaits → (r d : List Fact) → all_fit [] r ≡ true → all_fit r d ≡ true → IsPlain d → (k : Key)
    → has_key (begun_by r d) k ≡ true → is_waiting (r ++ d) k ≡ true
begins-wait law r d fit more plain k h = elim plain.is [
  | inl none ↦ absurd (cc (sym (ap (λ ks. has_key ks k) (none-begun d none r)) ∙ h))
  | inr one ↦
      let f = one.0 in
      let e = one.1 in
      let more_ : all_fit r (f ∷ []) ≡ true = subst (λ z. all_fit r z ≡ true) e more in
      let h_ : has_key (begun_of r f ++ []) k ≡ true = subst (λ z. has_key (begun_by r z) k ≡ true) e h in
      subst (λ z. is_waiting (r ++ z) k ≡ true) (sym e)
      (law r f k fit (and_parts (fits r f) true more_).0
      (subst (λ ks. has_key ks k ≡ true) (append-nil (begun_of r f)) h_))
]

-- the same of an answer's records
record HasPlain (a : Answer) : Type 0 where
  plain : IsPlain a.delta

no-records : (a : Answer) → a.delta ≡ [] → HasPlain a
no-records a e = record { plain = subst IsPlain (sym e) (record { is = inl tt }) }

one-record : (a : Answer) (f : Fact) → a.delta ≡ f ∷ [] → HasPlain a
one-record a f e = record { plain = record { is = inr (f, e) } }

-- refused, or as else
guard : (b : Bool) (cause : Cause) (a : Answer) → HasPlain a → HasPlain (cond b (refusal cause) a)
guard b cause a h = elim b as (λ z. HasPlain (cond z (refusal cause) a)) [
  | true ↦ no-records (refusal cause) refl
  | false ↦ h
]

unless : (b : Bool) (cause : Cause) (a : Answer) → HasPlain a → HasPlain (cond b a (refusal cause))
unless b cause a h = elim b as (λ z. HasPlain (cond z a (refusal cause))) [
  | true ↦ h
  | false ↦ no-records (refusal cause) refl
]

room-plain : (terms : Terms) (at : ℕ) (a : Answer) → HasPlain a → HasPlain (if_room terms at a)
room-plain terms at a h = unless (has_room terms at a.delta) (StoreFull at (terms.size a.delta + 6)) a h

-- one record, where there is room for it
room-one : (terms : Terms) (r : List Fact) (at : ℕ) (f : Fact) (outs : List Fact → List Message)
    → HasPlain (if_room terms at (adds r (f ∷ []) outs))
room-one terms r at f outs = room-plain terms at (adds r (f ∷ []) outs) (one-record (adds r (f ∷ []) outs) f refl)

outgoing-plain : (a : Answer) → HasPlain a → (m : Option Maker) → HasPlain (on_outgoing m a)
outgoing-plain a h None = no-records (refusal NoSequence) refl
outgoing-plain a h (Some (Outgoing ticket to via lapse)) = h
outgoing-plain a h (Some (Taken message_id ident endpoint)) = h
outgoing-plain a h (Some (Incoming counter_ message_id acks_to behaviour deadline lapse)) =
    no-records (refusal WrongSide) refl
outgoing-plain a h (Some (Offered ticket counter_ to behaviour)) = no-records (refusal WrongSide) refl

incoming-plain : (a : Answer) → HasPlain a → (m : Option Maker) → HasPlain (on_incoming m a)
incoming-plain a h None = no-records (refusal NoSequence) refl
incoming-plain a h (Some (Outgoing ticket to via lapse)) = no-records (refusal WrongSide) refl
incoming-plain a h (Some (Taken message_id ident endpoint)) = no-records (refusal WrongSide) refl
incoming-plain a h (Some (Incoming counter_ message_id acks_to behaviour deadline lapse)) = h
incoming-plain a h (Some (Offered ticket counter_ to behaviour)) = h

create-plain : (terms : Terms) (r : List Fact) (at : ℕ) (wish : Wish) → HasPlain (create terms r at wish)
create-plain terms r at wish =
    let f = Creating (counter r + 1) wish.to wish.via wish.expires (offer_of (counter r) wish.offer) in
    let outs = λ (after : List Fact). option_to_list (request_at after (length (makers r) + 1)) in
    guard (nat_lt limits.most_sequences (length (makers r) + wanted wish.offer)) (TooManySequences (length (makers r)))
    (if_room terms at (adds r (f ∷ []) outs)) (room-one terms r at f outs)

send-plain : (terms : Terms) (r : List Fact) (at s : ℕ) (text : Text) → HasPlain (send terms r at s text)
send-plain terms r at s text =
    let f = Accepted s text in
    let outs = λ (after : List Fact). option_to_list (data_at after s (accepted_count r s + 1)) in
    let done = if_room terms at (adds r (f ∷ []) outs) in
    let rolls = cond (nat_le max_number (accepted_count r s)) (refusal Rollover) done in
    let full = cond (nat_le limits.most_unacked (all_unacked r)) (refusal (NodeFull (all_unacked r))) rolls in
    let window_ = cond (nat_le limits.window (unacked r s)) (refusal (WindowFull (unacked r s))) full in
    let shut = cond (not (is_open (phase r s))) (refusal NotOpen) window_ in
    let bad = cond (not (terms.is_content text)) (refusal BadPayload) shut in
    outgoing-plain (send_out terms r at s text)
    (guard (nat_lt limits.payload_bytes (length text)) (PayloadTooLong (length text)) bad
    (guard (not (terms.is_content text)) BadPayload shut
    (guard (not (is_open (phase r s))) NotOpen window_
    (guard (nat_le limits.window (unacked r s)) (WindowFull (unacked r s)) full
    (guard (nat_le limits.most_unacked (all_unacked r)) (NodeFull (all_unacked r)) rolls
    (guard (nat_le max_number (accepted_count r s)) Rollover done (room-one terms r at f outs))))))) (maker r s)

close-plain : (terms : Terms) (r : List Fact) (at s now : ℕ) → HasPlain (close terms r at s now)
close-plain terms r at s now = by_maker (maker r s)
  where
    out_ : HasPlain (close_out terms r at s)
    out_ =
        let f = Closing s (counter r + 1) in
        let outs = λ (after : List Fact). option_to_list (request_at after s) in
        unless (is_open (phase r s)) NotOpen (if_room terms at (adds r (f ∷ []) outs)) (room-one terms r at f outs)

    in_ : HasPlain (close_in terms r at s now)
    in_ =
        let f = Closed s Operator 0 in
        let outs = λ (after : List Fact). final_ack after s now (made_by after (maker after s)) in
        guard (is_over r s now) NotOpen (if_room terms at (adds r (f ∷ []) outs)) (room-one terms r at f outs)

    by_maker : (m : Option Maker) → HasPlain (close_by terms r at s now m)
    by_maker None = no-records (refusal NoSequence) refl
    by_maker (Some (Outgoing ticket to via lapse)) = out_
    by_maker (Some (Taken message_id ident endpoint)) = out_
    by_maker (Some (Incoming counter_ message_id acks_to behaviour deadline lapse)) = in_
    by_maker (Some (Offered ticket counter_ to behaviour)) = in_

end-plain : (terms : Terms) (r : List Fact) (at s : ℕ) → HasPlain (end terms r at s)
end-plain terms r at s =
    let f = Ending s (counter r + 1) in
    let outs = λ (after : List Fact). option_to_list (request_at after s) in
    outgoing-plain (end_out terms r at s)
    (unless (may_end (phase r s)) NotOpen (if_room terms at (adds r (f ∷ []) outs)) (room-one terms r at f outs))
    (maker r s)

ask-plain : (r : List Fact) (s : ℕ) → HasPlain (ask_ack r s)
ask-plain r s =
    let a = adds r [] (λ (after : List Fact). ask_to (peer after s) (out_ident after s)) in
    outgoing-plain (ask_out r s) (unless (may_end (phase r s)) NotOpen a (no-records a refl)) (maker r s)

nack-plain : (r : List Fact) (s now : ℕ) → HasPlain (nack_missing r s now)
nack-plain r s now =
    let a = adds r [] (λ (after : List Fact). nack_by after s (made_by after (maker after s))) in
    incoming-plain (nack_in r s now) (guard (is_over r s now) NotOpen a (no-records a refl)) (maker r s)

consumed-plain : (r : List Fact) (s upto : ℕ) → IsPlain (cursor_to r s upto)
consumed-plain r s upto =
    elim (nat_lt (cursor r s) upto) as (λ b. IsPlain (cond b (Consumed s upto ∷ []) [])) [
      | true ↦ record { is = inr (Consumed s upto, refl) }
      | false ↦ record { is = inl tt }
    ]

consume-plain : (terms : Terms) (r : List Fact) (at s upto : ℕ) → HasPlain (consume terms r at s upto)
consume-plain terms r at s upto =
    let a = adds r (cursor_to r s upto) (λ (after : List Fact). []) in
    incoming-plain (consume_in terms r at s upto)
    (guard (nat_lt (length (inbox r s)) upto) (PastInbox (length (inbox r s))) (if_room terms at a)
    (room-plain terms at a (record { plain = consumed-plain r s upto }))) (maker r s)

expired-none : (r : List Fact) (now k : ℕ) (ms : List Maker) → AllByRecursion BeginsNone (expired_from r now k ms)
expired-none r now k [] = tt
expired-none r now k (m ∷ ms) =
    let rest = expired-none r now (k + 1) ms in
    elim (is_past (deadline_of (Some m)) now && not (has_end r (k + 1))) as (λ b. AllByRecursion BeginsNone
    (cond b (Ended (k + 1) Expired 0 ∷ expired_from r now (k + 1) ms) (expired_from r now (k + 1) ms))) [
      | true ↦ ((λ z. refl), rest)
      | false ↦ rest
    ]

pub tick-none : (terms : Terms) (r : List Fact) (at now : ℕ) (keys : List Key)
    → AllByRecursion BeginsNone (tick_with terms r at now keys).delta
tick-none terms r at now keys =
    let gone = expired_from r now 0 (makers r) in
    elim (has_room terms at gone) as (λ b. AllByRecursion BeginsNone
    (cond b (ticked r now keys gone) (ticked r now keys [])).delta) [
      | true ↦ expired-none r now 0 (makers r)
      | false ↦ tt
    ]

tick-plain : (terms : Terms) (r : List Fact) (at now : ℕ) (keys : List Key) → HasPlain (tick_with terms r at now keys)
tick-plain terms r at now keys = record { plain = record { is = inl (tick-none terms r at now keys) } }

heard-none : (m : Message) (f : Fact) → Heard m f → BeginsNone f
heard-none m (Accepted s p) h r = absurd h
heard-none m (Creating ticket to via lapse offer) h r = absurd h
heard-none m (Closing s t) h r = absurd h
heard-none m (Ending s t) h r = absurd h
heard-none m _ h r = refl

all-heard : (m : Message) (d : List Fact) → AllByRecursion (Heard m) d → AllByRecursion BeginsNone d
all-heard m [] h = tt
all-heard m (f ∷ d) h = (heard-none m f h.0, all-heard m d h.1)

pub receive-none : OnlyHeardIsRecorded → (terms : Terms) (x : Node) (content : Result Message Refusal)
    → AllByRecursion BeginsNone (received_by terms x content).delta
receive-none law terms x (Err refused) = tt
receive-none law terms x (Ok m) = by_verdict (verdict terms (records x) (node_end terms x) x.clock x.granted m)
  where
    by_verdict : (v : Option FaultKind)
        → AllByRecursion BeginsNone (polls x.polled (Ok m) (judged terms (records x) x.clock x.granted m v)).delta
    by_verdict None =
        all-heard m (rows terms x.clock x.granted m (records x)) (law terms (records x) x.clock x.granted m)
    by_verdict (Some kind) = tt

receive-plain : OnlyHeardIsRecorded → (terms : Terms) (x : Node) (content : Result Message Refusal)
    → HasPlain (received_by terms x content)
receive-plain law terms x content = record { plain = record { is = inl (receive-none law terms x content) } }

-- ---- a call keeps it

all_fit-later : (r d e : List Fact) → all_fit r (d ++ e) ≡ true → all_fit (r ++ d) e ≡ true
all_fit-later r [] e h = subst (λ z. all_fit z e ≡ true) (sym (append-nil r)) h
all_fit-later r (f ∷ d) e h =
    subst (λ z. all_fit z e ≡ true) (append_assoc r (f ∷ []) d)
    (all_fit-later (r ++ f ∷ []) d e (and_parts (fits r f) (all_fit (r ++ f ∷ []) (d ++ e)) h).1)

-- where the node is still up, the records are there
wrote : (x : Node) (d : List Fact) → (written x d).state ≡ Up → records (written x d) ≡ records x ++ d
wrote x [] up = sym (append-nil (records x))
wrote x (f ∷ d) up =
    elim (is_short 4 x.fuse) as (λ b. (cond b (goes_down x (f ∷ d)) (with_batch x (f ∷ d))).state ≡ Up
    → records (cond b (goes_down x (f ∷ d)) (with_batch x (f ∷ d))) ≡ records x ++ f ∷ d) [
      | true ↦ λ e. absurd (cc (e))
      | false ↦ λ e. batch-there x.entries (f ∷ d)
    ] up

after-right : WaitLaws → (x : Node) (a : Answer) → HasPlain a → all_fit [] (records x) ≡ true
    → all_fit [] (records (after x a)) ≡ true → WaitsRight x → WaitsRight (after x a)
after-right laws x a plain fit later h = by_state x.state refl later
  where
    by_state : (z : State) → x.state ≡ z → all_fit [] (records (after_by x z a)) ≡ true → WaitsRight (after_by x z a)
    by_state Up up more = record {
      exact = λ still_up.
          let is : records (written x a.delta) ≡ records x ++ a.delta = wrote x a.delta still_up in
          let fits_ : all_fit (records x) a.delta ≡ true =
          all_fit-later [] (records x) a.delta (subst (λ r. all_fit [] r ≡ true) is more) in
          subst (λ r. AreExactly r (after_by x Up a).waits) (sym is)
          (laws.stays (records x) a.delta a.moves (max x.time a.moves.time) x.waits fit fits_
          (begins-wait laws.begins (records x) a.delta fit fits_ plain.plain) (h.exact up));
      timely = waits-timely.after (records x) a.delta a.moves x.time (max x.time a.moves.time) x.waits (omega arith)
          h.timely;
    }
    by_state (Writing delta) up more = h
    by_state (Compacting at) up more = h

-- ---- each event keeps it

-- both nodes are so
abbrev BothRight : World → Type 0
BothRight w = (side : Side) → WaitsRight (node w side)

calls-right : WaitLaws → (terms : Terms) (w : World) (side : Side) (connected : Bool) (a : Answer) → HasPlain a
    → all_fit [] (records (node w side)) ≡ true
    → all_fit [] (records (node (calls terms w side connected a) side)) ≡ true → BothRight w
    → BothRight (calls terms w side connected a)
calls-right laws terms w One connected a plain fit later h One = after-right laws w.one a plain fit later (h One)
calls-right laws terms w One connected a plain fit later h Two = h Two
calls-right laws terms w Two connected a plain fit later h One = h One
calls-right laws terms w Two connected a plain fit later h Two = after-right laws w.two a plain fit later (h Two)

node-right : (w : World) (side : Side) (x : Node) → BothRight w → WaitsRight x → BothRight (with_node w side x)
node-right w One x h k One = k
node-right w One x h k Two = h Two
node-right w Two x h k One = h One
node-right w Two x h k Two = k

clock-right : (x : Node) (now : ℕ) → WaitsRight x → WaitsRight (with_clock x now)
clock-right x now h = record { exact = h.exact; timely = h.timely }

mounted-right : WaitLaws → (x : Node) (kept : Bool) → WaitsRight (mounted x kept)
mounted-right laws x kept = record {
  exact = λ up. laws.first (records_in (entries_left x.state kept x.entries));
  timely = waits-timely.mounted (records_in (entries_left x.state kept x.entries)) 0;
}

compact-right : WaitLaws → (terms : Terms) (x : Node) → all_fit [] (records x) ≡ true → HaveProper (records x)
    → WaitsRight x → WaitsRight (compacted terms x)
compact-right laws terms x fit proper h = by_state x.state refl
  where
    listed : x.state ≡ Up → WaitsRight (with_list terms x)
    listed up = record {
      exact = λ still_up.
          subst (λ r. AreExactly r x.waits) (sym (records-alone (snapshot (records x))))
          (laws.short (records x) x.waits fit proper (h.exact up));
      timely = h.timely;
    }

    stopped : WaitsRight (stops_compacting terms x)
    stopped = record { exact = λ up. absurd (cc (up)); timely = h.timely }

    by_state : (z : State) → x.state ≡ z → WaitsRight (compacted_by terms x z)
    by_state Up up =
        elim (may_compact terms x) as (λ b. WaitsRight (cond b (rewritten terms x) x)) [
          | true ↦ elim (is_short 5 x.fuse) as (λ b.
              WaitsRight (cond b (stops_compacting terms x) (with_list terms x))) [
                | true ↦ stopped
                | false ↦ listed up
              ]
          | false ↦ h
        ]
    by_state (Writing delta) up = h
    by_state (Compacting at) up = h

fit-at : (terms : Terms) (w : World) (side : Side) → IsSound terms w → all_fit [] (records (node w side)) ≡ true
fit-at terms w side sound = (sees terms w side sound).stands.fit

tick-right : WaitLaws → (terms : Terms) (w : World) (side : Side) (now : ℕ) → IsSound terms w
    → IsSound terms (happens terms w (Tick side now)) → BothRight w → BothRight (happens terms w (Tick side now))
tick-right laws terms w One now sound later h =
    calls-right laws terms (with_node w One (with_clock w.one now)) One false
    (tick terms (records w.one) (node_end terms w.one) now w.one.time w.one.waits)
    (tick-plain terms (records w.one) (node_end terms w.one) now (first_due (max w.one.time now) w.one.waits))
    (fit-at terms w One sound) (fit-at terms (happens terms w (Tick One now)) One later)
    (node-right w One (with_clock w.one now) h (clock-right w.one now (h One)))
tick-right laws terms w Two now sound later h =
    calls-right laws terms (with_node w Two (with_clock w.two now)) Two false
    (tick terms (records w.two) (node_end terms w.two) now w.two.time w.two.waits)
    (tick-plain terms (records w.two) (node_end terms w.two) now (first_due (max w.two.time now) w.two.waits))
    (fit-at terms w Two sound) (fit-at terms (happens terms w (Tick Two now)) Two later)
    (node-right w Two (with_clock w.two now) h (clock-right w.two now (h Two)))

arrives-right : WaitLaws → (terms : Terms) (w : World) (o : Option Packet) → IsSound terms w
    → IsSound terms (arrives terms w o) → BothRight w → BothRight (arrives terms w o)
arrives-right laws terms w None sound later h = h
arrives-right laws terms w (Some p) sound later h =
    calls-right laws terms w (other p.from) true (received_by terms (node w (other p.from)) (terms.read p.message))
    (receive-plain laws.heard terms (node w (other p.from)) (terms.read p.message))
    (fit-at terms w (other p.from) sound)
    (fit-at terms (arrives terms w (Some p)) (other p.from) later) h

step-right : WaitLaws → (terms : Terms) (w : World) (event : Event) → IsSound terms w
    → IsSound terms (happens terms w event) → BothRight w → BothRight (happens terms w event)
step-right laws terms w (Create side via expires offer) sound later h =
    calls-right laws terms w side false _
    (create-plain terms (records (node w side)) (node_end terms (node w side)) (wish_of w side via expires offer))
    (fit-at terms w side sound) (fit-at terms (happens terms w (Create side via expires offer)) side later) h
step-right laws terms w (Grant side y) sound later h =
    node-right w side (record (node w side) { granted = y }) h
    (record { exact = (h side).exact; timely = (h side).timely })
step-right laws terms w (Send side seq text) sound later h =
    calls-right laws terms w side false _
    (send-plain terms (records (node w side)) (node_end terms (node w side)) seq text)
    (fit-at terms w side sound) (fit-at terms (happens terms w (Send side seq text)) side later) h
step-right laws terms w (Tick side now) sound later h = tick-right laws terms w side now sound later h
step-right laws terms w (Deliver k) sound later h = arrives-right laws terms w (numbered w.packets k) sound later h
step-right laws terms w (Close side seq) sound later h =
    calls-right laws terms w side false _
    (close-plain terms (records (node w side)) (node_end terms (node w side)) seq (node w side).clock)
    (fit-at terms w side sound) (fit-at terms (happens terms w (Close side seq)) side later) h
step-right laws terms w (End side seq) sound later h =
    calls-right laws terms w side false _ (end-plain terms (records (node w side)) (node_end terms (node w side)) seq)
    (fit-at terms w side sound) (fit-at terms (happens terms w (End side seq)) side later) h
step-right laws terms w (Ask side seq) sound later h =
    calls-right laws terms w side false _ (ask-plain (records (node w side)) seq)
    (fit-at terms w side sound) (fit-at terms (happens terms w (Ask side seq)) side later) h
step-right laws terms w (Nack side seq) sound later h =
    calls-right laws terms w side false _ (nack-plain (records (node w side)) seq (node w side).clock)
    (fit-at terms w side sound) (fit-at terms (happens terms w (Nack side seq)) side later) h
step-right laws terms w (Arm side c) sound later h =
    node-right w side (record (node w side) { fuse = armed c (node w side).fuse }) h
    (record { exact = (h side).exact; timely = (h side).timely })
step-right laws terms w (Crash side kept) sound later h =
    node-right w side (mounted (node w side) kept) h (mounted-right laws (node w side) kept)
step-right laws terms w (Noise side refused) sound later h =
    calls-right laws terms w side true _ (receive-plain laws.heard terms (node w side) (Err refused))
    (fit-at terms w side sound) (fit-at terms (happens terms w (Noise side refused)) side later) h
step-right laws terms w (Poll side) sound later h =
    calls-right laws terms w side false _ (no-records (poll (records (node w side)) (place w (other side))) refl)
    (fit-at terms w side sound) (fit-at terms (happens terms w (Poll side)) side later) h
step-right laws terms w (Compact side) sound later h =
    node-right w side (compacted terms (node w side)) h
    (compact-right laws terms (node w side) (fit-at terms w side sound) (sees terms w side sound).stands.proper
    (h side))
step-right laws terms w (Consume side seq upto) sound later h =
    calls-right laws terms w side false _
    (consume-plain terms (records (node w side)) (node_end terms (node w side)) seq upto)
    (fit-at terms w side sound) (fit-at terms (happens terms w (Consume side seq upto)) side later) h

pub run-right : WaitLaws → StaysSound → (terms : Terms) (events : List Event) (w : World) → AreTerms terms
    → IsSound terms w → BothRight w → BothRight (run terms events w)
run-right laws sound_ terms [] w t sound h = h
run-right laws sound_ terms (x ∷ xs) w t sound h =
    let next = sound_ terms w x t sound in
    run-right laws sound_ terms xs (happens terms w x) t next (step-right laws terms w x sound next h)

none-waits : (n : ℕ) (at : Text) (k : Key) → false ≡ is_waiting (Made n at ∷ []) k
none-waits n at k =
    elim (k.seq == 0) as (λ b. false
    ≡ waits_of (Made n at ∷ []) k.seq k.number (cond b None (slice_get (makers (Made n at ∷ [])) (k.seq - 1)))) [
      | true ↦ refl
      | false ↦ refl
    ]

pub start-right : (one two : Text) (side : Side) → WaitsRight (node (start one two) side)
start-right one two One = record { exact = λ up key. none-waits 1 one key; timely = tt }
start-right one two Two = record { exact = λ up key. none-waits 2 two key; timely = tt }
