-- Which key begins to wait with a call, and which time it tells.
use Rattle.std.proofs.Common.{◌≡◌, ◌∙◌, ◌||◌, ℕ, ◌+◌, Bool, true, false, cond, List, [], ◌∷◌, ◌++◌, length}
use Rattle.std.proofs.Common.{Option, Some, None, Result, Ok, Err, refl, sym, ap, ap₂, subst}
use Rattle.std.specs.Prelude.{is_some, nat_lt}
use Rattle.std.specs.List.{AllByRecursion}
use Rattle.std.specs.Option.{option_to_list}
use Rattle.std.proofs.lemmas.Bool.{and_parts}
use Rattle.rm_base.specs.declared.message.Behaviour.{Behaviour}
use Rattle.rm_base.specs.declared.message.Cause.TheVariants.{Expired}
use Rattle.timers.specs.declared.slots.timers.Key.{Key}
use Rattle.timers.specs.Keys.KeyLemmas.{same_key-refl}
use Rattle.timers.specs.Keys.Waits.{has_key}
use Rattle.rm_message.specs.declared.message.Message.{Message}
use Rattle.rm_message.specs.declared.refusal.FaultKind.{FaultKind}
use Rattle.rm_message.specs.declared.refusal.Refusal.{Refusal}
use Rattle.record_batch.specs.Fact.{Fact, Made, Creating, Created, Granted, Accepted, Acked, Received, Closing}
use Rattle.record_batch.specs.Fact.{ClosedOut, Closed, Ending, EndedOut, Ended, Failed, Consumed, Dropped, Purged}
use Rattle.record_batch.specs.Sequences.Destinations.{cursor, inbox, is_over}
use Rattle.record_batch.specs.Sequences.Fits.{all_fit, fits as may_follow}
use Rattle.record_batch.specs.Sequences.Makers.{Maker, Outgoing, Offered, Incoming, Taken, counter, maker, makers}
use Rattle.record_batch.specs.Sequences.Sources.{accepted_count, phase}
use Rattle.record_batch.specs.Sequences.Words.{Text}
use Rattle.node_tables.specs.Reads.{outgoing_of}
use Rattle.rm_protocol.specs.Calls.{Answer, Cause, Done, NoSequence, NotOpen, WrongSide, Wish, ask_out}
use Rattle.rm_protocol.specs.Calls.{adds, close_by, close_in, close_out, consume_in, create, end, end_out, expired_from}
use Rattle.rm_protocol.specs.Calls.{if_room, judged, may_end, nack_in, on_incoming, on_outgoing, receive}
use Rattle.rm_protocol.specs.Calls.{Fetched, refusal, send, send_out, tick}
use Rattle.rm_protocol.specs.Exact.{WhatBeginsWaits}
use Rattle.rm_protocol.specs.Heard.{Heard}
use Rattle.rm_protocol.specs.Polls.{awaited, fetches, selected}
use Rattle.rm_protocol.specs.Recorded.{OnlyHeardIsRecorded}
use Rattle.rm_protocol.specs.Rows.{rows}
use Rattle.rm_protocol.specs.Terms.{Terms}
use Rattle.rm_protocol.specs.Verdict.{has_room, verdict}
use Rattle.rm_protocol.specs.Waiting.{begun_by, begun_of, key, no_moves}
use Rattle.rm_node.specs.Asked.{Asked, Create, Send, Close, End, AskAck, NackMissing, Consume, Tick, Poll, Receive}
use Rattle.rm_node.specs.Asked.{answer_to}
use Rattle.rm_node.specs.Ends.{is_refused}
use Rattle.rm_node.specs.Keeping.{Keeping}
use Rattle.rm_node.specs.Timed.{Begins, begun_with, of_outgoing}

-- ---- records that begin a key

-- one record begins this key or none
begins-one : WhatBeginsWaits → (r : List Fact) (f : Fact) (begun : Option Key) → all_fit [] r ≡ true
    → may_follow r f ≡ true → begun_of r f ≡ option_to_list begun → Begins r (f ∷ []) begun
begins-one law r f None sound fit is =
    record { are = ap (λ (keys : List Key). keys ++ []) is; wait = tt }
begins-one law r f (Some k) sound fit is =
    let has : has_key (begun_of r f) k ≡ true =
    ap (λ (keys : List Key). has_key keys k) is ∙ ap (λ (b : Bool). b || false) (same_key-refl k) in
    record { are = ap (λ (keys : List Key). keys ++ []) is; wait = law r f k sound fit has }

-- what a call comes to that begins this key or none: it tells no time, and where it is no refusal, its records begin
-- that
pub record Starts (r : List Fact) (begun : Option Key) (a : Answer) : Type 0 where
  pub time : a.moves.time ≡ 0
  pub begins : WhatBeginsWaits → all_fit [] r ≡ true → all_fit r a.delta ≡ true → is_refused a.outcome ≡ false
      → Begins r a.delta begun

refused : (r : List Fact) (begun : Option Key) (cause : Cause) → Starts r begun (refusal cause)
refused r begun cause = record { time = refl; begins = λ law sound fit e. absurd cc }

chosen : (r : List Fact) (begun : Option Key) (b : Bool) (x y : Answer) → Starts r begun x → Starts r begun y
    → Starts r begun (cond b x y)
chosen r begun true x y p q = p
chosen r begun false x y p q = q

-- one record is added, where there is room
adds-one : (r : List Fact) (begun : Option Key) (terms : Terms) (place : ℕ) (f : Fact) (outs : List Message)
    → begun_of r f ≡ option_to_list begun
    → Starts r begun (if_room terms place (record {
      outcome = Done;
      delta = f ∷ [];
      fetched = None;
      outs = outs;
      moves = no_moves;
    }))
adds-one r begun terms place f outs is =
    chosen r begun (has_room terms place (f ∷ [])) _ _ (record {
      time = refl;
      begins = λ law sound fit e. begins-one law r f begun sound (and_parts (may_follow r f) true fit).0 is;
    }) (refused r begun _)

-- nothing is added
adds-none : (r : List Fact) (a : Answer) → a.moves.time ≡ 0 → a.delta ≡ [] → Starts r None a
adds-none r a still none = record {
  time = still;
  begins = λ law sound fit e. subst (λ (d : List Fact). Begins r d None) (sym none) (record { are = refl; wait = tt });
}

-- of an outgoing sequence
outgoing : (r : List Fact) (m : Option Maker) (k : Key) (a : Answer) → Starts r (Some k) a
    → Starts r (of_outgoing m k) (on_outgoing m a)
outgoing r None k a h = refused r None NoSequence
outgoing r (Some (Outgoing ticket to via lapse)) k a h = h
outgoing r (Some (Taken message_id ident endpoint)) k a h = h
outgoing r (Some (Offered ticket counter to behaviour)) k a h = refused r None WrongSide
outgoing r (Some (Incoming counter message_id acks_to behaviour deadline lapse)) k a h = refused r None WrongSide

-- ---- each call

create-starts : (terms : Terms) (r : List Fact) (place : ℕ) (wish : Wish)
    → Starts r (Some (key (length (makers r) + 1) 0)) (create terms r place wish)
create-starts terms r place wish = search (chosen, refused, adds-one)

send_out-starts : (terms : Terms) (r : List Fact) (place s : ℕ) (payload : Text)
    → Starts r (Some (key s (accepted_count r s + 1))) (send_out terms r place s payload)
send_out-starts terms r place s payload = search (chosen, refused, adds-one) depth 12

send-starts : (terms : Terms) (r : List Fact) (place s : ℕ) (payload : Text)
    → Starts r (of_outgoing (maker r s) (key s (accepted_count r s + 1))) (send terms r place s payload)
send-starts terms r place s payload =
    outgoing r (maker r s) (key s (accepted_count r s + 1)) (send_out terms r place s payload)
    (send_out-starts terms r place s payload)

close_out-starts : (terms : Terms) (r : List Fact) (place s : ℕ) → Starts r (Some (key s 0)) (close_out terms r place s)
close_out-starts terms r place s = search (chosen, refused, adds-one)

close_in-starts : (terms : Terms) (r : List Fact) (place s now : ℕ) → Starts r None (close_in terms r place s now)
close_in-starts terms r place s now = search (chosen, refused, adds-one)

close_by-starts : (terms : Terms) (r : List Fact) (place s now : ℕ) (m : Option Maker)
    → Starts r (of_outgoing m (key s 0)) (close_by terms r place s now m)
close_by-starts terms r place s now None = refused r None NoSequence
close_by-starts terms r place s now (Some (Outgoing ticket to via lapse)) = close_out-starts terms r place s
close_by-starts terms r place s now (Some (Taken message_id ident endpoint)) = close_out-starts terms r place s
close_by-starts terms r place s now (Some (Offered ticket counter to behaviour)) = close_in-starts terms r place s now
close_by-starts terms r place s now (Some (Incoming counter message_id acks_to behaviour deadline lapse)) =
    close_in-starts terms r place s now

end_out-starts : (terms : Terms) (r : List Fact) (place s : ℕ) → Starts r (Some (key s 0)) (end_out terms r place s)
end_out-starts terms r place s = search (chosen, refused, adds-one)

end-starts : (terms : Terms) (r : List Fact) (place s : ℕ)
    → Starts r (of_outgoing (maker r s) (key s 0)) (end terms r place s)
end-starts terms r place s =
    outgoing r (maker r s) (key s 0) (end_out terms r place s) (end_out-starts terms r place s)

ask_out-starts : (r : List Fact) (s : ℕ) → Starts r None (ask_out r s)
ask_out-starts r s = chosen r None (may_end (phase r s)) _ _ (adds-none r _ refl refl) (refused r None NotOpen)

ask-by : (r : List Fact) (s : ℕ) (m : Option Maker) → Starts r None (on_outgoing m (ask_out r s))
ask-by r s None = refused r None NoSequence
ask-by r s (Some (Outgoing ticket to via lapse)) = ask_out-starts r s
ask-by r s (Some (Taken message_id ident endpoint)) = ask_out-starts r s
ask-by r s (Some (Offered ticket counter to behaviour)) = refused r None WrongSide
ask-by r s (Some (Incoming counter message_id acks_to behaviour deadline lapse)) = refused r None WrongSide

nack_in-starts : (r : List Fact) (s now : ℕ) → Starts r None (nack_in r s now)
nack_in-starts r s now = chosen r None (is_over r s now) _ _ (refused r None NotOpen) (adds-none r _ refl refl)

nack-by : (r : List Fact) (s now : ℕ) (m : Option Maker) → Starts r None (on_incoming m (nack_in r s now))
nack-by r s now None = refused r None NoSequence
nack-by r s now (Some (Outgoing ticket to via lapse)) = refused r None WrongSide
nack-by r s now (Some (Taken message_id ident endpoint)) = refused r None WrongSide
nack-by r s now (Some (Offered ticket counter to behaviour)) = nack_in-starts r s now
nack-by r s now (Some (Incoming counter message_id acks_to behaviour deadline lapse)) = nack_in-starts r s now

-- the record by which a cursor goes on begins no key
moves-cursor : (terms : Terms) (r : List Fact) (place s upto : ℕ) (b : Bool)
    → Starts r None (if_room terms place (adds r (cond b (Consumed s upto ∷ []) []) (λ after. [])))
moves-cursor terms r place s upto true = adds-one r None terms place (Consumed s upto) [] refl
moves-cursor terms r place s upto false = adds-none r _ refl refl

consume_in-starts : (terms : Terms) (r : List Fact) (place s upto : ℕ) → Starts r None (consume_in terms r place s upto)
consume_in-starts terms r place s upto =
    chosen r None (nat_lt (length (inbox r s)) upto) _ _ (refused r None _)
    (moves-cursor terms r place s upto (nat_lt (cursor r s) upto))

consume-by : (terms : Terms) (r : List Fact) (place s upto : ℕ) (m : Option Maker)
    → Starts r None (on_incoming m (consume_in terms r place s upto))
consume-by terms r place s upto None = refused r None NoSequence
consume-by terms r place s upto (Some (Outgoing ticket to via lapse)) = refused r None WrongSide
consume-by terms r place s upto (Some (Taken message_id ident endpoint)) = refused r None WrongSide
consume-by terms r place s upto (Some (Offered ticket counter to behaviour)) = consume_in-starts terms r place s upto
consume-by terms r place s upto (Some (Incoming counter message_id acks_to behaviour deadline lapse)) =
    consume_in-starts terms r place s upto

-- ---- a tick

-- a record that begins no key, or none
either-begins : (b : Bool) (r : List Fact) (f : Fact) (rest : List Fact) → ((q : List Fact) → begun_of q f ≡ [])
    → ((q : List Fact) → begun_by q rest ≡ []) → begun_by r (cond b (f ∷ rest) rest) ≡ []
either-begins true r f rest none more =
    ap₂ (λ (xs ys : List Key). xs ++ ys) (none r) (more (r ++ f ∷ []))
either-begins false r f rest none more = more r

-- the records that end sequences begin no key
expired-begins : (r q : List Fact) (now k : ℕ) (ms : List Maker) → begun_by q (expired_from r now k ms) ≡ []
expired-begins r q now k [] = refl
expired-begins r q now k (m ∷ ms) =
    either-begins _ q (Ended (k + 1) Expired 0) (expired_from r now (k + 1) ms) (λ p. refl)
    (λ p. expired-begins r p now (k + 1) ms)

-- what a tick comes to: it begins no key, and tells its moment
record Ticks (r : List Fact) (now : ℕ) (a : Answer) : Type 0 where
  none : begun_by r a.delta ≡ []
  time : a.moves.time ≡ now

either-ticks : (r : List Fact) (now : ℕ) (b : Bool) (x y : Answer) → Ticks r now x → Ticks r now y
    → Ticks r now (cond b x y)
either-ticks r now true x y p q = p
either-ticks r now false x y p q = q

tick-ticks : (terms : Terms) (r : List Fact) (place moment : ℕ) (kept : Keeping)
    → Ticks r moment (tick terms r place moment kept.time kept.waits)
tick-ticks terms r place moment kept =
    either-ticks r moment (has_room terms place (expired_from r moment 0 (makers r))) _ _
    (record { none = expired-begins r r moment 0 (makers r); time = refl }) (record { none = refl; time = refl })

-- ---- a message

heard-none : (m : Message) (r : List Fact) (f : Fact) → Heard m f → begun_of r f ≡ []
heard-none m r (Made node address) h = absurd h
heard-none m r (Creating ticket to via lapse offer) h = absurd h
heard-none m r (Created seq ident accept) h = refl
heard-none m r (Granted counter message_id acks_to behaviour deadline lapse offer) h = refl
heard-none m r (Accepted seq payload) h = absurd h
heard-none m r (Acked seq ranges) h = refl
heard-none m r (Received seq n payload) h = refl
heard-none m r (Closing seq ticket) h = absurd h
heard-none m r (ClosedOut seq) h = refl
heard-none m r (Closed seq cause last) h = refl
heard-none m r (Ending seq ticket) h = absurd h
heard-none m r (EndedOut seq) h = refl
heard-none m r (Ended seq cause last) h = refl
heard-none m r (Failed seq fault) h = refl
heard-none m r (Consumed seq upto) h = refl
heard-none m r (Dropped seq upto) h = refl
heard-none m r (Purged seq ranges) h = refl

heard-all : (m : Message) (r delta : List Fact) → AllByRecursion (Heard m) delta → begun_by r delta ≡ []
heard-all m r [] h = refl
heard-all m r (f ∷ delta) h =
    ap₂ (λ (xs ys : List Key). xs ++ ys) (heard-none m r f h.0) (heard-all m (r ++ f ∷ []) delta h.1)

judged-starts : OnlyHeardIsRecorded → (terms : Terms) (r : List Fact) (now : ℕ) (granted : Behaviour) (m : Message)
    (v : Option FaultKind) → Starts r None (judged terms r now granted m v)
judged-starts law terms r now granted m None = record {
  time = refl;
  begins = λ waits sound fit e.
      record { are = heard-all m r (rows terms now granted m r) (law terms r now granted m); wait = tt };
}
judged-starts law terms r now granted m (Some kind) = adds-none r _ refl refl

receive-starts : OnlyHeardIsRecorded → (terms : Terms) (r : List Fact) (place now : ℕ) (granted : Behaviour)
    (content : Result Message Refusal) → Starts r None (receive terms r place now granted content)
receive-starts law terms r place now granted (Ok m) =
    judged-starts law terms r now granted m (verdict terms r place now granted m)
receive-starts law terms r place now granted (Err refusal) = adds-none r _ refl refl

-- what is fetched begins no key
fetches-starts : (r : List Fact) (t : Option Fetched) (a : Answer) → Starts r None a → Starts r None (fetches t a)
fetches-starts r t a h = record { time = h.time; begins = h.begins }

-- ---- whatever is asked for

-- the greatest moment that is asked for
abbrev pub moment_of : Asked → ℕ
moment_of (Tick moment) = moment
moment_of _ = 0

-- what a call comes to: the key that begins with it, and the time that it tells
pub record Leads (r : List Fact) (asked : Asked) (a : Answer) : Type 0 where
  pub begins : all_fit r a.delta ≡ true → is_refused a.outcome ≡ false → Begins r a.delta (begun_with r asked)
  pub time : a.moves.time ≡ moment_of asked

leads-by : WhatBeginsWaits → (r : List Fact) (asked : Asked) (a : Answer) → moment_of asked ≡ 0 → all_fit [] r ≡ true
    → Starts r (begun_with r asked) a → Leads r asked a
leads-by law r asked a none sound starts = record {
  begins = λ fit e. starts.begins law sound fit e;
  time = starts.time ∙ sym none;
}

pub leads : OnlyHeardIsRecorded → WhatBeginsWaits → (terms : Terms) (r : List Fact) (place now : ℕ) (kept : Keeping)
    (asked : Asked) → all_fit [] r ≡ true → Leads r asked (answer_to terms r place now kept asked)
leads heard law terms r place now kept (Create wish) sound =
    leads-by law r (Create wish) _ refl sound (create-starts terms r place wish)
leads heard law terms r place now kept (Send seq payload) sound =
    leads-by law r (Send seq payload) _ refl sound (send-starts terms r place seq payload)
leads heard law terms r place now kept (Close seq) sound =
    leads-by law r (Close seq) _ refl sound (close_by-starts terms r place seq now (maker r seq))
leads heard law terms r place now kept (End seq) sound =
    leads-by law r (End seq) _ refl sound (end-starts terms r place seq)
leads heard law terms r place now kept (AskAck seq) sound =
    leads-by law r (AskAck seq) _ refl sound (ask-by r seq (maker r seq))
leads heard law terms r place now kept (NackMissing seq) sound =
    leads-by law r (NackMissing seq) _ refl sound (nack-by r seq now (maker r seq))
leads heard law terms r place now kept (Consume seq upto) sound =
    leads-by law r (Consume seq upto) _ refl sound (consume-by terms r place seq upto (maker r seq))
leads heard law terms r place now kept (Tick moment) sound =
    let ticks = tick-ticks terms r place moment kept in
    record { begins = λ fit e. record { are = ticks.none; wait = tt }; time = ticks.time }
leads heard law terms r place now kept (Poll to) sound =
    leads-by law r (Poll to) _ refl sound (adds-none r _ refl refl)
leads heard law terms r place now kept (Receive content) sound =
    let answer = receive terms r place now kept.granted content in
    leads-by law r (Receive content) _ refl sound
    (fetches-starts r (awaited kept.polled (selected answer.outcome content)) answer
    (receive-starts heard terms r place now kept.granted content))

-- ---- an outgoing sequence, as the tables answer it

pub outgoing-some : (r : List Fact) (s : ℕ) (m : Option Maker) (k : Key) → is_some (outgoing_of r s m) ≡ true
    → Some k ≡ of_outgoing m k
outgoing-some r s None k e = absurd cc
outgoing-some r s (Some (Outgoing ticket to via lapse)) k e = refl
outgoing-some r s (Some (Taken message_id ident endpoint)) k e = refl
outgoing-some r s (Some (Offered ticket counter to behaviour)) k e = absurd cc
outgoing-some r s (Some (Incoming counter message_id acks_to behaviour deadline lapse)) k e = absurd cc

pub outgoing-none : (r : List Fact) (s : ℕ) (m : Option Maker) (k : Key) → None ≡ outgoing_of r s m
    → None ≡ of_outgoing m k
outgoing-none r s None k e = refl
outgoing-none r s (Some (Outgoing ticket to via lapse)) k e = absurd cc
outgoing-none r s (Some (Taken message_id ident endpoint)) k e = absurd cc
outgoing-none r s (Some (Offered ticket counter to behaviour)) k e = refl
outgoing-none r s (Some (Incoming counter message_id acks_to behaviour deadline lapse)) k e = refl
