-- What an act of a node adds to its records.
use Rattle.std.proofs.Common.{◌≡◌, ◌⊎◌, ℕ, ◌+◌, ◌&&◌, not, nat_le, nat_lt, max, cond, Bool, true, false, List, [], ◌∷◌}
use Rattle.std.proofs.Common.{length, refl, sym, ap, ◌∙◌, subst, append-nil, inl, inr}
use Rattle.std.specs.Prelude.{Option, Some, None, Result, Ok, Err}
use Rattle.std.specs.List.{AllByRecursion}
use Rattle.std.specs.Option.{option_to_list}
use Rattle.rm_base.specs.Limits.{most_sequences, most_unacked, payload_bytes, window}
use Rattle.rm_base.specs.Message.{max_number}
use Rattle.rm_base.specs.declared.message.Behaviour.{Behaviour}
use Rattle.rm_base.specs.declared.message.Cause.TheVariants.{Operator, Expired}
use Rattle.rm_message.specs.declared.message.Message.{Message}
use Rattle.rm_message.specs.declared.refusal.FaultKind.{FaultKind}
use Rattle.rm_message.specs.declared.refusal.Refusal.{Refusal}
use Rattle.record_batch.specs.Fact.{Fact, Creating, Accepted, Closing, Closed, Consumed, Ending, Ended}
use Rattle.rm_sides.specs.Destination.Incoming.{is_past}
use Rattle.record_batch.specs.Sequences.Makers.{Maker, Outgoing, Offered, Incoming, Taken, counter, maker, makers}
use Rattle.record_batch.specs.Sequences.Sources.{accepted_count, all_unacked, phase, unacked, out_ident}
use Rattle.record_batch.specs.Sequences.Destinations.{cursor, deadline_of, has_end, inbox, is_over}
use Rattle.record_batch.specs.Sequences.Find.{peer}
use Rattle.record_batch.specs.Sequences.Words.{Text}
use Rattle.timers.specs.Keys.Waits.{first_due}
use Rattle.rm_protocol.specs.Calls.{Answer, Cause, StoreFull, NotOpen, PayloadTooLong}
use Rattle.rm_protocol.specs.Calls.{BadPayload, WindowFull, NodeFull, Rollover, TooManySequences, PastInbox, Wish}
use Rattle.rm_protocol.specs.Calls.{adds, ask_ack}
use Rattle.rm_protocol.specs.Calls.{ask_out, ask_to, close, close_by, close_in, close_out, consume, consume_in, create}
use Rattle.rm_protocol.specs.Calls.{cursor_to, end, end_out, expired_from, if_room, is_open, judged, may_end}
use Rattle.rm_protocol.specs.Calls.{nack_in, nack_missing, offer_of, on_incoming, on_outgoing, receive, refusal, send}
use Rattle.rm_protocol.specs.Calls.{send_out, tick, ticked, wanted}
use Rattle.rm_protocol.specs.Compact.{compacted, compacted_by, may_compact, rewritten, stops_compacting, with_list}
use Rattle.rm_protocol.specs.Heard.{Heard}
use Rattle.rm_protocol.specs.Node.{Node, State, Up, Writing, Compacting, after, after_by, goes_down, is_short, mounted}
use Rattle.rm_protocol.specs.Node.{node_end, records, whole_left, with_batch, with_moves, with_polled, written}
use Rattle.rm_protocol.specs.Pair.{Act, Creates, Grants, Sends, Ticks, Closes, Ends, AsksAck, NacksMissing, Polls}
use Rattle.rm_protocol.specs.Pair.{Consumes, Receives, Compacts, Arms, Crashes, Brings, Gained, IsParked, IsQuiet}
use Rattle.rm_protocol.specs.Pair.{AreBrought}
use Rattle.rm_protocol.specs.Pair.{acted}
use Rattle.timers.specs.Pending.Waiting.{Waiting}
use Rattle.rm_protocol.specs.Addresses.{place_of}
use Rattle.rm_protocol.specs.Calls.{Fetched, final_ack, made_by, nack_by}
use Rattle.rm_protocol.specs.Messages.{data_at, request_at}
use Rattle.rm_protocol.specs.Node.{fetched_after, fetched_by, fetched_message, said_with}
use Rattle.rm_protocol.specs.PollLemmas.{AllWaiting, IsOfReplies, awaited-all, puts-all, without-all}
use Rattle.rm_protocol.specs.Polls.{awaited, fetched_with, poll, polled_after, polls, selected, waiting_of}
use Rattle.rm_protocol.specs.Polls.{waits_there, without_fetched}
use Rattle.rm_protocol.specs.Terms.{Terms}
use Rattle.rm_protocol.specs.Verdict.{has_room, verdict}
use Rattle.rm_protocol.specs.World.{received_by, with_clock}
use Rattle.rm_protocol.proofs.HeardLemmas.{rows-heard}

-- ---- what calls add

-- each record that it adds is one of these, and nothing is fetched
record Adds (P : Fact → Type 0) (answer : Answer) : Type 0 where
  each : AllByRecursion P answer.delta
  none : answer.fetched ≡ None

quietly : (P : Fact → Type 0) (answer : Answer) → AllByRecursion P answer.delta → answer.fetched ≡ None
    → Adds P answer
quietly P answer h e = record { each = h; none = e }

refused-or-adds : (P : Fact → Type 0) (x : Bool) (cause : Cause) (answer : Answer) → Adds P answer
    → Adds P (cond x (refusal cause) answer)
refused-or-adds P true cause answer h = record { each = tt; none = refl }
refused-or-adds P false cause answer h = h

or-refused-adds : (P : Fact → Type 0) (x : Bool) (cause : Cause) (answer : Answer) → Adds P answer
    → Adds P (cond x answer (refusal cause))
or-refused-adds P true cause answer h = h
or-refused-adds P false cause answer h = record { each = tt; none = refl }

if_room-adds : (P : Fact → Type 0) (terms : Terms) (place : ℕ) (answer : Answer) → Adds P answer
    → Adds P (if_room terms place answer)
if_room-adds P terms place answer h =
    or-refused-adds P (has_room terms place answer.delta) (StoreFull place (terms.size answer.delta + 6)) answer h

one-adds : (P : Fact → Type 0) (terms : Terms) (place : ℕ) (r : List Fact) (rec : Fact)
    (f : List Fact → List Message) → P rec → Adds P (if_room terms place (adds r (rec ∷ []) f))
one-adds P terms place r rec f h = if_room-adds P terms place (adds r (rec ∷ []) f)
    (record { each = (h, tt); none = refl })

on_outgoing-adds : (P : Fact → Type 0) (x : Option Maker) (answer : Answer) → Adds P answer
    → Adds P (on_outgoing x answer)
on_outgoing-adds P None answer h = record { each = tt; none = refl }
on_outgoing-adds P (Some (Outgoing t to v l)) answer h = h
on_outgoing-adds P (Some (Taken t q k)) answer h = h
on_outgoing-adds P (Some (Offered t c to y)) answer h = record { each = tt; none = refl }
on_outgoing-adds P (Some (Incoming c t k y d l)) answer h = record { each = tt; none = refl }

on_incoming-adds : (P : Fact → Type 0) (x : Option Maker) (answer : Answer) → Adds P answer
    → Adds P (on_incoming x answer)
on_incoming-adds P None answer h = record { each = tt; none = refl }
on_incoming-adds P (Some (Outgoing t to v l)) answer h = record { each = tt; none = refl }
on_incoming-adds P (Some (Taken t q k)) answer h = record { each = tt; none = refl }
on_incoming-adds P (Some (Offered t c to y)) answer h = h
on_incoming-adds P (Some (Incoming c t k y d l)) answer h = h

no_offer : (drawn : ℕ) (offer : Option Behaviour) → offer ≡ None → offer_of drawn offer ≡ None
no_offer drawn offer e = ap (offer_of drawn) e

create-adds : (terms : Terms) (r : List Fact) (place : ℕ) (wish : Wish)
    → Adds (Brings (Creates wish)) (create terms r place wish)
create-adds terms r place wish =
    refused-or-adds (Brings (Creates wish)) (nat_lt most_sequences (length (makers r) + wanted wish.offer))
    (TooManySequences (length (makers r))) _
    (one-adds (Brings (Creates wish)) terms place r
    (Creating (counter r + 1) wish.to wish.via wish.expires (offer_of (counter r) wish.offer))
    (λ after. option_to_list (request_at after (length (makers r) + 1))) (refl, no_offer (counter r) wish.offer))

send-adds : (terms : Terms) (r : List Fact) (place s : ℕ) (text : Text)
    → Adds (Brings (Sends s text)) (send terms r place s text)
send-adds terms r place s text =
    let P = Brings (Sends s text) in
    on_outgoing-adds P (maker r s) (send_out terms r place s text)
    (refused-or-adds P (nat_lt payload_bytes (length text)) (PayloadTooLong (length text)) _
    (refused-or-adds P (not (terms.is_content text)) BadPayload _
    (refused-or-adds P (not (is_open (phase r s))) NotOpen _
    (refused-or-adds P (nat_le window (unacked r s)) (WindowFull (unacked r s)) _
    (refused-or-adds P (nat_le most_unacked (all_unacked r)) (NodeFull (all_unacked r)) _
    (refused-or-adds P (nat_le max_number (accepted_count r s)) Rollover _
    (one-adds P terms place r (Accepted s text)
    (λ after. option_to_list (data_at after s (accepted_count r s + 1))) refl)))))))

-- an item is accepted with one record
abbrev OneOf : Fact → Answer → Type 0
OneOf rec answer = (answer.delta ≡ []) ⊎ (answer.delta ≡ rec ∷ [])

refused-or-one : (rec : Fact) (x : Bool) (cause : Cause) (answer : Answer) → OneOf rec answer
    → OneOf rec (cond x (refusal cause) answer)
refused-or-one rec true cause answer h = inl refl
refused-or-one rec false cause answer h = h

room-one : (terms : Terms) (place : ℕ) (r : List Fact) (rec : Fact) (f : List Fact → List Message)
    → OneOf rec (if_room terms place (adds r (rec ∷ []) f))
room-one terms place r rec f =
    elim (has_room terms place (rec ∷ [])) as (λ x. OneOf rec (cond x (adds r (rec ∷ []) f)
    (refusal (StoreFull place (terms.size (rec ∷ []) + 6))))) [ true ↦ inr refl | false ↦ inl refl ]

on_outgoing-one : (rec : Fact) (x : Option Maker) (answer : Answer) → OneOf rec answer
    → OneOf rec (on_outgoing x answer)
on_outgoing-one rec None answer h = inl refl
on_outgoing-one rec (Some (Outgoing t to v l)) answer h = h
on_outgoing-one rec (Some (Taken t q k)) answer h = h
on_outgoing-one rec (Some (Offered t c to y)) answer h = inl refl
on_outgoing-one rec (Some (Incoming c t k y d l)) answer h = inl refl

send-one : (terms : Terms) (r : List Fact) (place s : ℕ) (text : Text)
    → OneOf (Accepted s text) (send terms r place s text)
send-one terms r place s text =
    let rec = Accepted s text in
    on_outgoing-one rec (maker r s) (send_out terms r place s text)
    (refused-or-one rec (nat_lt payload_bytes (length text)) (PayloadTooLong (length text)) _
    (refused-or-one rec (not (terms.is_content text)) BadPayload _
    (refused-or-one rec (not (is_open (phase r s))) NotOpen _
    (refused-or-one rec (nat_le window (unacked r s)) (WindowFull (unacked r s)) _
    (refused-or-one rec (nat_le most_unacked (all_unacked r)) (NodeFull (all_unacked r)) _
    (refused-or-one rec (nat_le max_number (accepted_count r s)) Rollover _
    (room-one terms place r rec (λ after. option_to_list (data_at after s (accepted_count r s + 1))))))))))

close-adds : (terms : Terms) (r : List Fact) (place s now : ℕ) → Adds IsQuiet (close terms r place s now)
close-adds terms r place s now = by_maker (maker r s)
  where
    out : Adds IsQuiet (close_out terms r place s)
    out = or-refused-adds IsQuiet (is_open (phase r s)) NotOpen (if_room terms place
        (adds r (Closing s (counter r + 1) ∷ []) (λ after. option_to_list (request_at after s))))
        (one-adds IsQuiet terms place r (Closing s (counter r + 1)) (λ after. option_to_list (request_at after s)) tt)

    into : Adds IsQuiet (close_in terms r place s now)
    into = refused-or-adds IsQuiet (is_over r s now) NotOpen (if_room terms place
        (adds r (Closed s Operator 0 ∷ []) (λ after. final_ack after s now (made_by after (maker after s)))))
        (one-adds IsQuiet terms place r (Closed s Operator 0)
        (λ after. final_ack after s now (made_by after (maker after s))) tt)

    by_maker : (x : Option Maker) → Adds IsQuiet (close_by terms r place s now x)
    by_maker None = record { each = tt; none = refl }
    by_maker (Some (Outgoing t to v l)) = out
    by_maker (Some (Taken t q k)) = out
    by_maker (Some (Offered t c to y)) = into
    by_maker (Some (Incoming c t k y d l)) = into

end-adds : (terms : Terms) (r : List Fact) (place s : ℕ) → Adds IsQuiet (end terms r place s)
end-adds terms r place s = on_outgoing-adds IsQuiet (maker r s) (end_out terms r place s)
    (or-refused-adds IsQuiet (may_end (phase r s)) NotOpen _
    (one-adds IsQuiet terms place r (Ending s (counter r + 1)) (λ after. option_to_list (request_at after s)) tt))

expired-quiet : (r : List Fact) (now k : ℕ) (ms : List Maker) → AllByRecursion IsQuiet (expired_from r now k ms)
expired-quiet r now k [] = tt
expired-quiet r now k (m ∷ ms) =
    chosen (is_past (deadline_of (Some m)) now && not (has_end r (k + 1))) (expired-quiet r now (k + 1) ms)
  where
    chosen : (x : Bool) → AllByRecursion IsQuiet (expired_from r now (k + 1) ms)
        → AllByRecursion IsQuiet (cond x (Ended (k + 1) Expired 0 ∷ expired_from r now (k + 1) ms)
        (expired_from r now (k + 1) ms))
    chosen true h = (tt, h)
    chosen false h = h

tick-adds : (terms : Terms) (x : Node) (now : ℕ)
    → Adds IsQuiet (tick terms (records x) (node_end terms x) now x.time x.waits)
tick-adds terms x now =
    let r = records x in
    let keys = first_due (max x.time now) x.waits in
    elim (has_room terms (node_end terms x) (expired_from r now 0 (makers r))) as (λ z. Adds IsQuiet
    (cond z (ticked r now keys (expired_from r now 0 (makers r))) (ticked r now keys []))) [
      | true ↦ record { each = expired-quiet r now 0 (makers r); none = refl }
      | false ↦ record { each = tt; none = refl }
    ]

ask_ack-adds : (r : List Fact) (s : ℕ) → Adds IsQuiet (ask_ack r s)
ask_ack-adds r s = on_outgoing-adds IsQuiet (maker r s) (ask_out r s)
    (or-refused-adds IsQuiet (may_end (phase r s)) NotOpen
    (adds r [] (λ after. ask_to (peer after s) (out_ident after s))) (record { each = tt; none = refl }))

nack_missing-adds : (r : List Fact) (s now : ℕ) → Adds IsQuiet (nack_missing r s now)
nack_missing-adds r s now = on_incoming-adds IsQuiet (maker r s) (nack_in r s now)
    (refused-or-adds IsQuiet (is_over r s now) NotOpen
    (adds r [] (λ after. nack_by after s (made_by after (maker after s)))) (record { each = tt; none = refl }))

consume-adds : (terms : Terms) (r : List Fact) (place s upto : ℕ)
    → Adds (Brings (Consumes s upto)) (consume terms r place s upto)
consume-adds terms r place s upto =
    let P = Brings (Consumes s upto) in
    on_incoming-adds P (maker r s) (consume_in terms r place s upto)
    (refused-or-adds P (nat_lt (length (inbox r s)) upto) (PastInbox (length (inbox r s))) _
    (if_room-adds P terms place (adds r (cursor_to r s upto) (λ after. [])) (record {
      each = chosen (nat_lt (cursor r s) upto);
      none = refl;
    })))
  where
    chosen : (x : Bool) → AllByRecursion (Brings (Consumes s upto)) (cond x (Consumed s upto ∷ []) [])
    chosen true = (refl, tt)
    chosen false = tt

receive-adds : (terms : Terms) (x : Node) (content : Result Message Refusal)
    → AllByRecursion (Brings (Receives content)) (received_by terms x content).delta
receive-adds terms x (Err refusal) = tt
receive-adds terms x (Ok m) =
    by_verdict (verdict terms (records x) (node_end terms x) x.clock x.granted m)
  where
    by_verdict : (v : Option FaultKind) → AllByRecursion (Heard m)
        (judged terms (records x) x.clock x.granted m v).delta
    by_verdict (Some kind) = tt
    by_verdict None = rows-heard terms x.clock x.granted m (records x)

-- ---- what becomes of the node

not-writing : (d : List Fact) → Up ≡ Writing d → ⊥
not-writing d e = absurd (cc)

not-compacting : (start : ℕ) (d : List Fact) → Compacting start ≡ Writing d → ⊥
not-compacting start d e = absurd (cc)

no-batch : (act : Act) → AreBrought act []
no-batch (Creates wish) = tt
no-batch (Grants behaviour) = tt
no-batch (Sends seq text) = inl refl
no-batch (Ticks now) = tt
no-batch (Closes seq) = tt
no-batch (Ends seq) = tt
no-batch (AsksAck seq) = tt
no-batch (NacksMissing seq) = tt
no-batch (Polls to) = tt
no-batch (Consumes seq upto) = tt
no-batch (Receives content) = tt
no-batch Compacts = tt
no-batch (Arms calls) = tt
no-batch (Crashes kept) = tt

-- a node whose disk stays
unmoved : (act : Act) (x z : Node) → z.whole ≡ x.whole → z.state ≡ x.state → Gained act x z
unmoved act x z e s = record {
  delta = [];
  is = e ∙ sym (append-nil x.whole);
  from = inl (no-batch act);
  next = λ d k. (e, inr (sym s ∙ k));
}

called : (act : Act) (x : Node) (answer : Answer) → AreBrought act answer.delta
    → Gained act x (after x answer)
called act x answer h = by_state x.state refl
  where
    by_delta : (delta : List Fact) → answer.delta ≡ delta → x.state ≡ Up
        → Gained act x (with_moves x answer (with_polled x answer (written x delta)))
    by_delta [] e up = unmoved act x _ refl refl
    by_delta (rec ∷ delta) e up =
        elim (is_short 4 x.fuse) as (λ z. Gained act x (with_moves x answer (with_polled x answer
        (cond z (goes_down x (rec ∷ delta)) (with_batch x (rec ∷ delta)))))) [
          | true ↦ record {
            delta = [];
            is = sym (append-nil x.whole);
            from = inl (no-batch act);
            next = λ d k. (
              refl,
              inl (let same : rec ∷ delta ≡ d = cc in subst (AreBrought act) (e ∙ same) h),
            );
          }
          | false ↦ record {
            delta = rec ∷ delta;
            is = refl;
            from = inl (subst (AreBrought act) e h);
            next = λ d k. absurd (not-writing d (sym up ∙ k));
          }
        ]

    by_state : (z : State) → x.state ≡ z → Gained act x (after_by x z answer)
    by_state Up e = by_delta answer.delta refl e
    by_state (Writing delta) e = unmoved act x x refl refl
    by_state (Compacting start) e = unmoved act x x refl refl

-- of a node whose clock was set
clocked : (act : Act) (x z : Node) (now : ℕ) → Gained act (with_clock x now) z → Gained act x z
clocked act x z now h = record { delta = h.delta; is = h.is; from = h.from; next = h.next }

crashed : (x : Node) (kept : Bool) → Gained (Crashes kept) x (mounted x kept)
crashed x kept = by_state x.state kept refl
  where
    by_state : (z : State) (kept : Bool) → x.state ≡ z → Gained (Crashes kept) x (mounted x kept)
    by_state (Writing delta) true e = record {
      delta = delta;
      is = ap (λ s. whole_left s true x.whole) e;
      from = inr e;
      next = λ d k. absurd (not-writing d k);
    }
    by_state (Writing delta) false e = record {
      delta = [];
      is = ap (λ s. whole_left s false x.whole) e ∙ sym (append-nil x.whole);
      from = inl tt;
      next = λ d k. absurd (not-writing d k);
    }
    by_state Up kept e = record {
      delta = [];
      is = ap (λ s. whole_left s kept x.whole) e ∙ sym (append-nil x.whole);
      from = inl tt;
      next = λ d k. absurd (not-writing d k);
    }
    by_state (Compacting start) kept e = record {
      delta = [];
      is = ap (λ s. whole_left s kept x.whole) e ∙ sym (append-nil x.whole);
      from = inl tt;
      next = λ d k. absurd (not-writing d k);
    }

rewrote : (terms : Terms) (x : Node) → Gained Compacts x (compacted terms x)
rewrote terms x = by_state x.state refl
  where
    by_state : (z : State) → x.state ≡ z → Gained Compacts x (compacted_by terms x z)
    by_state Up e = elim (may_compact terms x) as (λ z. Gained Compacts x (cond z (rewritten terms x) x)) [
      | true ↦ elim (is_short 5 x.fuse) as (λ z. Gained Compacts x
          (cond z (stops_compacting terms x) (with_list terms x))) [
            | true ↦ record {
              delta = [];
              is = sym (append-nil x.whole);
              from = inl tt;
              next = λ d k. absurd (not-compacting _ d k);
            }
            | false ↦ unmoved Compacts x (with_list terms x) refl refl
          ]
      | false ↦ unmoved Compacts x x refl refl
    ]
    by_state (Writing delta) e = unmoved Compacts x x refl refl
    by_state (Compacting start) e = unmoved Compacts x x refl refl

-- whatever befalls a node
pub gains : (terms : Terms) (x : Node) (act : Act) → Gained act x (acted terms x act).node
gains terms x (Creates wish) = called (Creates wish) x _ (create-adds terms (records x) (node_end terms x) wish).each
gains terms x (Grants behaviour) = unmoved (Grants behaviour) x _ refl refl
gains terms x (Sends seq text) =
    called (Sends seq text) x _ (send-one terms (records x) (node_end terms x) seq text)
gains terms x (Ticks now) =
    clocked (Ticks now) x _ now (called (Ticks now) (with_clock x now) _ (tick-adds terms x now).each)
gains terms x (Closes seq) = called (Closes seq) x _ (close-adds terms (records x) (node_end terms x) seq x.clock).each
gains terms x (Ends seq) = called (Ends seq) x _ (end-adds terms (records x) (node_end terms x) seq).each
gains terms x (AsksAck seq) = called (AsksAck seq) x _ (ask_ack-adds (records x) seq).each
gains terms x (NacksMissing seq) = called (NacksMissing seq) x _ (nack_missing-adds (records x) seq x.clock).each
gains terms x (Polls to) = called (Polls to) x (poll (records x) to) tt
gains terms x (Consumes seq upto) =
    called (Consumes seq upto) x _ (consume-adds terms (records x) (node_end terms x) seq upto).each
gains terms x (Receives content) = called (Receives content) x _ (receive-adds terms x content)
gains terms x Compacts = rewrote terms x
gains terms x (Arms calls) = unmoved (Arms calls) x _ refl refl
gains terms x (Crashes kept) = crashed x kept

-- ---- what was fetched had waited

parked-replies : IsOfReplies IsParked
parked-replies = record { pending = λ m more h. h; blocks = λ m outs h k. h }

with-parked : (t : Option Fetched) (outs : List Message) → AllByRecursion IsParked (fetched_message t)
    → AllByRecursion IsParked (fetched_message (fetched_with t outs))
with-parked None outs h = tt
with-parked (Some t) outs h = (h.0, tt)

polls-parked : (w : Waiting Message) (content : Result Message Refusal) (answer : Answer) → AllWaiting IsParked w
    → AllByRecursion IsParked (fetched_message (polls w content answer).fetched)
polls-parked w content answer h =
    with-parked (awaited w (selected answer.outcome content)) answer.outs
    (awaited-all IsParked parked-replies w (selected answer.outcome content) h)

filter-parked : (ms : List Message) → AllByRecursion IsParked (waiting_of ms)
filter-parked [] = tt
filter-parked (m ∷ ms) =
    elim (waits_there (place_of m.addressing.to)) as (λ b. waits_there (place_of m.addressing.to) ≡ b
    → AllByRecursion IsParked (cond b (m ∷ waiting_of ms) (waiting_of ms))) [
      | true ↦ λ e. (e, filter-parked ms)
      | false ↦ λ e. filter-parked ms
    ] refl

-- what waits after a call
pub polled-parked : (w : Waiting Message) (answer : Answer) → AllWaiting IsParked w
    → AllWaiting IsParked (polled_after w answer)
polled-parked w answer h =
    puts-all IsParked (without_fetched w answer.fetched) (waiting_of answer.outs)
    (without-all IsParked w answer.fetched h) (filter-parked answer.outs)

back-after : (x : Node) (answer : Answer) → AllByRecursion IsParked (fetched_message answer.fetched)
    → AllByRecursion IsParked (fetched_after x answer)
back-after x answer h = by_state x.state
  where
    by_delta : (delta : List Fact)
        → AllByRecursion IsParked (said_with x.fuse delta (fetched_message answer.fetched))
    by_delta [] = h
    by_delta (rec ∷ delta) = elim (is_short 4 x.fuse) as (λ b. AllByRecursion IsParked
        (cond b [] (fetched_message answer.fetched))) [ true ↦ tt | false ↦ h ]

    by_state : (z : State) → AllByRecursion IsParked (fetched_by x z answer)
    by_state Up = by_delta answer.delta
    by_state (Writing delta) = tt
    by_state (Compacting start) = tt

none-back : (x : Node) (answer : Answer) → answer.fetched ≡ None → AllByRecursion IsParked (fetched_after x answer)
none-back x answer e = back-after x answer (subst (λ t. AllByRecursion IsParked (fetched_message t)) (sym e) tt)

pub backs : (terms : Terms) (x : Node) (act : Act) → AllWaiting IsParked x.polled
    → AllByRecursion IsParked (acted terms x act).fetched
backs terms x (Creates wish) h = none-back x _ (create-adds terms (records x) (node_end terms x) wish).none
backs terms x (Grants behaviour) h = tt
backs terms x (Sends seq text) h = none-back x _ (send-adds terms (records x) (node_end terms x) seq text).none
backs terms x (Ticks now) h = none-back (with_clock x now) _ (tick-adds terms x now).none
backs terms x (Closes seq) h = none-back x _ (close-adds terms (records x) (node_end terms x) seq x.clock).none
backs terms x (Ends seq) h = none-back x _ (end-adds terms (records x) (node_end terms x) seq).none
backs terms x (AsksAck seq) h = none-back x _ (ask_ack-adds (records x) seq).none
backs terms x (NacksMissing seq) h = none-back x _ (nack_missing-adds (records x) seq x.clock).none
backs terms x (Polls to) h = none-back x (poll (records x) to) refl
backs terms x (Consumes seq upto) h =
    none-back x _ (consume-adds terms (records x) (node_end terms x) seq upto).none
backs terms x (Receives content) h =
    back-after x (received_by terms x content)
    (polls-parked x.polled content (receive terms (records x) (node_end terms x) x.clock x.granted content) h)
backs terms x Compacts h = tt
backs terms x (Arms calls) h = tt
backs terms x (Crashes kept) h = tt
