-- What each call of a node comes to may be added, fits the store, and what is said then is so.
use Rattle.std.proofs.Common.{◌≡◌, ℕ, zero, suc, max, ◌+◌, ◌==◌, ◌&&◌, not, nat_lt, nat_le, cond, Bool, true, false}
use Rattle.std.proofs.Common.{List, [], ◌∷◌}
use Rattle.std.proofs.Common.{◌++◌, ◌^◌, ◌<◌, ◌≤◌, arith, map, length, refl, sym, ap, ◌∙◌, subst, append-nil}
use Rattle.rm_base.specs.Numbered.{numbered}
use Rattle.std.specs.Prelude.{Option, Some, None, IfSome}
use Rattle.std.specs.List.{AllByRecursion, flat_map}
use Rattle.rm_base.specs.Limits.{most_sequences, most_unacked, payload_bytes, window}
use Rattle.rm_base.specs.Message.{max_number}
use Rattle.rm_base.specs.declared.message.Behaviour.{Behaviour}
use Rattle.rm_base.specs.declared.message.Cause.TheVariants.{Operator, Expired}
use Rattle.rm_base.specs.declared.lapse.Lapse.{Lapse}
use Rattle.rm_message.specs.declared.elements.lifecycle.Lifecycle.TheVariants as life
use Rattle.rm_sides.specs.declared.source.phase.OutPhase.{OutPhase}
use Rattle.rm_message.specs.declared.message.Body.TheVariants as body
use Rattle.rm_message.specs.declared.message.Message.{Message}
use Rattle.record_batch.specs.declared.record.OwnOffer.{OwnOffer}
use Rattle.record_batch.specs.declared.record.PeerOffer.{PeerOffer}
use Rattle.record_batch.specs.declared.record.Via.{Via}
use Rattle.record_batch.specs.Fact.{Fact, Creating, Granted, Accepted, Closing, ClosedOut, Closed, Ending}
use Rattle.record_batch.specs.Fact.{EndedOut, Ended, Failed, Consumed}
use Rattle.rm_sides.specs.Destination.Messages.{is_empty}
use Rattle.record_batch.specs.Sequences.Words.{Text, at_seq, last_or}
use Rattle.record_batch.specs.Sequences.Idents.{issue}
use Rattle.record_batch.specs.Sequences.Makers.{Maker, Outgoing, Offered, Incoming, Taken, makers, makers_of, maker}
use Rattle.record_batch.specs.Sequences.Makers.{counter}
use Rattle.record_batch.specs.Sequences.Makers.{number, address}
use Rattle.record_batch.specs.Sequences.Sources.{accepted_count, mark_of, marks, out_ident, phase}
use Rattle.record_batch.specs.Sequences.Destinations.{cursor, has_end, inbox, is_over}
use Rattle.record_batch.specs.Sequences.Find.{acks_to, peer}
use Rattle.rm_protocol.specs.Sound.{SaysCreate, Says, IsAsked, IsIssuedBy, IsWith, Owns, Allows, Keeps, AreWith}
use Rattle.rm_protocol.specs.Sound.{asked_with, drawn, highest}
use Rattle.std.specs.Prelude.{Result, Ok, Err}
use Rattle.std.specs.Option.{option_to_list}
use Rattle.rm_message.specs.declared.refusal.FaultKind.{FaultKind}
use Rattle.rm_message.specs.declared.refusal.Refusal.{Refusal}
use Rattle.record_batch.specs.Sequences.Sources.{first_phase, all_unacked, unacked}
use Rattle.rm_sides.specs.Destination.Incoming.{is_past}
use Rattle.record_batch.specs.Sequences.Destinations.{deadline_of}
use Rattle.rm_protocol.specs.Calls.{Answer, Cause, NoSequence, WrongSide, NotOpen, PayloadTooLong, BadPayload}
use Rattle.rm_protocol.specs.Calls.{WindowFull, NodeFull, Rollover, StoreFull, TooManySequences, refusal, adds}
use Rattle.rm_protocol.specs.Calls.{if_room, Wish, offer_of, wanted, create, is_open, send_out, on_outgoing, send}
use Rattle.rm_protocol.specs.Calls.{close_out, close_in, close_by, close, may_end, end_out, end, expired_from, tick}
use Rattle.rm_protocol.specs.Calls.{judged, receive, refusal_of, fault_block, message_at, messages_at, ticked}
use Rattle.rm_protocol.specs.Calls.{ask_to, ask_out, ask_ack, on_incoming, missing_of, nack_to, nack_by, nack_in}
use Rattle.rm_protocol.specs.Calls.{nack_missing, consume, consume_in, cursor_to, PastInbox}
use Rattle.rm_protocol.specs.Calls.{made_by}
use Rattle.rm_protocol.specs.Addresses.{is_anonymous}
use Rattle.wsa_headers.specs.declared.endpoint.Epr.{Epr}
use Rattle.rm_message.specs.declared.elements.header.AckBlock.{AckBlock}
use Rattle.rm_message.specs.declared.elements.header.AckKind.TheVariants as kind
use Rattle.timers.specs.declared.slots.timers.Key.{Key}
use Rattle.timers.specs.Keys.Waits.{Wait, first_due}
use Rattle.rm_protocol.specs.Heard.{Heard}
use Rattle.rm_protocol.specs.Messages.{data_at, request_at, ack_message}
use Rattle.rm_protocol.specs.Node.{fetched_message}
use Rattle.rm_protocol.specs.Rows.{rows}
use Rattle.rm_protocol.specs.Terms.{Terms, AreTerms}
use Rattle.rm_protocol.specs.Verdict.{tests, verdict, has_room}
use Rattle.rm_protocol.specs.VerdictLemmas.{none-held}
use Rattle.rm_protocol.proofs.ListLemmas.{All-append, Rises-below, numbered-map}
use Rattle.rm_protocol.proofs.Kept.{Keeps-adds, kept-counter}
use Rattle.rm_protocol.proofs.HeardLemmas.{rows-heard}
use Rattle.rm_protocol.proofs.RowLemmas.{rows-right}
use Rattle.rm_protocol.proofs.SaidLemmas.{said-says, data_at-says, request_at-says, final_ack-says, refusal-says}
use Rattle.rm_protocol.proofs.SaidLemmas.{verdict-says}

-- an answer that was read from the records r, of a node that ever had a, beside one that has b
pub record IsAllowed (a b : List Fact) (answer : Answer) : Type 0 where
  pub allows : Allows a b answer.delta
  pub with_ : AreWith b answer.delta
  pub says : AllByRecursion (Says (a ++ answer.delta)) answer.outs
  pub fetched : AllByRecursion (Says (a ++ answer.delta)) (fetched_message answer.fetched)

-- and it fits the store
pub record IsRight (terms : Terms) (place : ℕ) (a b : List Fact) (answer : Answer) : Type 0 where
  pub allowed : IsAllowed a b answer
  pub room : has_room terms place answer.delta ≡ true

refusal-right : (terms : Terms) (place : ℕ) (a b : List Fact) (cause : Cause) → IsRight terms place a b (refusal cause)
refusal-right terms place a b cause = record {
  allowed = record { allows = tt; with_ = tt; says = tt; fetched = tt };
  room = refl;
}

if_room-right : (terms : Terms) (place : ℕ) (a b : List Fact) (answer : Answer) → IsAllowed a b answer
    → IsRight terms place a b (if_room terms place answer)
if_room-right terms place a b answer h = chosen (has_room terms place answer.delta) refl
  where
    chosen : (x : Bool) → has_room terms place answer.delta ≡ x
        → IsRight terms place a b (cond x answer (refusal (StoreFull place (terms.size answer.delta + 6))))
    chosen true e = record { allowed = h; room = e }
    chosen false e = refusal-right terms place a b (StoreFull place (terms.size answer.delta + 6))

refused-or : (terms : Terms) (place : ℕ) (a b : List Fact) (x : Bool) (cause : Cause) (answer : Answer)
    → IsRight terms place a b answer
    → IsRight terms place a b (cond x (refusal cause) answer)
refused-or terms place a b true cause answer h = refusal-right terms place a b cause
refused-or terms place a b false cause answer h = h

-- create
pub offer_of-fresh : (r a : List Fact) (offer : Option Behaviour) → counter r ≡ counter a
    → IfSome (offer_of (counter r) offer) (λ (own : OwnOffer). own.counter ≡ counter a + 2)
offer_of-fresh r a None e = tt
offer_of-fresh r a (Some y) e = ap (λ z. z + 2) e

made-with : (b : List Fact) (ticket : ℕ) (to : Text) (via : Via) (lapse : Lapse) (offer : Option OwnOffer)
    → to ≡ address b
    → AreWith b (Creating ticket to via lapse offer ∷ [])
made-with b ticket to via lapse None e = (e, tt)
made-with b ticket to via lapse (Some own) e = (e, (e, tt))

pub create-right : (terms : Terms) (place : ℕ) (r a b : List Fact) (wish : Wish) → Keeps r a → wish.to ≡ address b
    → IsRight terms place a b (create terms r place wish)
create-right terms place r a b wish w e =
    let rec = Creating (counter r + 1) wish.to wish.via wish.expires (offer_of (counter r) wish.offer) in
    let same : counter r ≡ counter a = kept-counter r a w in
    let allows : Allows a b (rec ∷ []) = ((ap (λ z. z + 1) same, offer_of-fresh r a wish.offer same), tt, tt) in
    refused-or terms place a b (nat_lt most_sequences (length (makers r) + wanted wish.offer))
    (TooManySequences (length (makers r))) _
    (if_room-right terms place a b _ (record {
      allows = allows;
      with_ = made-with b (counter r + 1) wish.to wish.via wish.expires (offer_of (counter r) wish.offer) e;
      fetched = tt;
      says = request_at-says (r ++ rec ∷ []) (a ++ rec ∷ []) (length (makers r) + 1)
          (Keeps-adds r a b (rec ∷ []) allows w);
    }))

-- no phase record makes a sequence open again
IsMark : ℕ × OutPhase → Type 0
IsMark m = is_open m.1 ≡ false

mark_of-marks : (rec : Fact) → AllByRecursion IsMark (mark_of rec)
unfolding IsMark
mark_of-marks (Closing s t) = (refl, tt)
mark_of-marks (ClosedOut s) = (refl, tt)
mark_of-marks (Ending s t) = (refl, tt)
mark_of-marks (EndedOut s) = (refl, tt)
mark_of-marks (Failed s f) = (refl, tt)
mark_of-marks _ = tt

all-marks : (r : List Fact) → AllByRecursion IsMark (flat_map mark_of r)
all-marks [] = tt
all-marks (rec ∷ r) = All-append IsMark (mark_of rec) (flat_map mark_of r) (mark_of-marks rec) (all-marks r)

marks-at : (s : ℕ) (ms : List (ℕ × OutPhase)) → AllByRecursion IsMark ms
    → AllByRecursion (λ (p : OutPhase). is_open p ≡ false) (at_seq s ms)
unfolding IsMark
marks-at s [] h = tt
marks-at s (m ∷ ms) h = chosen (m.0 == s) (marks-at s ms h.1)
  where
    chosen : (b : Bool) → AllByRecursion (λ (p : OutPhase). is_open p ≡ false) (at_seq s ms)
        → AllByRecursion (λ (p : OutPhase). is_open p ≡ false) (cond b (m.1 ∷ at_seq s ms) (at_seq s ms))
    chosen true k = (h.0, k)
    chosen false k = k

last-mark : (p : OutPhase) (ms : List OutPhase) → is_open p ≡ false
    → AllByRecursion (λ (p : OutPhase). is_open p ≡ false) ms → is_open (last_or p ms) ≡ false
last-mark p [] e h = e
last-mark p (m ∷ ms) e h = last-mark m ms h.0 h.1

unmarked : (p : OutPhase) (ms : List OutPhase) → AllByRecursion (λ (p : OutPhase). is_open p ≡ false) ms
    → is_open (last_or p ms) ≡ true → is_empty ms ≡ true
unmarked p [] h e = refl
unmarked p (m ∷ ms) h e = absurd (cc (last-mark m ms h.0 h.1))

open-unmarked : (r : List Fact) (s : ℕ) → is_open (phase r s) ≡ true → is_empty (marks r s) ≡ true
open-unmarked r s e = unmarked (first_phase (out_ident r s)) (marks r s)
    (marks-at s (flat_map mark_of r) (all-marks r)) e

-- send
send_out-right : (terms : Terms) (place : ℕ) (r a b : List Fact) (s : ℕ) (text : Text) → Keeps r a
    → IsRight terms place a b (send_out terms r place s text)
send_out-right terms place r a b s text w =
    refused-or terms place a b (nat_lt payload_bytes (length text)) (PayloadTooLong (length text)) _
    (refused-or terms place a b (not (terms.is_content text)) BadPayload _
    (by_phase (is_open (phase r s)) refl))
  where
    by_phase : (x : Bool) → is_open (phase r s) ≡ x → IsRight terms place a b (cond (not x) (refusal NotOpen)
        (cond (nat_le window (unacked r s)) (refusal (WindowFull (unacked r s)))
        (cond (nat_le most_unacked (all_unacked r)) (refusal (NodeFull (all_unacked r)))
        (cond (nat_le max_number (accepted_count r s)) (refusal Rollover)
        (if_room terms place (adds r (Accepted s text ∷ [])
        (λ now. option_to_list (data_at now s (accepted_count r s + 1)))))))))
    by_phase false e = refusal-right terms place a b NotOpen
    by_phase true e =
        let allows : Allows a b (Accepted s text ∷ []) =
        (ap (λ z. is_empty (at_seq s z)) (sym w.same.frame.marks_) ∙ open-unmarked r s e, tt, tt) in
        refused-or terms place a b (nat_le window (unacked r s)) (WindowFull (unacked r s)) _
        (refused-or terms place a b (nat_le most_unacked (all_unacked r)) (NodeFull (all_unacked r)) _
        (refused-or terms place a b (nat_le max_number (accepted_count r s)) Rollover _
        (if_room-right terms place a b _ (record {
          allows = allows;
          with_ = tt;
          fetched = tt;
          says = data_at-says (r ++ Accepted s text ∷ []) (a ++ Accepted s text ∷ []) s (accepted_count r s + 1)
              (Keeps-adds r a b (Accepted s text ∷ []) allows w);
        }))))

on_outgoing-right : (terms : Terms) (place : ℕ) (a b : List Fact) (x : Option Maker) (answer : Answer)
    → IsRight terms place a b answer
    → IsRight terms place a b (on_outgoing x answer)
on_outgoing-right terms place a b None answer h = refusal-right terms place a b NoSequence
on_outgoing-right terms place a b (Some (Outgoing t to v l)) answer h = h
on_outgoing-right terms place a b (Some (Taken t q k)) answer h = h
on_outgoing-right terms place a b (Some (Offered t c to y)) answer h = refusal-right terms place a b WrongSide
on_outgoing-right terms place a b (Some (Incoming c t k y d l)) answer h = refusal-right terms place a b WrongSide

pub send-right : (terms : Terms) (place : ℕ) (r a b : List Fact) (s : ℕ) (text : Text) → Keeps r a
    → IsRight terms place a b (send terms r place s text)
send-right terms place r a b s text w = on_outgoing-right terms place a b (maker r s) (send_out terms r place s text)
    (send_out-right terms place r a b s text w)

-- close and end
close_out-right : (terms : Terms) (place : ℕ) (r a b : List Fact) (s : ℕ) → Keeps r a
    → IsRight terms place a b (close_out terms r place s)
close_out-right terms place r a b s w = chosen (is_open (phase r s))
  where
    rec : Fact
    rec = Closing s (counter r + 1)

    right : IsRight terms place a b (if_room terms place
        (adds r (Closing s (counter r + 1) ∷ []) (λ now. option_to_list (request_at now s))))
    right = if_room-right terms place a b _ (record {
      allows = (tt, tt, tt);
      with_ = tt;
      fetched = tt;
      says = request_at-says (r ++ Closing s (counter r + 1) ∷ []) (a ++ Closing s (counter r + 1) ∷ []) s
          (Keeps-adds r a b (Closing s (counter r + 1) ∷ []) (tt, tt, tt) w);
    })

    chosen : (x : Bool) → IsRight terms place a b
        (cond x (if_room terms place (adds r (Closing s (counter r + 1) ∷ [])
        (λ now. option_to_list (request_at now s)))) (refusal NotOpen))
    chosen true = right
    chosen false = refusal-right terms place a b NotOpen

close_in-right : (terms : Terms) (place : ℕ) (r a b : List Fact) (s now : ℕ) → Keeps r a
    → IsRight terms place a b (close_in terms r place s now)
close_in-right terms place r a b s now w =
    refused-or terms place a b (is_over r s now) NotOpen _ (if_room-right terms place a b _ (record {
      allows = (tt, tt, tt);
      with_ = tt;
      fetched = tt;
      says = final_ack-says (r ++ Closed s Operator 0 ∷ []) (a ++ Closed s Operator 0 ∷ []) s now
          (Keeps-adds r a b (Closed s Operator 0 ∷ []) (tt, tt, tt) w);
    }))

pub close-right : (terms : Terms) (place : ℕ) (r a b : List Fact) (s now : ℕ) → Keeps r a
    → IsRight terms place a b (close terms r place s now)
close-right terms place r a b s now w = by_maker (maker r s)
  where
    by_maker : (x : Option Maker) → IsRight terms place a b (close_by terms r place s now x)
    by_maker None = refusal-right terms place a b NoSequence
    by_maker (Some (Outgoing t to v l)) = close_out-right terms place r a b s w
    by_maker (Some (Taken t q k)) = close_out-right terms place r a b s w
    by_maker (Some (Offered t c to y)) = close_in-right terms place r a b s now w
    by_maker (Some (Incoming c t k y d l)) = close_in-right terms place r a b s now w

end_out-right : (terms : Terms) (place : ℕ) (r a b : List Fact) (s : ℕ) → Keeps r a
    → IsRight terms place a b (end_out terms r place s)
end_out-right terms place r a b s w = chosen (may_end (phase r s))
  where
    chosen : (x : Bool) → IsRight terms place a b
        (cond x (if_room terms place (adds r (Ending s (counter r + 1) ∷ [])
        (λ now. option_to_list (request_at now s)))) (refusal NotOpen))
    chosen true = if_room-right terms place a b _ (record {
      allows = (tt, tt, tt);
      with_ = tt;
      fetched = tt;
      says = request_at-says (r ++ Ending s (counter r + 1) ∷ []) (a ++ Ending s (counter r + 1) ∷ []) s
          (Keeps-adds r a b (Ending s (counter r + 1) ∷ []) (tt, tt, tt) w);
    })
    chosen false = refusal-right terms place a b NotOpen

pub end-right : (terms : Terms) (place : ℕ) (r a b : List Fact) (s : ℕ) → Keeps r a
    → IsRight terms place a b (end terms r place s)
end-right terms place r a b s w = on_outgoing-right terms place a b (maker r s) (end_out terms r place s)
    (end_out-right terms place r a b s w)

-- tick
expired-allowed : (r a b : List Fact) (now k : ℕ) (ms : List Maker) → Allows a b (expired_from r now k ms)
expired-allowed r a b now k [] = tt
expired-allowed r a b now k (m ∷ ms) =
    chosen (is_past (deadline_of (Some m)) now && not (has_end r (k + 1))) (λ z. expired-allowed r z b now (k + 1) ms)
  where
    chosen : (x : Bool) → ((z : List Fact) → Allows z b (expired_from r now (k + 1) ms))
        → Allows a b (cond x (Ended (k + 1) Expired 0 ∷ expired_from r now (k + 1) ms) (expired_from r now (k + 1) ms))
    chosen true h = (tt, tt, h (a ++ Ended (k + 1) Expired 0 ∷ []))
    chosen false h = h a

expired-with : (r b : List Fact) (now k : ℕ) (ms : List Maker) → AreWith b (expired_from r now k ms)
expired-with r b now k [] = tt
expired-with r b now k (m ∷ ms) = chosen (is_past (deadline_of (Some m)) now && not (has_end r (k + 1)))
    (expired-with r b now (k + 1) ms)
  where
    chosen : (x : Bool) → AreWith b (expired_from r now (k + 1) ms)
        → AreWith b (cond x (Ended (k + 1) Expired 0 ∷ expired_from r now (k + 1) ms) (expired_from r now (k + 1) ms))
    chosen true h = h
    chosen false h = h

-- what is emitted is so by the records: the message of a key is one of the node's own, or the request of its sequence
message_at-says : (r a : List Fact) (s i : ℕ) → Keeps r a → AllByRecursion (Says a) (option_to_list (message_at r s i))
message_at-says r a s zero w = request_at-says r a s w
message_at-says r a s (suc i) w = data_at-says r a s (suc i) w

pub messages_at-says : (r a : List Fact) (keys : List Key) → Keeps r a → AllByRecursion (Says a) (messages_at r keys)
messages_at-says r a [] w = tt
messages_at-says r a (k ∷ keys) w =
    All-append (Says a) (option_to_list (message_at r k.seq k.number)) (messages_at r keys)
    (message_at-says r a k.seq k.number w) (messages_at-says r a keys w)

ticked-allowed : (r a b : List Fact) (now : ℕ) (keys : List Key) (delta : List Fact) → Keeps r a → Allows a b delta
    → AreWith b delta → IsAllowed a b (ticked r now keys delta)
ticked-allowed r a b now keys delta w h k = record {
  allows = h;
  with_ = k;
  fetched = tt;
  says = messages_at-says (r ++ delta) (a ++ delta) keys (Keeps-adds r a b delta h w);
}

pub tick-right : (terms : Terms) (place : ℕ) (r a b : List Fact) (now time : ℕ) (waits : List Wait) → Keeps r a
    → IsRight terms place a b (tick terms r place now time waits)
tick-right terms place r a b now time waits w = chosen (has_room terms place (expired_from r now 0 (makers r))) refl
  where
    chosen : (x : Bool) → has_room terms place (expired_from r now 0 (makers r)) ≡ x
        → IsRight terms place a b
        (cond x (ticked r now (first_due (max time now) waits) (expired_from r now 0 (makers r)))
        (ticked r now (first_due (max time now) waits) []))
    chosen true e = record {
      allowed = ticked-allowed r a b now (first_due (max time now) waits) (expired_from r now 0 (makers r)) w
          (expired-allowed r a b now 0 (makers r)) (expired-with r b now 0 (makers r));
      room = e;
    }
    chosen false e =
        record { allowed = ticked-allowed r a b now (first_due (max time now) waits) [] w tt tt; room = refl }

-- a request for an acknowledgement, and a Nack, say nothing of what was sent or received
ask_to-says : (r : List Fact) (to : Option Epr) (q : Option Text) → AllByRecursion (Says r) (ask_to to q)
ask_to-says r None None = tt
ask_to-says r None (Some q) = tt
ask_to-says r (Some to) None = tt
ask_to-says r (Some to) (Some q) =
    (record { data_ = tt; acks = tt; create = tt; place = tt; name = tt; response = tt; final = tt }, tt)

pub ask_ack-right : (terms : Terms) (place : ℕ) (r a b : List Fact) (s : ℕ) → IsRight terms place a b (ask_ack r s)
ask_ack-right terms place r a b s = on_outgoing-right terms place a b (maker r s) (ask_out r s)
    (chosen (may_end (phase r s)))
  where
    chosen : (x : Bool) → IsRight terms place a b
        (cond x (adds r [] (λ after. ask_to (peer after s) (out_ident after s))) (refusal NotOpen))
    chosen true = record {
      allowed = record {
        allows = tt;
        with_ = tt;
        fetched = tt;
        says = ask_to-says (a ++ []) (peer (r ++ []) s) (out_ident (r ++ []) s);
      };
      room = refl;
    }
    chosen false = refusal-right terms place a b NotOpen

nack-says : (r : List Fact) (to : Option Epr) (q : Text) (numbers : List ℕ)
    → AllByRecursion (Says r) (nack_to to q numbers)
nack-says r to q [] = tt
nack-says r None q (n ∷ ns) = tt
nack-says r (Some to) q (n ∷ ns) = chosen (is_anonymous to.address)
  where
    block : AckBlock
    block = record { ident = q; kind = kind.Nack (n ∷ ns); last = false }

    chosen : (x : Bool) → AllByRecursion (Says r) (cond x [] (ack_message to (block ∷ []) ∷ []))
    chosen true = tt
    chosen false = (
      record {
        data_ = tt;
        acks = ((λ i h. absurd (cc), tt), tt);
        create = tt;
        place = tt;
        name = tt;
        response = tt;
        final = tt;
      },
      tt,
    )

nack_by-says : (a r : List Fact) (s : ℕ) (made : Option (ℕ × Text)) → AllByRecursion (Says a) (nack_by r s made)
nack_by-says a r s None = tt
nack_by-says a r s (Some made) = nack-says a (acks_to r s) (issue (number r) made.0) (missing_of r s)

on_incoming-right : (terms : Terms) (place : ℕ) (a b : List Fact) (x : Option Maker) (answer : Answer)
    → IsRight terms place a b answer
    → IsRight terms place a b (on_incoming x answer)
on_incoming-right terms place a b None answer h = refusal-right terms place a b NoSequence
on_incoming-right terms place a b (Some (Outgoing t to v l)) answer h = refusal-right terms place a b WrongSide
on_incoming-right terms place a b (Some (Taken t q k)) answer h = refusal-right terms place a b WrongSide
on_incoming-right terms place a b (Some (Offered t c to y)) answer h = h
on_incoming-right terms place a b (Some (Incoming c t k y d l)) answer h = h

pub nack_missing-right : (terms : Terms) (place : ℕ) (r a b : List Fact) (s now : ℕ)
    → IsRight terms place a b (nack_missing r s now)
nack_missing-right terms place r a b s now =
    on_incoming-right terms place a b (maker r s) (nack_in r s now)
    (refused-or terms place a b (is_over r s now) NotOpen _ (record {
      allowed = record {
        allows = tt;
        with_ = tt;
        fetched = tt;
        says = nack_by-says (a ++ []) (r ++ []) s (made_by (r ++ []) (maker (r ++ []) s));
      };
      room = refl;
    }))

-- consume says nothing
pub consume-right : (terms : Terms) (place : ℕ) (r a b : List Fact) (s upto : ℕ)
    → IsRight terms place a b (consume terms r place s upto)
consume-right terms place r a b s upto =
    on_incoming-right terms place a b (maker r s) (consume_in terms r place s upto)
    (refused-or terms place a b (nat_lt (length (inbox r s)) upto) (PastInbox (length (inbox r s))) _
    (if_room-right terms place a b (adds r (cursor_to r s upto) (λ after. [])) (chosen (nat_lt (cursor r s) upto))))
  where
    chosen : (x : Bool) → IsAllowed a b (adds r (cond x (Consumed s upto ∷ []) []) (λ after. []))
    chosen true = record { allows = (tt, tt, tt); with_ = tt; says = tt; fetched = tt }
    chosen false = record { allows = tt; with_ = tt; says = tt; fetched = tt }

-- the tickets of a node are numbers of 62 bits
pub record IsFew (m : ℕ) (b : List Fact) : Type 0 where
  pub owns : Owns m b
  pub few : counter b < 2 ^ 62

-- the ticket of a sequence that was asked for was drawn
pub asked-drawn : (maker_ : Maker) (ticket : ℕ) → asked_with maker_ ≡ Some ticket → drawn maker_ ≡ Some ticket
asked-drawn (Outgoing t to v l) ticket e = e
asked-drawn (Offered t c to y) ticket e = absurd (cc)
asked-drawn (Incoming c t k y d l) ticket e = absurd (cc)
asked-drawn (Taken t q k) ticket e = absurd (cc)

-- the message with which a sequence was asked for was issued
pub asked-issued : (m : ℕ) (b : List Fact) (s : ℕ) (t : Text) → IsFew m b → IsAsked b s t → IsIssuedBy (number b) t
asked-issued m b s t f h =
    let there : numbered (map drawn (makers b)) s ≡ Some (Some h.ticket) =
    numbered-map drawn (makers b) s h.maker_ h.there ∙ ap Some (asked-drawn h.maker_ h.ticket h.asked) in
    let below : h.ticket ≤ highest 0 (map drawn (makers b)) =
    Rises-below (map drawn (makers b)) s h.ticket f.owns.rising there in
    let counted : highest 0 (map drawn (makers b)) ≤ counter b = f.owns.below in
    let few : counter b < 2 ^ 62 = f.few in
    record { drawn = h.ticket; bits = omega arith; is = h.is }

-- receive: the sequences that a message makes are between the node and the one that says it
heard_one-with : (n : ℕ) (b : List Fact) (m : Message) → IsFew n b → Says b m → (rec : Fact) → Heard m rec
    → AllByRecursion (IsWith b) (makers_of rec)
heard_one-with n b m f h (Granted c t acks_to y deadline lapse offer) e = by_offer offer
  where
    says : SaysCreate b (Some t) (body.Lifecycle (life.Create e.1.0))
    says = subst (λ z. SaysCreate b z (body.Lifecycle (life.Create e.1.0))) e.0
        (subst (SaysCreate b m.addressing.message_id) e.1.1 h.create)

    is : IsIssuedBy (number b) t
    is = asked-issued n b says.0.seq t f says.0.asked

    by_offer : (offer : Option PeerOffer)
        → AllByRecursion (IsWith b) (makers_of (Granted c t acks_to y deadline lapse offer))
    by_offer None = (is, tt)
    by_offer (Some q) = (is, (is, tt))
heard_one-with n b m f h (Creating ticket to via lapse offer) e = absurd e
heard_one-with n b m f h _ e = tt

heard-with : (n : ℕ) (b : List Fact) (m : Message) → IsFew n b → Says b m → (d : List Fact)
    → AllByRecursion (Heard m) d → AreWith b d
heard-with n b m f h [] e = tt
heard-with n b m f h (rec ∷ d) e =
    All-append (IsWith b) (makers_of rec) (makers d) (heard_one-with n b m f h rec e.0) (heard-with n b m f h d e.1)

-- a message without a verdict fits the store
pub not-false : (x : Bool) → not x ≡ false → x ≡ true
not-false true e = refl
not-false false e = absurd (cc)

pub verdict-room : (terms : Terms) (r : List Fact) (place now : ℕ) (y : Behaviour) (m : Message)
    → verdict terms r place now y m ≡ None
    → has_room terms place (rows terms now y m r) ≡ true
verdict-room terms r place now y m e =
    let none = none-held (tests terms r place now y m) e in
    not-false (has_room terms place (rows terms now y m r)) none.1.1.1.1.1.1.1.1.0

judged-right : (n k : ℕ) (terms : Terms) (place : ℕ) (r a b : List Fact) (now : ℕ) (y : Behaviour) (m : Message)
    (v : Option FaultKind) → AreTerms terms
    → Keeps r a → Owns n a → IsFew k b → Says b m → verdict terms r place now y m ≡ v
    → IsRight terms place a b (judged terms r now y m v)
judged-right n k terms place r a b now y m (Some kind) t w o f h e = record {
  allowed = record {
    allows = tt;
    with_ = tt;
    fetched = tt;
    says = (
      subst (λ z. Says z (terms.fault (refusal_of m kind) (fault_block r now m kind))) (sym (append-nil a))
          (verdict-says terms r a now m kind t w),
      tt,
    );
  };
  room = refl;
}
judged-right n k terms place r a b now y m None t w o f h e = record {
  allowed = record {
    allows = rows-right b terms now y m h n r a w o;
    with_ = heard-with k b m f h (rows terms now y m r) (rows-heard terms now y m r);
    fetched = tt;
    says = said-says (r ++ rows terms now y m r) (a ++ rows terms now y m r) now m
        (Keeps-adds r a b (rows terms now y m r) (rows-right b terms now y m h n r a w o) w);
  };
  room = verdict-room terms r place now y m e;
}

-- what came from the other node
abbrev pub SaysContent : List Fact → Result Message Refusal → Type 0
SaysContent b (Ok m) = Says b m
SaysContent b (Err refusal) = Unit {0}

pub receive-right : (n k : ℕ) (terms : Terms) (place : ℕ) (r a b : List Fact) (now : ℕ) (y : Behaviour)
    (content : Result Message Refusal) → AreTerms terms
    → Keeps r a → Owns n a → IsFew k b → SaysContent b content
    → IsRight terms place a b (receive terms r place now y content)
receive-right n k terms place r a b now y (Ok m) t w o f h =
    judged-right n k terms place r a b now y m (verdict terms r place now y m) t w o f h refl
receive-right n k terms place r a b now y (Err refusal) t w o f h = record {
  allowed = record {
    allows = tt;
    with_ = tt;
    fetched = tt;
    says =
        (subst (λ z. Says z (terms.fault refusal None)) (sym (append-nil a)) (refusal-says terms a refusal t), tt);
  };
  room = refl;
}
