-- Each call of a node: the records that it adds stay within the limits, and what it says keeps the rules.
use Rattle.std.proofs.Common.{◌≡◌, ℕ, zero, suc, ◌+◌, ◌≤◌, max, Bool, true, false, cond, List, [], ◌∷◌}
use Rattle.std.proofs.Common.{◌++◌, length, refl, sym, subst, arith, inl, inr, Option, Some, None}
use Rattle.std.specs.Prelude.{◌&&◌, not, nat_le, nat_lt, IfSome, Result, Ok, Err}
use Rattle.std.specs.List.{AllByRecursion}
use Rattle.std.specs.Option.{option_to_list}
use Rattle.std.proofs.lemmas.Bool.Decides.{nat_tests}
use Rattle.rm_sides.specs.Ranges.Laws.{RangeIsAdded}
use Rattle.rm_base.specs.Limits.{most_sequences, most_unacked, payload_bytes, window}
use Rattle.rm_base.specs.Message.{max_number}
use Rattle.rm_base.specs.Text.{IsText}
use Rattle.rm_base.specs.declared.message.Behaviour.{Behaviour}
use Rattle.rm_base.specs.declared.message.Cause.TheVariants.{Operator, Expired}
use Rattle.rm_message.specs.Elements.Writable.{IsAckWritable, IsNumber, IsSequenceWritable}
use Rattle.rm_message.specs.declared.elements.header.AckBlock.{AckBlock}
use Rattle.rm_message.specs.declared.elements.header.AckKind.TheVariants as kind
use Rattle.rm_message.specs.declared.elements.header.SeqHeader.{SeqHeader}
use Rattle.wsa_headers.specs.Writable.{IsEprWritable}
use Rattle.wsa_headers.specs.declared.endpoint.Epr.{Epr}
use Rattle.rm_message.specs.declared.elements.lifecycle.Lifecycle.TheVariants as life
use Rattle.rm_message.specs.declared.message.Body.{Body}
use Rattle.rm_message.specs.declared.message.Body.TheVariants as body
use Rattle.rm_message.specs.declared.message.Message.{Message}
use Rattle.rm_message.specs.declared.refusal.FaultKind.{FaultKind}
use Rattle.rm_message.specs.declared.refusal.FaultKind.TheVariants.{UnknownSequence, SequenceTerminated}
use Rattle.rm_message.specs.declared.refusal.FaultKind.TheVariants.{SequenceClosed}
use Rattle.rm_message.specs.declared.refusal.FaultKind.TheVariants.{InvalidAcknowledgement}
use Rattle.rm_message.specs.declared.refusal.Refusal.{Refusal}
use Rattle.soap_envelope.specs.Soap.{soap_space}
use Rattle.message_writer.specs.Faults.{fault_of}
use Rattle.message_writer.specs.Rules.{KeepsRules}
use Rattle.rm_wire.specs.Writable.{IsRefusalWritable}
use Rattle.record_batch.specs.Fact.{Fact, Creating, Accepted, Closing, Closed, Ending, Ended, Consumed}
use Rattle.record_batch.specs.Sequences.IdentTexts.{issue-text}
use Rattle.record_batch.specs.Sequences.Words.{Text}
use Rattle.record_batch.specs.Sequences.Idents.{issue}
use Rattle.record_batch.specs.Sequences.Makers.{Maker, Outgoing, Offered, Incoming, Taken, makers, makers_of, maker}
use Rattle.record_batch.specs.Sequences.Makers.{counter}
use Rattle.record_batch.specs.Sequences.Makers.{number}
use Rattle.record_batch.specs.Sequences.Sources.{accepted_count, out_ident, phase, unacked, all_unacked}
use Rattle.rm_sides.specs.Destination.Incoming.{is_past}
use Rattle.record_batch.specs.Sequences.Destinations.{cursor, has_end, inbox, is_over, deadline_of}
use Rattle.node_laws.proofs.Lists.{All-append}
use Rattle.rm_protocol.specs.Calls.{adds_and_moves, message_at, messages_at, ticked}
use Rattle.rm_protocol.specs.Waiting.{Moves, no_moves}
use Rattle.timers.specs.declared.slots.timers.Key.{Key}
use Rattle.timers.specs.Keys.Waits.{Wait, first_due}
use Rattle.record_batch.specs.Sequences.Find.{find_incoming, acks_to, peer}
use Rattle.rm_protocol.specs.Calls.{Answer, Cause, NoSequence, WrongSide, NotOpen, PayloadTooLong, BadPayload}
use Rattle.rm_protocol.specs.Calls.{WindowFull, NodeFull, missing_of}
use Rattle.rm_protocol.specs.Calls.{Rollover, StoreFull, TooManySequences, refusal, adds, if_room, Wish, offer_of}
use Rattle.rm_protocol.specs.Calls.{wanted, create, is_open, send_out, on_outgoing, send, final_ack, made_by}
use Rattle.rm_protocol.specs.Calls.{close_out, close_in, close_by, close, may_end, end_out, end, expired_from, tick}
use Rattle.rm_protocol.specs.Calls.{first_invalid, block_by, block_at, fault_block, fault_ident, refusal_of, judged}
use Rattle.rm_protocol.specs.Calls.{receive, ask_to, ask_out, ask_ack, on_incoming, nack_to, nack_by, nack_in}
use Rattle.rm_protocol.specs.Calls.{nack_missing, consume, consume_in, cursor_to, PastInbox}
use Rattle.rm_protocol.specs.Messages.{block_of, data_at, request_at}
use Rattle.rm_protocol.specs.Polls.{make_message, poll}
use Rattle.rm_protocol.specs.Rows.{rows}
use Rattle.rm_protocol.specs.Said.{ack_to, said}
use Rattle.rm_protocol.specs.Terms.{Terms}
use Rattle.rm_protocol.specs.Verdict.{has_room, is_invalid, target, tests, verdict}
use Rattle.rm_protocol.specs.VerdictLemmas.{none-held}
use Rattle.node_laws.specs.OwnTerms.{AreOwn}
use Rattle.node_laws.specs.Read.{IsBodyRead, IsContentRead, MayBeWished, WasRead}
use Rattle.node_laws.specs.Records.{IsKept}
use Rattle.node_laws.proofs.Kept.{AreAllowed}
use Rattle.node_laws.proofs.Lists.{to_list}
use Rattle.node_laws.proofs.Messages.{IsByTheRules, ask-kept, data_at-kept, make-kept, request_at-kept}
use Rattle.node_laws.proofs.Rows.{IsQuiet, plain, quiets-allowed, rows-allowed}
use Rattle.node_laws.proofs.Said.{ack_to-kept, fault-kept, own_messages-kept, said-kept}
use Rattle.node_laws.proofs.Values.{acks_to-kept, block-kept, ident-kept as name-kept, missing-kept, peer-kept}

-- what is known of the layers below
pub record Below : Type 0 where
  pub ranges : RangeIsAdded
  pub fault : (soap : List ℕ) (refusal : Refusal) (block : Option AckBlock) → IsRefusalWritable refusal block
      → KeepsRules soap (fault_of refusal block)

-- the records of an answer are allowed, and with them there what it says keeps the rules
pub record IsGoodAnswer (r : List Fact) (answer : Answer) : Type 0 where
  pub allowed : AreAllowed r answer.delta
  pub says : IsKept (r ++ answer.delta) → AllByRecursion IsByTheRules answer.outs

refused : (r : List Fact) (cause : Cause) → IsGoodAnswer r (refusal cause)
refused r cause = record { allowed = tt; says = λ h. tt }

unless-refused : (r : List Fact) (x : Bool) (cause : Cause) (answer : Answer) → (x ≡ false → IsGoodAnswer r answer)
    → IsGoodAnswer r (cond x (refusal cause) answer)
unless-refused r true cause answer h = refused r cause
unless-refused r false cause answer h = h refl

if_room-good : (terms : Terms) (r : List Fact) (place : ℕ) (answer : Answer) → IsGoodAnswer r answer
    → IsGoodAnswer r (if_room terms place answer)
if_room-good terms r place answer h = chosen (has_room terms place answer.delta)
  where
    chosen : (x : Bool)
        → IsGoodAnswer r (cond x answer (refusal (StoreFull place (terms.size answer.delta + 6))))
    chosen true = h
    chosen false = refused r (StoreFull place (terms.size answer.delta + 6))

moves-good : (r delta : List Fact) (moves : Moves) (outs : List Fact → List Message) → AreAllowed r delta
    → (IsKept (r ++ delta) → AllByRecursion IsByTheRules (outs (r ++ delta)))
    → IsGoodAnswer r (adds_and_moves r delta moves outs)
moves-good r delta moves outs a s = record { allowed = a; says = s }

adds-good : (r delta : List Fact) (outs : List Fact → List Message) → AreAllowed r delta
    → (IsKept (r ++ delta) → AllByRecursion IsByTheRules (outs (r ++ delta))) → IsGoodAnswer r (adds r delta outs)
adds-good r delta outs a s = moves-good r delta no_moves outs a s

on_outgoing-good : (r : List Fact) (x : Option Maker) (answer : Answer) → IsGoodAnswer r answer
    → IsGoodAnswer r (on_outgoing x answer)
on_outgoing-good r None answer h = record { allowed = tt; says = λ k. tt }
on_outgoing-good r (Some (Outgoing ticket to via lapse)) answer h = h
on_outgoing-good r (Some (Taken message_id ident endpoint)) answer h = h
on_outgoing-good r (Some (Offered ticket counter to behaviour)) answer h = record { allowed = tt; says = λ k. tt }
on_outgoing-good r (Some (Incoming c message_id acks_to behaviour deadline lapse)) answer h =
    record { allowed = tt; says = λ k. tt }

-- ---- create and send

places-left : (r : List Fact) (drawn : ℕ) (wish : Wish)
    → nat_lt most_sequences (length (makers r) + wanted wish.offer) ≡ false
    → length (makers r)
    + length (makers_of (Creating drawn wish.to wish.via wish.expires (offer_of (counter r) wish.offer)))
    ≤ most_sequences
places-left r drawn wish = by_offer wish.offer
  where
    by_offer : (offer : Option Behaviour) → nat_lt most_sequences (length (makers r) + wanted offer) ≡ false
        → length (makers r)
        + length (makers_of (Creating drawn wish.to wish.via wish.expires (offer_of (counter r) offer)))
        ≤ most_sequences
    by_offer None e = grind (arith, nat_tests)
    by_offer (Some behaviour) e = grind (arith, nat_tests)

pub create-good : (terms : Terms) (r : List Fact) (place : ℕ) (wish : Wish) → MayBeWished wish
    → IsGoodAnswer r (create terms r place wish)
create-good terms r place wish h =
    let f = Creating (counter r + 1) wish.to wish.via wish.expires (offer_of (counter r) wish.offer) in
    unless-refused r (nat_lt most_sequences (length (makers r) + wanted wish.offer))
    (TooManySequences (length (makers r))) _
    (λ e. if_room-good terms r place
    (adds r (f ∷ []) (λ now. option_to_list (request_at now (length (makers r) + 1))))
    (adds-good r (f ∷ []) (λ now. option_to_list (request_at now (length (makers r) + 1))) (
      record {
        limits = h.expires;
        values = h.to;
        places = inl (places-left r (counter r + 1) wish e);
        room = tt;
        near = tt;
      },
      tt,
    )
    (λ k. to_list IsByTheRules (request_at (r ++ f ∷ []) (length (makers r) + 1))
    (request_at-kept (r ++ f ∷ []) (length (makers r) + 1) k))))

not-false : (x : Bool) → not x ≡ false → x ≡ true
not-false true e = refl
not-false false e = absurd (cc)

pub send-good : (terms : Terms) (r : List Fact) (place s : ℕ) (text : Text) → AreOwn terms
    → IsGoodAnswer r (send terms r place s text)
send-good terms r place s text own =
    let f = Accepted s text in
    on_outgoing-good r (maker r s) (send_out terms r place s text)
    (unless-refused r (nat_lt payload_bytes (length text)) (PayloadTooLong (length text)) _ (λ a.
    unless-refused r (not (terms.is_content text)) BadPayload _ (λ b.
    unless-refused r (not (is_open (phase r s))) NotOpen _ (λ c.
    unless-refused r (nat_le window (unacked r s)) (WindowFull (unacked r s)) _ (λ d.
    unless-refused r (nat_le most_unacked (all_unacked r)) (NodeFull (all_unacked r)) _ (λ e.
    unless-refused r (nat_le max_number (accepted_count r s)) Rollover _ (λ g.
    if_room-good terms r place
    (adds r (f ∷ []) (λ now. option_to_list (data_at now s (accepted_count r s + 1))))
    (adds-good r (f ∷ []) (λ now. option_to_list (data_at now s (accepted_count r s + 1))) (
      record {
        limits = (own.content text).0 (not-false (terms.is_content text) b);
        values = tt;
        places = inr refl;
        room = (grind (arith, nat_tests, d), grind (arith, nat_tests, e));
        near = tt;
      },
      tt,
    )
    (λ k. to_list IsByTheRules (data_at (r ++ f ∷ []) s (accepted_count r s + 1))
    (data_at-kept (r ++ f ∷ []) s (accepted_count r s + 1) k))))))))))

-- ---- close, end and tick

-- a request that is said with a record that is quiet
request-good : (terms : Terms) (r : List Fact) (place s : ℕ) (f : Fact) → IsQuiet f
    → IsGoodAnswer r (if_room terms place (adds r (f ∷ []) (λ now. option_to_list (request_at now s))))
request-good terms r place s f q =
    if_room-good terms r place (adds r (f ∷ []) (λ now. option_to_list (request_at now s)))
    (adds-good r (f ∷ []) (λ now. option_to_list (request_at now s)) (quiets-allowed r (f ∷ []) (q, tt))
    (λ k. to_list IsByTheRules (request_at (r ++ f ∷ []) s) (request_at-kept (r ++ f ∷ []) s k)))

close_out-good : (terms : Terms) (r : List Fact) (place s : ℕ) → IsGoodAnswer r (close_out terms r place s)
close_out-good terms r place s = chosen (is_open (phase r s))
  where
    good : IsGoodAnswer r (if_room terms place
        (adds r (Closing s (counter r + 1) ∷ []) (λ now. option_to_list (request_at now s))))
    good = request-good terms r place s (Closing s (counter r + 1))
        (record { limits = tt; values = tt; makers_ = refl; room = λ z. tt; near = λ z. tt })

    chosen : (x : Bool) → IsGoodAnswer r (cond x (if_room terms place
        (adds r (Closing s (counter r + 1) ∷ []) (λ now. option_to_list (request_at now s)))) (refusal NotOpen))
    chosen true = good
    chosen false = refused r NotOpen

final_ack-kept : (r : List Fact) (s now : ℕ) (made : Option (ℕ × Text)) → IsKept r
    → AllByRecursion IsByTheRules (final_ack r s now made)
final_ack-kept r s now None h = tt
final_ack-kept r s now (Some made) h =
    let q = issue (number r) made.0 in
    own_messages-kept (ack_to (acks_to r s) (block_of r s q now))
    (ack_to-kept (acks_to r s) (block_of r s q now) (acks_to-kept r s h)
    (block-kept r s q now h (issue-text 512 (number r) made.0 (omega arith))))

close_in-good : (terms : Terms) (r : List Fact) (place s now : ℕ) → IsGoodAnswer r (close_in terms r place s now)
close_in-good terms r place s now =
    let f = Closed s Operator 0 in
    unless-refused r (is_over r s now) NotOpen _ (λ e. if_room-good terms r place
    (adds r (f ∷ []) (λ after. final_ack after s now (made_by after (maker after s))))
    (adds-good r (f ∷ []) (λ after. final_ack after s now (made_by after (maker after s)))
    (quiets-allowed r (f ∷ [])
    (record { limits = tt; values = tt; makers_ = refl; room = λ z. tt; near = λ z. tt }, tt))
    (λ k. final_ack-kept (r ++ f ∷ []) s now (made_by (r ++ f ∷ []) (maker (r ++ f ∷ []) s)) k)))

pub close-good : (terms : Terms) (r : List Fact) (place s now : ℕ) → IsGoodAnswer r (close terms r place s now)
close-good terms r place s now = by_maker (maker r s)
  where
    by_maker : (x : Option Maker) → IsGoodAnswer r (close_by terms r place s now x)
    by_maker None = record { allowed = tt; says = λ k. tt }
    by_maker (Some (Outgoing ticket to via lapse)) = close_out-good terms r place s
    by_maker (Some (Taken message_id ident endpoint)) = close_out-good terms r place s
    by_maker (Some (Offered ticket c to behaviour)) = close_in-good terms r place s now
    by_maker (Some (Incoming c message_id to behaviour deadline lapse)) = close_in-good terms r place s now

pub end-good : (terms : Terms) (r : List Fact) (place s : ℕ) → IsGoodAnswer r (end terms r place s)
end-good terms r place s = on_outgoing-good r (maker r s) (end_out terms r place s) (chosen (may_end (phase r s)))
  where
    good : IsGoodAnswer r (if_room terms place
        (adds r (Ending s (counter r + 1) ∷ []) (λ now. option_to_list (request_at now s))))
    good = request-good terms r place s (Ending s (counter r + 1))
        (record { limits = tt; values = tt; makers_ = refl; room = λ z. tt; near = λ z. tt })

    chosen : (x : Bool) → IsGoodAnswer r (cond x (if_room terms place
        (adds r (Ending s (counter r + 1) ∷ []) (λ now. option_to_list (request_at now s)))) (refusal NotOpen))
    chosen true = good
    chosen false = refused r NotOpen

expired-quiet : (r : List Fact) (now k : ℕ) (ms : List Maker) → AllByRecursion IsQuiet (expired_from r now k ms)
expired-quiet r now k [] = tt
expired-quiet r now k (m ∷ ms) =
    let rest = expired-quiet r now (k + 1) ms in
    elim (is_past (deadline_of (Some m)) now && not (has_end r (k + 1))) as (λ b. AllByRecursion IsQuiet (cond b
    (Ended (k + 1) Expired 0 ∷ expired_from r now (k + 1) ms) (expired_from r now (k + 1) ms))) [
      | true ↦ (record { limits = tt; values = tt; makers_ = refl; room = λ z. tt; near = λ z. tt }, rest)
      | false ↦ rest
    ]

-- each message that is emitted keeps the rules
message_at-kept : (r : List Fact) (s i : ℕ) → IsKept r → AllByRecursion IsByTheRules (option_to_list (message_at r s i))
message_at-kept r s zero k = to_list IsByTheRules (request_at r s) (request_at-kept r s k)
message_at-kept r s (suc i) k = to_list IsByTheRules (data_at r s (suc i)) (data_at-kept r s (suc i) k)

messages_at-kept : (r : List Fact) (keys : List Key) → IsKept r → AllByRecursion IsByTheRules (messages_at r keys)
messages_at-kept r [] h = tt
messages_at-kept r (k ∷ keys) h =
    All-append IsByTheRules (option_to_list (message_at r k.seq k.number)) (messages_at r keys)
    (message_at-kept r k.seq k.number h) (messages_at-kept r keys h)

ticked-good : (r : List Fact) (now : ℕ) (keys : List Key) (delta : List Fact) → AreAllowed r delta
    → IsGoodAnswer r (ticked r now keys delta)
ticked-good r now keys delta a = moves-good r delta _ (λ after. messages_at after keys) a
    (λ k. messages_at-kept (r ++ delta) keys k)

pub tick-good : (terms : Terms) (r : List Fact) (place now time : ℕ) (waits : List Wait)
    → IsGoodAnswer r (tick terms r place now time waits)
tick-good terms r place now time waits = chosen (has_room terms place (expired_from r now 0 (makers r)))
  where
    chosen : (x : Bool) → IsGoodAnswer r (cond x
        (ticked r now (first_due (max time now) waits) (expired_from r now 0 (makers r)))
        (ticked r now (first_due (max time now) waits) []))
    chosen true = ticked-good r now (first_due (max time now) waits) (expired_from r now 0 (makers r))
        (quiets-allowed r _ (expired-quiet r now 0 (makers r)))
    chosen false = ticked-good r now (first_due (max time now) waits) [] tt

-- ---- ask_ack, nack_missing and poll

ask_to-kept : (to : Option Epr) (q : Option Text) → IfSome to IsEprWritable → IfSome q (IsText 512)
    → AllByRecursion IsByTheRules (ask_to to q)
ask_to-kept (Some to) (Some q) h is = (ask-kept to q h is, tt)
ask_to-kept (Some to) None h is = tt
ask_to-kept None (Some q) h is = tt
ask_to-kept None None h is = tt

pub ask_ack-good : (r : List Fact) (s : ℕ) → IsGoodAnswer r (ask_ack r s)
ask_ack-good r s = on_outgoing-good r (maker r s) (ask_out r s) (chosen (may_end (phase r s)))
  where
    chosen : (x : Bool) → IsGoodAnswer r
        (cond x (adds r [] (λ after. ask_to (peer after s) (out_ident after s))) (refusal NotOpen))
    chosen true = adds-good r [] (λ after. ask_to (peer after s) (out_ident after s)) tt
        (λ k. ask_to-kept (peer (r ++ []) s) (out_ident (r ++ []) s) (peer-kept (r ++ []) s k)
        (name-kept (r ++ []) s k))
    chosen false = refused r NotOpen

nack_to-kept : (to : Option Epr) (q : Text) (numbers : List ℕ) → IfSome to IsEprWritable → IsText 512 q
    → AllByRecursion IsNumber numbers → AllByRecursion IsByTheRules (nack_to to q numbers)
nack_to-kept to q [] h is k = tt
nack_to-kept to q (n ∷ ns) h is k =
    let block : AckBlock = record { ident = q; kind = kind.Nack (n ∷ ns); last = false } in
    own_messages-kept (ack_to to block)
    (ack_to-kept to block h (record { ident = is; kind = (λ e. absurd (cc), k, refl) }))

nack_by-kept : (r : List Fact) (s : ℕ) (made : Option (ℕ × Text)) → IsKept r
    → AllByRecursion IsByTheRules (nack_by r s made)
nack_by-kept r s None h = tt
nack_by-kept r s (Some made) h =
    nack_to-kept (acks_to r s) (issue (number r) made.0) (missing_of r s) (acks_to-kept r s h)
    (issue-text 512 (number r) made.0 (omega arith)) (missing-kept r s h)

on_incoming-good : (r : List Fact) (x : Option Maker) (answer : Answer) → IsGoodAnswer r answer
    → IsGoodAnswer r (on_incoming x answer)
on_incoming-good r None answer h = refused r NoSequence
on_incoming-good r (Some (Outgoing ticket to via lapse)) answer h = refused r WrongSide
on_incoming-good r (Some (Taken message_id ident endpoint)) answer h = refused r WrongSide
on_incoming-good r (Some (Offered ticket c to behaviour)) answer h = h
on_incoming-good r (Some (Incoming c message_id to behaviour deadline lapse)) answer h = h

pub nack_missing-good : (r : List Fact) (s now : ℕ) → IsGoodAnswer r (nack_missing r s now)
nack_missing-good r s now =
    on_incoming-good r (maker r s) (nack_in r s now)
    (unless-refused r (is_over r s now) NotOpen _ (λ e. adds-good r []
    (λ after. nack_by after s (made_by after (maker after s))) tt
    (λ k. nack_by-kept (r ++ []) s (made_by (r ++ []) (maker (r ++ []) s)) k)))

pub consume-good : (terms : Terms) (r : List Fact) (place s upto : ℕ) → IsGoodAnswer r (consume terms r place s upto)
consume-good terms r place s upto =
    on_incoming-good r (maker r s) (consume_in terms r place s upto)
    (unless-refused r (nat_lt (length (inbox r s)) upto) (PastInbox (length (inbox r s))) _ (λ e.
    if_room-good terms r place (adds r (cursor_to r s upto) (λ after. [])) (chosen (nat_lt (cursor r s) upto))))
  where
    chosen : (x : Bool) → IsGoodAnswer r (adds r (cond x (Consumed s upto ∷ []) []) (λ after. []))
    chosen true = adds-good r (Consumed s upto ∷ []) (λ after. []) (quiets-allowed r (Consumed s upto ∷ [])
        (plain (Consumed s upto) tt tt refl (λ z. tt) (λ z. tt))) (λ k. tt)
    chosen false = adds-good r [] (λ after. []) tt (λ k. tt)

pub poll-good : (r : List Fact) (to : Text) → IsText 2048 to → IsGoodAnswer r (poll r to)
poll-good r to is =
    adds-good r [] (λ now. make_message now to ∷ []) tt (λ h. (make-kept (r ++ []) to is, tt))

-- ---- receive

target-kept : (header : Option SeqHeader) (b : Body) → IfSome header IsSequenceWritable → IsBodyRead b
    → IfSome (target header b) (IsText 512)
target-kept (Some header) b h k = h.ident
target-kept None (body.Lifecycle (life.Close x)) h k = k.ident
target-kept None (body.Lifecycle (life.Terminate x)) h k = k.ident
target-kept None _ h k = tt

ident-kept : (m : Message) (kind : FaultKind) → WasRead m → IfSome (fault_ident m kind) (IsText 512)
ident-kept m UnknownSequence is = target-kept m.sequence m.body is.sequence is.body
ident-kept m SequenceTerminated is = target-kept m.sequence m.body is.sequence is.body
ident-kept m SequenceClosed is = target-kept m.sequence m.body is.sequence is.body
ident-kept m _ is = tt

first_invalid-kept : (r : List Fact) (blocks : List AckBlock) → AllByRecursion IsAckWritable blocks
    → IfSome (first_invalid r blocks) IsAckWritable
first_invalid-kept r [] h = tt
first_invalid-kept r (block ∷ blocks) h =
    elim (is_invalid r block) as (λ b. IfSome (cond b (Some block) (first_invalid r blocks)) IsAckWritable) [
      | true ↦ h.0
      | false ↦ first_invalid-kept r blocks h.1
    ]

block_at-kept : (r : List Fact) (now : ℕ) (header : Option SeqHeader) → IsKept r → IfSome header IsSequenceWritable
    → IfSome (block_at r now header) IsAckWritable
block_at-kept r now None h k = tt
block_at-kept r now (Some header) h k = by_found (find_incoming r header.ident)
  where
    by_found : (x : Option ℕ) → IfSome (block_by r now header.ident x) IsAckWritable
    by_found None = tt
    by_found (Some s) = block-kept r s header.ident now h k.ident

fault_block-kept : (r : List Fact) (now : ℕ) (m : Message) (kind : FaultKind) → IsKept r → WasRead m
    → IfSome (fault_block r now m kind) IsAckWritable
fault_block-kept r now m SequenceClosed h is = block_at-kept r now m.sequence h is.sequence
fault_block-kept r now m InvalidAcknowledgement h is = first_invalid-kept r m.acks is.acks
fault_block-kept r now m _ h is = tt

-- a fault that answers what may be written
fault-by-rules : Below → (terms : Terms) (refused : Refusal) (block : Option AckBlock) → AreOwn terms
    → IsRefusalWritable refused block → AllByRecursion IsByTheRules (terms.fault refused block ∷ [])
fault-by-rules below terms refused block own h =
    (subst IsByTheRules (sym (own.fault refused block)) (below.fault soap_space refused block h), tt)

judged-good : Below → (terms : Terms) (r : List Fact) (now : ℕ) (y : Behaviour) (m : Message) (kind : FaultKind)
    → AreOwn terms → IsKept r → WasRead m → IsGoodAnswer r (judged terms r now y m (Some kind))
judged-good below terms r now y m kind own h is = record {
  allowed = tt;
  says = λ k. fault-by-rules below terms (refusal_of m kind) (fault_block r now m kind) own (record {
    endpoint = fault-kept m.addressing is.addressing;
    relates = is.addressing.message_id;
    names = tt;
    ident = ident-kept m kind is;
    block = fault_block-kept r now m kind h is;
  });
}

pub receive-good : Below → (terms : Terms) (r : List Fact) (place now : ℕ) (y : Behaviour)
    (content : Result Message Refusal) → AreOwn terms → IsKept r → IsContentRead content
    → IsGoodAnswer r (receive terms r place now y content)
receive-good below terms r place now y (Err refused) own h is =
    record { allowed = tt; says = λ k. fault-by-rules below terms refused None own is }
receive-good below terms r place now y (Ok m) own h is = by_verdict (verdict terms r place now y m) refl
  where
    by_verdict : (v : Option FaultKind) → verdict terms r place now y m ≡ v
        → IsGoodAnswer r (judged terms r now y m v)
    by_verdict (Some kind) e = judged-good below terms r now y m kind own h is
    by_verdict None e =
        let none = none-held (tests terms r place now y m) e in
        moves-good r (rows terms now y m r) _ (λ after. said after now m)
        (rows-allowed below.ranges r terms now y m is none.1.1.1.1.1.0)
        (λ k. said-kept (r ++ rows terms now y m r) now m k is)
