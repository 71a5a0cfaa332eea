-- Each record that a call adds may come next.
use Rattle.std.proofs.Common.{◌≡◌, ℕ, ◌+◌, ◌<◌, ◌≤◌, ◌==◌, ◌&&◌, ◌||◌, not, nat_lt, nat_le, cond, Bool, true}
use Rattle.std.proofs.Common.{false}
use Rattle.std.proofs.Common.{List, [], ◌∷◌, ◌++◌, length, refl, sym, ap, ◌∙◌, arith, subst, append-nil}
use Rattle.std.proofs.Common.{append_assoc, length-append}
use Rattle.std.specs.Prelude.{Option, Some, None, is_none, IfSome, Result, Ok, Err}
use Rattle.std.specs.List.{AllByRecursion, flat_map, list_all, list_any}
use Rattle.std.specs.Option.{option_to_list}
use Rattle.std.proofs.lemmas.List.Concat.{flat_map-append}
use Rattle.rm_sides.specs.declared.ranges.range.Range.{Range}
use Rattle.rm_sides.specs.Ranges.Changes.{united, covers_all}
use Rattle.rm_base.specs.Limits.{most_sequences, most_unacked, payload_bytes, window}
use Rattle.rm_base.specs.Message.{max_number}
use Rattle.rm_base.specs.Numbered.{numbered}
use Rattle.rm_base.specs.NumberSet.{has_number}
use Rattle.rm_base.specs.declared.message.Behaviour.{Behaviour}
use Rattle.rm_base.specs.declared.message.Cause.TheVariants.{Operator, Peer, Expired, NotTaken}
use Rattle.rm_base.specs.declared.message.Payload.{Payload}
use Rattle.rm_message.specs.declared.elements.header.AckBlock.{AckBlock}
use Rattle.rm_message.specs.declared.elements.header.SeqHeader.{SeqHeader}
use Rattle.rm_base.specs.declared.lapse.Lapse.{Lapse}
use Rattle.rm_message.specs.declared.elements.lifecycle.CreateResponse.{CreateResponse}
use Rattle.rm_message.specs.declared.elements.lifecycle.CreateSequence.{CreateSequence}
use Rattle.rm_message.specs.declared.elements.lifecycle.Lifecycle.TheVariants as life
use Rattle.rm_sides.specs.declared.source.phase.OutPhase.{OutPhase}
use Rattle.rm_sides.specs.declared.source.phase.OutPhase.TheVariants as out
use Rattle.rm_message.specs.declared.message.Body.{Body}
use Rattle.rm_message.specs.declared.message.Message.{Message}
use Rattle.rm_message.specs.declared.refusal.FaultKind.{FaultKind}
use Rattle.rm_message.specs.declared.refusal.Refusal.{Refusal}
use Rattle.rm_message.specs.declared.message.Body.TheVariants as body
use Rattle.soap_document.specs.Profile.Tree.{Element}
use Rattle.soap_document.specs.declared.profile.name.Expanded.{Expanded}
use Rattle.wsa_headers.specs.declared.endpoint.Epr.{Epr}
use Rattle.record_batch.specs.Fact.{Fact, Creating, Created, Granted, Closing, ClosedOut, Accepted, Acked}
use Rattle.record_batch.specs.Fact.{Received}
use Rattle.record_batch.specs.Fact.{Closed, Ending, EndedOut, Ended, Failed, Consumed}
use Rattle.record_batch.specs.declared.record.PeerOffer.{PeerOffer}
use Rattle.record_batch.specs.declared.record.Via.{Via}
use Rattle.record_batch.specs.Sequences.Words.{Text, at_seq, last_or}
use Rattle.record_batch.specs.Sequences.Makers.{Maker, Outgoing, Offered, Incoming, Taken, makers, makers_of, maker}
use Rattle.record_batch.specs.Sequences.Makers.{created}
use Rattle.record_batch.specs.Sequences.Makers.{created_of, seq_in, counter}
use Rattle.record_batch.specs.Sequences.Sources.{accepted, accepted_count, accepted_of, acked, all_unacked, dropped}
use Rattle.record_batch.specs.Sequences.Sources.{dropped_of}
use Rattle.record_batch.specs.Sequences.Sources.{is_sending, out_ident, phase, unacked}
use Rattle.record_batch.specs.Sequences.Find.{find_incoming, find_outgoing, find_creating, find_grant, is_granted}
use Rattle.record_batch.specs.Sequences.Find.{is_offered, find_from, peer}
use Rattle.record_batch.specs.Sequences.Fits.{is_outgoing_side, is_incoming_side, follows, follows_at, is_up_to, fits}
use Rattle.record_batch.specs.Sequences.Fits.{all_fit, is_no_moment, offer_fits, has_places}
use Rattle.rm_sides.specs.Destination.Incoming.{is_past}
use Rattle.rm_sides.specs.Destination.Messages.{any_true}
use Rattle.record_batch.specs.Sequences.Destinations.{held, front, close_of, closes, is_stopped, has_end}
use Rattle.record_batch.specs.Sequences.Destinations.{cursor, inbox, is_over, is_ended, deadline_of}
use Rattle.rm_protocol.specs.Verdict.{tests, is_above, verdict, has_room, is_invalid, is_invalid_at, refuses_create}
use Rattle.rm_protocol.specs.Addresses.{is_nowhere}
use Rattle.rm_protocol.specs.Calls.{Answer, Cause, NotOpen, PayloadTooLong, BadPayload, WindowFull, NodeFull}
use Rattle.rm_protocol.specs.Calls.{Rollover, StoreFull, TooManySequences, refusal, adds, if_room, Wish, offer_of}
use Rattle.rm_protocol.specs.Calls.{wanted, create, is_open, send_out, on_outgoing, send, close_out, close_in}
use Rattle.rm_protocol.specs.Calls.{close_by, close, may_end, end_out, end, expired_from, judged, receive}
use Rattle.rm_protocol.specs.Calls.{final_ack, made_by, ticked, tick_with, ask_to, ask_out, ask_ack, on_incoming}
use Rattle.rm_protocol.specs.Calls.{nack_in, nack_missing, consume, consume_in, cursor_to, PastInbox}
use Rattle.timers.specs.declared.slots.timers.Key.{Key}
use Rattle.rm_protocol.specs.Detail.{found_by, first_found, ident_of, named_in}
use Rattle.rm_protocol.specs.Messages.{data_at, request_at}
use Rattle.rm_protocol.specs.Next.{HasRanges, IsMessageNumber, IsNumberRange, HasNumbers, IsReadable, AddsNext}
use Rattle.rm_protocol.specs.Rows.{then_row, ranges_of, last_of, ack_at, ack_row, final_at, final_row, ack_rows}
use Rattle.rm_protocol.specs.Rows.{data_row_at, data_row, taken_of, create_at, create_row, drop_at, drop_unless}
use Rattle.rm_protocol.specs.Rows.{response_at, response_row, close_at, terminate_at, closed_in, ended_in, closed_at}
use Rattle.rm_protocol.specs.Rows.{ended_at, refused_at, refused_row, failed_in, failed_at, shut_at, is_fault}
use Rattle.rm_protocol.specs.Rows.{fault_row, body_row, rows}
use Rattle.rm_protocol.specs.Terms.{Terms, EndsLater}
use Rattle.rm_protocol.proofs.ListLemmas.{All-weaker, numbered-append, at_seq-append, numbered-last}
use Rattle.rm_protocol.proofs.Growth.{created-add}
use Rattle.rm_protocol.specs.VerdictLemmas.{none-held}
use Rattle.rm_protocol.proofs.CallLemmas.{not-false}
use Rattle.rm_protocol.proofs.FitLemmas.{both, first, second, neither, true-not, same_number, alone, unless-fit}
use Rattle.rm_protocol.proofs.FitLemmas.{if-fit, all_fit-append, untouched, outgoing-found, incoming-found}
use Rattle.rm_protocol.proofs.FitLemmas.{creating-found, follow, sending-follows, united-up_to, all-up_to, not_above}
use Rattle.rm_protocol.proofs.FitLemmas.{other_number, no_zero, le_test, not_le, lt_test, not_lt}

-- what the rows of acknowledgements leave
record Stays (r new : List Fact) : Type 0 where
  makers_ : makers new ≡ makers r
  created_ : created new ≡ created r
  count_ : (s : ℕ) → accepted_count new s ≡ accepted_count r s

Stays-then : (a b c : List Fact) → Stays a b → Stays b c → Stays a c
Stays-then a b c g h = record {
  makers_ = h.makers_ ∙ g.makers_;
  created_ = h.created_ ∙ g.created_;
  count_ = λ s. h.count_ s ∙ g.count_ s;
}

-- records that may come next, and leave these facts
record IsQuiet (r d : List Fact) : Type 0 where
  fit : all_fit r d ≡ true
  stays : Stays r (r ++ d)

none-quiet : (r : List Fact) → IsQuiet r []
none-quiet r = record {
  fit = refl;
  stays = subst (Stays r) (sym (append-nil r)) (record { makers_ = refl; created_ = refl; count_ = λ s. refl });
}

one-quiet : (r : List Fact) (rec : Fact) → fits r rec ≡ true → makers_of rec ≡ []
    → ((k : ℕ) → created_of k rec ≡ []) → ((s : ℕ) → (accepted_of s rec ≡ []) × (dropped_of s rec ≡ []))
    → IsQuiet r (rec ∷ [])
one-quiet r rec f m c a = record {
  fit = alone r rec f;
  stays = record {
    makers_ = untouched makers_of r rec m;
    created_ =
        created-add r rec ∙ ap (λ z. created r ++ z) (c (length (makers r))) ∙ append-nil (created r);
    count_ = λ s. ap (λ xs. last_or 0 xs + length (accepted (r ++ rec ∷ []) s)) (untouched (dropped_of s) r rec (a s).1)
        ∙ ap (λ xs. dropped r s + length xs) (untouched (accepted_of s) r rec (a s).0);
  };
}

quiet-then : (r d e : List Fact) → IsQuiet r d → IsQuiet (r ++ d) e → IsQuiet r (d ++ e)
quiet-then r d e g h = record {
  fit = all_fit-append r d e g.fit h.fit;
  stays = subst (Stays r) (append_assoc r d e) (Stays-then r (r ++ d) ((r ++ d) ++ e) g.stays h.stays);
}

-- a block that is not refused
record IsValid (r : List Fact) (block : AckBlock) : Type 0 where
  valid : is_invalid r block ≡ false
  ranges : HasRanges block

valid-kept : (r new : List Fact) (block : AckBlock) → Stays r new → IsValid r block → IsValid new block
valid-kept r new block w h = record {
  valid =
      ap (λ z. is_invalid_at new (ranges_of block.kind) (seq_in z block.ident)) w.created_
      ∙ by_found (find_outgoing r block.ident) ∙ h.valid;
  ranges = h.ranges;
}
  where
    by_found : (x : Option ℕ) → is_invalid_at new (ranges_of block.kind) x ≡ is_invalid_at r (ranges_of block.kind) x
    by_found None = refl
    by_found (Some s) = ap (λ n. is_above n (ranges_of block.kind)) (w.count_ s)

-- ranges of message numbers begin at 1 or later
begin_at_one : (ranges : List Range) → AllByRecursion IsNumberRange ranges
    → AllByRecursion (λ (range : Range). 1 ≤ range.lower) ranges
begin_at_one ranges h = All-weaker IsNumberRange (λ (range : Range). 1 ≤ range.lower) (λ range is. is.lower) ranges h

-- ranges, and Final
ack_row-quiet : (r : List Fact) (block : AckBlock) → all_fit [] r ≡ true → IsValid r block
    → IsQuiet r (ack_row block r)
ack_row-quiet r block h v = by_found (find_outgoing r block.ident) refl v.valid
  where
    by_found : (x : Option ℕ) → find_outgoing r block.ident ≡ x → is_invalid_at r (ranges_of block.kind) x ≡ false
        → IsQuiet r (ack_at x (ranges_of block.kind) r)
    by_found None e k = none-quiet r
    by_found (Some s) e k = chosen (covers_all (united [] (acked r s)) (ranges_of block.kind))
      where
        new : fits r (Acked s (united [] (ranges_of block.kind))) ≡ true
        new = both (is_outgoing_side (maker r s))
            (list_all (is_up_to (accepted_count r s)) (united [] (ranges_of block.kind)))
            (outgoing-found r block.ident s h e)
            (all-up_to (accepted_count r s) (united [] (ranges_of block.kind))
            (united-up_to (accepted_count r s) [] (ranges_of block.kind) tt
            (not_above (accepted_count r s) (ranges_of block.kind)
            (begin_at_one (ranges_of block.kind) v.ranges) k)))

        chosen : (x : Bool) → IsQuiet r (cond x [] (Acked s (united [] (ranges_of block.kind)) ∷ []))
        chosen true = none-quiet r
        chosen false = one-quiet r (Acked s (united [] (ranges_of block.kind))) new refl (λ i. refl) (λ i. (refl, refl))

final_row-quiet : (r : List Fact) (block : AckBlock) → all_fit [] r ≡ true → IsQuiet r (final_row block r)
final_row-quiet r block h = by_found (find_outgoing r block.ident) block.last refl
  where
    by_found : (x : Option ℕ) (y : Bool) → find_outgoing r block.ident ≡ x → IsQuiet r (final_at x y r)
    by_found (Some s) true e = chosen (is_sending (phase r s)) refl
      where
        chosen : (x : Bool) → is_sending (phase r s) ≡ x → IsQuiet r (cond x (ClosedOut s ∷ []) [])
        chosen true k = one-quiet r (ClosedOut s)
            (follow r s (ClosedOut s) (outgoing-found r block.ident s h e) (sending-follows (phase r s) s k)) refl
            (λ i. refl) (λ i. (refl, refl))
        chosen false k = none-quiet r
    by_found _ _ e = none-quiet r

ack_rows-quiet : (r : List Fact) (blocks : List AckBlock) → all_fit [] r ≡ true → AllByRecursion (IsValid r) blocks
    → IsQuiet r (ack_rows blocks r)
ack_rows-quiet r [] h v = none-quiet r
ack_rows-quiet r (block ∷ blocks) h v =
    let ranges : IsQuiet r (ack_row block r) = ack_row-quiet r block h v.0 in
    let final : IsQuiet (r ++ ack_row block r) (final_row block (r ++ ack_row block r)) =
    final_row-quiet (r ++ ack_row block r) block (all_fit-append [] r (ack_row block r) h ranges.fit) in
    let one = then_row (ack_row block) (final_row block) r in
    let quiet : IsQuiet r one = quiet-then r (ack_row block r) (final_row block (r ++ ack_row block r)) ranges final in
    quiet-then r one (ack_rows blocks (r ++ one)) quiet
    (ack_rows-quiet (r ++ one) blocks (all_fit-append [] r one h quiet.fit)
    (All-weaker (IsValid r) (IsValid (r ++ one)) (λ b e. valid-kept r (r ++ one) b quiet.stays e) blocks v.1))

-- data
data_row-fits : (r : List Fact) (now : ℕ) (h : Option SeqHeader) (p : Payload) → IfSome h IsMessageNumber
    → all_fit r (data_row now h p r) ≡ true
data_row-fits r now None p k = refl
data_row-fits r now (Some h) p k = by_found (find_incoming r h.ident) refl
  where
    by_found : (x : Option ℕ) → find_incoming r h.ident ≡ x → all_fit r (data_row_at now x h.number p r) ≡ true
    by_found None e = refl
    by_found (Some s) e =
        chosen (has_number (held r s) h.number) (is_over r s now) (nat_lt (front r s + window) h.number) refl refl
      where
        new : has_number (held r s) h.number ≡ false → is_over r s now ≡ false
            → fits r (Received s h.number p) ≡ true
        new f g =
            let open_ : is_stopped r s ≡ false =
            (neither (is_stopped r s) (is_past (deadline_of (maker r s)) now) g).0 in
            both (is_incoming_side (maker r s)) _ (incoming-found r h.ident s e)
            (both (nat_le 1 h.number) _ (le_test 1 h.number k.0)
            (both (nat_le h.number max_number) _ (le_test h.number max_number k.1)
            (both (not (has_number (held r s) h.number)) (not (is_stopped r s))
            (true-not (has_number (held r s) h.number) f) (true-not (is_stopped r s) open_))))

        chosen : (x y z : Bool) → has_number (held r s) h.number ≡ x → is_over r s now ≡ y
            → all_fit r (cond x [] (cond y [] (cond z [] (Received s h.number p ∷ [])))) ≡ true
        chosen false false false f g = alone r (Received s h.number p) (new f g)
        chosen _ _ _ f g = refl

-- CreateSequence
a_moment : (now : ℕ) (x : Option ℕ) → IfSome x (λ (moment : ℕ). now < moment) → not (is_no_moment x) ≡ true
a_moment now None h = refl
a_moment now (Some moment) h = no_zero now moment h

granted-places : (r : List Fact) (drawn : ℕ) (t : Text) (k : Epr) (y : Behaviour) (deadline : Option ℕ) (lapse : Lapse)
    (offer : Option PeerOffer) → nat_le most_sequences (length (makers r)) ≡ false
    → has_places r (Granted drawn t k y deadline lapse offer) ≡ true
granted-places r drawn t k y deadline lapse None h =
    let few : length (makers r) < most_sequences = not_le most_sequences (length (makers r)) h in
    le_test (length (makers r) + 1) 4294967295 (omega arith)
granted-places r drawn t k y deadline lapse (Some offer) h =
    let few : length (makers r) < most_sequences = not_le most_sequences (length (makers r)) h in
    le_test (length (makers r) + 2) 4294967295 (omega arith)

create_row-fits : (r : List Fact) (terms : Terms) (now : ℕ) (y : Behaviour) (t : Option Text) (c : CreateSequence)
    → EndsLater terms → refuses_create r t (body.Lifecycle (life.Create c)) ≡ false
    → all_fit r (create_row terms now y t c r) ≡ true
create_row-fits r terms now y None c l h = refl
create_row-fits r terms now y (Some t) c l h = by_found (find_grant r t) h
  where
    by_found : (x : Option ℕ)
        → (is_none x && (is_nowhere c.acks_to.address || nat_le most_sequences (length (makers r)))) ≡ false
        → all_fit r (create_at terms now y x t c r) ≡ true
    by_found (Some s) e = refl
    by_found None e =
        let room = (neither (is_nowhere c.acks_to.address) (nat_le most_sequences (length (makers r))) e).1 in
        let ends = terms.deadline now c.expires in
        let rec = Granted (counter r + 1) t c.acks_to y ends c.expires (taken_of r c.offer) in
        alone r rec (both (counter r + 1 == counter r + 1)
        (not (is_no_moment ends) && has_places r rec) (same_number (counter r + 1))
        (both (not (is_no_moment ends)) (has_places r rec) (a_moment now ends (l now c.expires))
        (granted-places r (counter r + 1) t c.acks_to y ends c.expires (taken_of r c.offer) room)))

-- an offer that wasn't taken, behind the record for its sequence
offered-side : (x : Option Maker) → is_offered x ≡ true → is_incoming_side x ≡ true
offered-side (Some (Offered t c to y)) e = refl
offered-side _ e = absurd (cc)

drop_at-fits : (r : List Fact) (rec : Fact) (s : ℕ) → makers_of rec ≡ [] → close_of rec ≡ []
    → all_fit (r ++ rec ∷ []) (drop_at s r) ≡ true
drop_at-fits r rec s m c =
    if-fit (r ++ rec ∷ []) (is_offered (maker r (s + 1)) && not (has_end r (s + 1))) (Ended (s + 1) NotTaken 0)
    (λ e. both (is_incoming_side (maker (r ++ rec ∷ []) (s + 1))) (not (has_end (r ++ rec ∷ []) (s + 1)))
    (ap (λ z. is_incoming_side (numbered z (s + 1))) (untouched makers_of r rec m)
    ∙ offered-side (maker r (s + 1)) (first (is_offered (maker r (s + 1))) (not (has_end r (s + 1))) e))
    (ap (λ z. not (any_true (at_seq (s + 1) z))) (untouched close_of r rec c)
    ∙ second (is_offered (maker r (s + 1))) (not (has_end r (s + 1))) e))

-- CreateSequenceResponse
response_row-fits : (r : List Fact) (t : Option Text) (c : CreateResponse) → all_fit r (response_row t c r) ≡ true
response_row-fits r None c = refl
response_row-fits r (Some t) c = by_found (find_creating r t) (find_outgoing r c.ident) refl
  where
    dropped : (s : ℕ) (accept : Option Epr)
        → all_fit (r ++ Created s c.ident c.accept ∷ []) (drop_unless accept s r) ≡ true
    dropped s None = drop_at-fits r (Created s c.ident c.accept) s refl refl
    dropped s (Some endpoint) = refl

    by_found : (x y : Option ℕ) → find_creating r t ≡ x → all_fit r (response_at x y c r) ≡ true
    by_found (Some s) None e =
        let found = creating-found r t s e in
        let rec = Created s c.ident c.accept in
        both (fits r rec) (all_fit (r ++ rec ∷ []) (drop_unless c.accept s r))
        (follow r s rec found.0 (ap (λ p. follows p rec) found.1)) (dropped s c.accept)
    by_found (Some s) (Some z) e = refl
    by_found None y e = refl

-- CloseSequence and TerminateSequence
close_at-fits : (r : List Fact) (now : ℕ) (q : Text) (n : ℕ) → all_fit r (close_at now (find_incoming r q) n r) ≡ true
close_at-fits r now q n = by_found (find_incoming r q) refl
  where
    by_found : (x : Option ℕ) → find_incoming r q ≡ x → all_fit r (close_at now x n r) ≡ true
    by_found None e = refl
    by_found (Some s) e = unless-fit r (is_over r s now) (Closed s Peer n)
        (λ h. both (is_incoming_side (maker r s)) (not (is_stopped r s)) (incoming-found r q s e)
        (true-not (is_stopped r s) (neither (is_stopped r s) (is_past (deadline_of (maker r s)) now) h).0))

terminate_at-fits : (r : List Fact) (now : ℕ) (q : Text) (n : ℕ)
    → all_fit r (terminate_at now (find_incoming r q) n r) ≡ true
terminate_at-fits r now q n = by_found (find_incoming r q) refl
  where
    by_found : (x : Option ℕ) → find_incoming r q ≡ x → all_fit r (terminate_at now x n r) ≡ true
    by_found None e = refl
    by_found (Some s) e = unless-fit r (is_ended r s now) (Ended s Peer n)
        (λ h. both (is_incoming_side (maker r s)) (not (has_end r s)) (incoming-found r q s e)
        (true-not (has_end r s) (neither (has_end r s) (is_past (deadline_of (maker r s)) now) h).0))

-- their responses
closed_at-fits : (r : List Fact) (q : Text) → all_fit [] r ≡ true → all_fit r (closed_at (find_outgoing r q) r) ≡ true
closed_at-fits r q h = by_found (find_outgoing r q) refl
  where
    by_phase : (s : ℕ) (p : OutPhase) → is_outgoing_side (maker r s) ≡ true → phase r s ≡ p
        → all_fit r (closed_in s p) ≡ true
    by_phase s out.Closing k e =
        alone r (ClosedOut s) (follow r s (ClosedOut s) k (ap (λ z. follows z (ClosedOut s)) e))
    by_phase s _ k e = refl

    by_found : (x : Option ℕ) → find_outgoing r q ≡ x → all_fit r (closed_at x r) ≡ true
    by_found None e = refl
    by_found (Some s) e = by_phase s (phase r s) (outgoing-found r q s h e) refl

ended_at-fits : (r : List Fact) (q : Text) → all_fit [] r ≡ true → all_fit r (ended_at (find_outgoing r q) r) ≡ true
ended_at-fits r q h = by_found (find_outgoing r q) refl
  where
    by_phase : (s : ℕ) (p : OutPhase) → is_outgoing_side (maker r s) ≡ true → phase r s ≡ p
        → all_fit r (ended_in s p) ≡ true
    by_phase s out.Ending k e = alone r (EndedOut s) (follow r s (EndedOut s) k (ap (λ z. follows z (EndedOut s)) e))
    by_phase s _ k e = refl

    by_found : (x : Option ℕ) → find_outgoing r q ≡ x → all_fit r (ended_at x r) ≡ true
    by_found None e = refl
    by_found (Some s) e = by_phase s (phase r s) (outgoing-found r q s h e) refl

-- faults
refused_row-fits : (r : List Fact) (t : Option Text) → all_fit r (refused_row t r) ≡ true
refused_row-fits r None = refl
refused_row-fits r (Some t) = by_found (find_creating r t) refl
  where
    by_found : (x : Option ℕ) → find_creating r t ≡ x → all_fit r (refused_at x r) ≡ true
    by_found None e = refl
    by_found (Some s) e =
        let found = creating-found r t s e in
        both (fits r (Failed s 17)) (all_fit (r ++ Failed s 17 ∷ []) (drop_at s r))
        (follow r s (Failed s 17) found.0 (ap (λ p. follows p (Failed s 17)) found.1))
        (drop_at-fits r (Failed s 17) s refl refl)

named-found : (r : List Fact) (detail : List Element) (s : ℕ) → all_fit [] r ≡ true → named_in r detail ≡ Some s
    → is_outgoing_side (maker r s) ≡ true
named-found r [] s h e = absurd (cc)
named-found r (x ∷ detail) s h e = by_first (found_by r (ident_of x)) (named-found r detail s h) refl e
  where
    by_ident : (q : Option Text) → found_by r q ≡ Some s → is_outgoing_side (maker r s) ≡ true
    by_ident None k = absurd (cc)
    by_ident (Some q) k = outgoing-found r q s h k

    by_first : (y : Option ℕ) → (named_in r detail ≡ Some s → is_outgoing_side (maker r s) ≡ true)
        → found_by r (ident_of x) ≡ y → first_found y (named_in r detail) ≡ Some s
        → is_outgoing_side (maker r s) ≡ true
    by_first None rest k f = rest f
    by_first (Some z) rest k f = by_ident (ident_of x) (k ∙ f)

failed_at-fits : (r : List Fact) (fault : ℕ) (detail : List Element) → all_fit [] r ≡ true
    → all_fit r (failed_at fault (named_in r detail) r) ≡ true
failed_at-fits r fault detail h = by_found (named_in r detail) refl
  where
    by_phase : (s : ℕ) (p : OutPhase) → is_outgoing_side (maker r s) ≡ true → phase r s ≡ p
        → all_fit r (failed_in fault s p) ≡ true
    by_phase s out.Ending k e = alone r (EndedOut s) (follow r s (EndedOut s) k (ap (λ z. follows z (EndedOut s)) e))
    by_phase s out.Open k e =
        alone r (Failed s fault) (follow r s (Failed s fault) k (ap (λ z. follows z (Failed s fault)) e))
    by_phase s out.Closing k e =
        alone r (Failed s fault) (follow r s (Failed s fault) k (ap (λ z. follows z (Failed s fault)) e))
    by_phase s out.Closed k e =
        alone r (Failed s fault) (follow r s (Failed s fault) k (ap (λ z. follows z (Failed s fault)) e))
    by_phase s _ k e = refl

    by_found : (x : Option ℕ) → named_in r detail ≡ x → all_fit r (failed_at fault x r) ≡ true
    by_found None e = refl
    by_found (Some s) e = by_phase s (phase r s) (named-found r detail s h e) refl

shut_at-fits : (r : List Fact) (detail : List Element) → all_fit [] r ≡ true
    → all_fit r (shut_at (named_in r detail) r) ≡ true
shut_at-fits r detail h = by_found (named_in r detail) refl
  where
    by_found : (x : Option ℕ) → named_in r detail ≡ x → all_fit r (shut_at x r) ≡ true
    by_found None e = refl
    by_found (Some s) e =
        if-fit r (is_sending (phase r s)) (ClosedOut s)
        (λ k. follow r s (ClosedOut s) (named-found r detail s h e) (sending-follows (phase r s) s k))

fault_row-fits : (r : List Fact) (t : Option Text) (subcode : Option Expanded) (detail : List Element)
    → all_fit [] r ≡ true
    → all_fit r (fault_row t subcode detail r) ≡ true
fault_row-fits r t subcode detail h =
    chosen (is_fault _ subcode) (is_fault _ subcode) (is_fault _ subcode) (is_fault _ subcode) (is_fault _ subcode)
  where
    chosen : (v w x y z : Bool) → all_fit r (cond v (refused_row t r) (cond w (failed_at 14 (named_in r detail) r)
        (cond x (failed_at 13 (named_in r detail) r)
        (cond y (failed_at 11 (named_in r detail) r) (cond z (shut_at (named_in r detail) r) []))))) ≡ true
    chosen true w x y z = refused_row-fits r t
    chosen false true x y z = failed_at-fits r 14 detail h
    chosen false false true y z = failed_at-fits r 13 detail h
    chosen false false false true z = failed_at-fits r 11 detail h
    chosen false false false false true = shut_at-fits r detail h
    chosen false false false false false = refl

-- a body
body_row-fits : (r : List Fact) (terms : Terms) (now : ℕ) (y : Behaviour) (m : Message) (content : Body)
    → EndsLater terms → all_fit [] r ≡ true → IfSome m.sequence IsMessageNumber
    → refuses_create r m.addressing.message_id content ≡ false → all_fit r (body_row terms now y m content r) ≡ true
body_row-fits r terms now y m (body.Payload p) l h n k = data_row-fits r now m.sequence p n
body_row-fits r terms now y m (body.Lifecycle (life.Create x)) l h n k =
    create_row-fits r terms now y m.addressing.message_id x l k
body_row-fits r terms now y m (body.Lifecycle (life.CreateResponse x)) l h n k =
    response_row-fits r m.addressing.relates x
body_row-fits r terms now y m (body.Lifecycle (life.Close x)) l h n k =
    close_at-fits r now x.ident (last_of x.last_number)
body_row-fits r terms now y m (body.Lifecycle (life.Terminate x)) l h n k =
    terminate_at-fits r now x.ident (last_of x.last_number)
body_row-fits r terms now y m (body.Lifecycle (life.CloseResponse q)) l h n k = closed_at-fits r q h
body_row-fits r terms now y m (body.Lifecycle (life.TerminateResponse q)) l h n k = ended_at-fits r q h
body_row-fits r terms now y m (body.Fault x) l h n k = fault_row-fits r m.addressing.relates x.subcode x.detail h
body_row-fits r terms now y m (body.Lifecycle (life.Make x)) l h n k = refl
body_row-fits r terms now y m body.Empty l h n k = refl

refuses-kept : (r new : List Fact) (t : Option Text) (content : Body) → makers new ≡ makers r
    → refuses_create new t content ≡ refuses_create r t content
refuses-kept r new (Some t) (body.Lifecycle (life.Create c)) e =
    ap (λ ms. is_none (find_from (is_granted t) 0 ms)
    && (is_nowhere c.acks_to.address || nat_le most_sequences (length ms))) e
refuses-kept r new _ _ e = refl

-- all rows
rows-fit : (r : List Fact) (terms : Terms) (now : ℕ) (y : Behaviour) (m : Message) → EndsLater terms
    → all_fit [] r ≡ true → HasNumbers m → AllByRecursion (IsValid r) m.acks
    → refuses_create r m.addressing.message_id m.body ≡ false → all_fit r (rows terms now y m r) ≡ true
rows-fit r terms now y m l h n v k =
    let acks : IsQuiet r (ack_rows m.acks r) = ack_rows-quiet r m.acks h v in
    let new = r ++ ack_rows m.acks r in
    all_fit-append r (ack_rows m.acks r) (body_row terms now y m m.body new) acks.fit
    (body_row-fits new terms now y m m.body l (all_fit-append [] r (ack_rows m.acks r) h acks.fit) n.sequence
    (refuses-kept r new m.addressing.message_id m.body acks.stays.makers_ ∙ k))

-- receive
are-valid : (r : List Fact) (blocks : List AckBlock) → AllByRecursion HasRanges blocks
    → list_any (is_invalid r) blocks ≡ false → AllByRecursion (IsValid r) blocks
are-valid r [] h e = tt
are-valid r (block ∷ blocks) h e =
    let parts = neither (is_invalid r block) (list_any (is_invalid r) blocks) e in
    (record { valid = parts.0; ranges = h.0 }, are-valid r blocks h.1 parts.1)

receive-fits : (terms : Terms) (r : List Fact) (place now : ℕ) (y : Behaviour) (content : Result Message Refusal)
    → EndsLater terms → all_fit [] r ≡ true → IsReadable content
    → all_fit r (receive terms r place now y content).delta ≡ true
receive-fits terms r place now y (Err refused) l h n = refl
receive-fits terms r place now y (Ok m) l h n = by_verdict (verdict terms r place now y m) refl
  where
    by_verdict : (v : Option FaultKind) → verdict terms r place now y m ≡ v
        → all_fit r (judged terms r now y m v).delta ≡ true
    by_verdict (Some kind) e = refl
    by_verdict None e =
        let none = none-held (tests terms r place now y m) e in
        rows-fit r terms now y m l h n (are-valid r m.acks n.acks none.1.1.1.1.0) none.1.1.1.1.1.0

-- the node's own calls
refused-or-fits : (r : List Fact) (x : Bool) (cause : Cause) (answer : Answer)
    → (x ≡ false → all_fit r answer.delta ≡ true) → all_fit r (cond x (refusal cause) answer).delta ≡ true
refused-or-fits r true cause answer h = refl
refused-or-fits r false cause answer h = h refl

if_room-fits : (terms : Terms) (r : List Fact) (place : ℕ) (answer : Answer) → all_fit r answer.delta ≡ true
    → all_fit r (if_room terms place answer).delta ≡ true
if_room-fits terms r place answer h = chosen (has_room terms place answer.delta)
  where
    chosen : (x : Bool)
        → all_fit r (cond x answer (refusal (StoreFull place (terms.size answer.delta + 6)))).delta ≡ true
    chosen true = h
    chosen false = refl

on_outgoing-fits : (r : List Fact) (x : Option Maker) (answer : Answer)
    → (is_outgoing_side x ≡ true → all_fit r answer.delta ≡ true) → all_fit r (on_outgoing x answer).delta ≡ true
on_outgoing-fits r None answer h = refl
on_outgoing-fits r (Some (Outgoing t to v l)) answer h = h refl
on_outgoing-fits r (Some (Taken t q k)) answer h = h refl
on_outgoing-fits r (Some (Offered t c to y)) answer h = refl
on_outgoing-fits r (Some (Incoming c t k y d l)) answer h = refl

-- create
creating-fits : (r : List Fact) (to : Text) (via : Via) (lapse : Lapse) (offer : Option Behaviour)
    → nat_lt most_sequences (length (makers r) + wanted offer) ≡ false
    → fits r (Creating (counter r + 1) to via lapse (offer_of (counter r) offer)) ≡ true
creating-fits r to via lapse None h =
    let few : length (makers r) + 1 ≤ most_sequences = not_lt most_sequences (length (makers r) + 1) h in
    let rec = Creating (counter r + 1) to via lapse None in
    both (counter r + 1 == counter r + 1) (has_places r rec) (same_number (counter r + 1))
    (le_test (length (makers r) + 1) 4294967295 (omega arith))
creating-fits r to via lapse (Some y) h =
    let few : length (makers r) + 2 ≤ most_sequences = not_lt most_sequences (length (makers r) + 2) h in
    let rec = Creating (counter r + 1) to via lapse (offer_of (counter r) (Some y)) in
    let next = offer_fits (counter r) (offer_of (counter r) (Some y)) in
    both (counter r + 1 == counter r + 1) (next && has_places r rec) (same_number (counter r + 1))
    (both next (has_places r rec) (same_number (counter r + 2))
    (le_test (length (makers r) + 2) 4294967295 (omega arith)))

create-fits : (terms : Terms) (r : List Fact) (place : ℕ) (wish : Wish)
    → all_fit r (create terms r place wish).delta ≡ true
create-fits terms r place wish =
    refused-or-fits r (nat_lt most_sequences (length (makers r) + wanted wish.offer))
    (TooManySequences (length (makers r))) _
    (λ e. if_room-fits terms r place (adds r
    (Creating (counter r + 1) wish.to wish.via wish.expires (offer_of (counter r) wish.offer) ∷ [])
    (λ now. option_to_list (request_at now (length (makers r) + 1))))
    (alone r (Creating (counter r + 1) wish.to wish.via wish.expires (offer_of (counter r) wish.offer)) (new e)))
  where
    new : nat_lt most_sequences (length (makers r) + wanted wish.offer) ≡ false
        → fits r (Creating (counter r + 1) wish.to wish.via wish.expires (offer_of (counter r) wish.offer)) ≡ true
    new e = creating-fits r wish.to wish.via wish.expires wish.offer e

-- send
open-follows : (p : OutPhase) (s : ℕ) (text : Text) → is_open p ≡ true → follows p (Accepted s text) ≡ true
open-follows out.Open s text e = refl
open-follows _ s text e = absurd (cc)

send-fits : (terms : Terms) (r : List Fact) (place s : ℕ) (text : Text)
    → all_fit r (send terms r place s text).delta ≡ true
send-fits terms r place s text =
    on_outgoing-fits r (maker r s) (send_out terms r place s text) (λ side.
    refused-or-fits r (nat_lt payload_bytes (length text)) (PayloadTooLong (length text)) _ (λ a.
    refused-or-fits r (not (terms.is_content text)) BadPayload _ (λ b.
    refused-or-fits r (not (is_open (phase r s))) NotOpen _ (λ c.
    refused-or-fits r (nat_le window (unacked r s)) (WindowFull (unacked r s)) _ (λ d.
    refused-or-fits r (nat_le most_unacked (all_unacked r)) (NodeFull (all_unacked r)) _ (λ e.
    refused-or-fits r (nat_le max_number (accepted_count r s)) Rollover _ (λ f.
    if_room-fits terms r place (adds r (Accepted s text ∷ [])
    (λ now. option_to_list (data_at now s (accepted_count r s + 1))))
    (alone r (Accepted s text) (new side c f)))))))))
  where
    new : is_outgoing_side (maker r s) ≡ true → not (is_open (phase r s)) ≡ false
        → nat_le max_number (accepted_count r s) ≡ false → fits r (Accepted s text) ≡ true
    new side c f =
        both (follows_at r s (Accepted s text)) (nat_lt (accepted_count r s) max_number)
        (follow r s (Accepted s text) side
        (open-follows (phase r s) s text (not-false (is_open (phase r s)) c)))
        (lt_test (accepted_count r s) max_number
        (not_le max_number (accepted_count r s) f))

-- close
open-closing : (p : OutPhase) (s ticket : ℕ) → is_open p ≡ true → follows p (Closing s ticket) ≡ true
open-closing out.Open s ticket e = refl
open-closing _ s ticket e = absurd (cc)

close_out-fits : (terms : Terms) (r : List Fact) (place s : ℕ) → is_outgoing_side (maker r s) ≡ true
    → all_fit r (close_out terms r place s).delta ≡ true
close_out-fits terms r place s side = chosen (is_open (phase r s)) refl
  where
    chosen : (x : Bool) → is_open (phase r s) ≡ x → all_fit r (cond x (if_room terms place
        (adds r (Closing s (counter r + 1) ∷ []) (λ now. option_to_list (request_at now s)))) (refusal NotOpen)).delta
        ≡ true
    chosen true e = if_room-fits terms r place (adds r (Closing s (counter r + 1) ∷ [])
        (λ now. option_to_list (request_at now s))) (alone r (Closing s (counter r + 1))
        (both (counter r + 1 == counter r + 1) (follows_at r s (Closing s (counter r + 1)))
        (same_number (counter r + 1))
        (follow r s (Closing s (counter r + 1)) side (open-closing (phase r s) s (counter r + 1) e))))
    chosen false e = refl

close_in-fits : (terms : Terms) (r : List Fact) (place s now : ℕ) → is_incoming_side (maker r s) ≡ true
    → all_fit r (close_in terms r place s now).delta ≡ true
close_in-fits terms r place s now side =
    refused-or-fits r (is_over r s now) NotOpen _ (λ e. if_room-fits terms r place (adds r (Closed s Operator 0 ∷ [])
    (λ after. final_ack after s now (made_by after (maker after s)))) (alone r (Closed s Operator 0)
    (both (is_incoming_side (maker r s)) (not (is_stopped r s)) side
    (true-not (is_stopped r s) (neither (is_stopped r s) (is_past (deadline_of (maker r s)) now) e).0))))

close-fits : (terms : Terms) (r : List Fact) (place s now : ℕ) → all_fit r (close terms r place s now).delta ≡ true
close-fits terms r place s now = by_maker (maker r s) refl
  where
    by_maker : (x : Option Maker) → maker r s ≡ x → all_fit r (close_by terms r place s now x).delta ≡ true
    by_maker None e = refl
    by_maker (Some (Outgoing t to v l)) e = close_out-fits terms r place s (ap is_outgoing_side e)
    by_maker (Some (Taken t q k)) e = close_out-fits terms r place s (ap is_outgoing_side e)
    by_maker (Some (Offered t c to y)) e = close_in-fits terms r place s now (ap is_incoming_side e)
    by_maker (Some (Incoming c t k y d l)) e = close_in-fits terms r place s now (ap is_incoming_side e)

-- end
may_end-follows : (p : OutPhase) (s ticket : ℕ) → may_end p ≡ true → follows p (Ending s ticket) ≡ true
may_end-follows out.Open s ticket e = refl
may_end-follows out.Closing s ticket e = refl
may_end-follows out.Closed s ticket e = refl
may_end-follows _ s ticket e = absurd (cc)

end-fits : (terms : Terms) (r : List Fact) (place s : ℕ) → all_fit r (end terms r place s).delta ≡ true
end-fits terms r place s = on_outgoing-fits r (maker r s) (end_out terms r place s) (chosen (may_end (phase r s)) refl)
  where
    chosen : (x : Bool) → may_end (phase r s) ≡ x → is_outgoing_side (maker r s) ≡ true
        → all_fit r (cond x (if_room terms place (adds r (Ending s (counter r + 1) ∷ [])
        (λ now. option_to_list (request_at now s)))) (refusal NotOpen)).delta ≡ true
    chosen true e side = if_room-fits terms r place (adds r (Ending s (counter r + 1) ∷ [])
        (λ now. option_to_list (request_at now s))) (alone r (Ending s (counter r + 1))
        (both (counter r + 1 == counter r + 1) (follows_at r s (Ending s (counter r + 1))) (same_number (counter r + 1))
        (follow r s (Ending s (counter r + 1)) side (may_end-follows (phase r s) s (counter r + 1) e))))
    chosen false e side = refl

-- tick: what was ended already in this batch is no later sequence
past-side : (m : Maker) (now : ℕ) → is_past (deadline_of (Some m)) now ≡ true → is_incoming_side (Some m) ≡ true
past-side (Incoming c t k y d l) now e = refl
past-side (Offered t c to y) now e = absurd (cc)
past-side (Outgoing t to v l) now e = absurd (cc)
past-side (Taken t q k) now e = absurd (cc)

ended-other : (a : List Fact) (s t : ℕ) → s < t → has_end (a ++ Ended s Expired 0 ∷ []) t ≡ has_end a t
ended-other a s t l =
    let other : (s == t) ≡ false = other_number s t l in
    let none : at_seq t ((s, true) ∷ []) ≡ [] = rw other refl in
    ap any_true (ap (at_seq t) (flat_map-append close_of a (Ended s Expired 0 ∷ []))
    ∙ at_seq-append t (flat_map close_of a) ((s, true) ∷ []) ∙ ap (λ z. closes a t ++ z) none ∙ append-nil (closes a t))

-- sequences from number k + 1 on have no other end in a than in r
abbrev AreEndedAlike : List Fact → List Fact → ℕ → Type 0
AreEndedAlike r a k = (makers a ≡ makers r) × ((t : ℕ) → k < t → has_end a t ≡ has_end r t)

expired-next : (r a : List Fact) (now k : ℕ) (m : Maker) (more : List Fact) → maker r (k + 1) ≡ Some m
    → AreEndedAlike r a k → ((z : List Fact) → AreEndedAlike r z (k + 1) → all_fit z more ≡ true)
    → all_fit a (cond (is_past (deadline_of (Some m)) now && not (has_end r (k + 1)))
    (Ended (k + 1) Expired 0 ∷ more) more) ≡ true
expired-next r a now k m more there same rest =
    chosen (is_past (deadline_of (Some m)) now && not (has_end r (k + 1))) refl
  where
    new : (is_past (deadline_of (Some m)) now && not (has_end r (k + 1))) ≡ true
        → fits a (Ended (k + 1) Expired 0) ≡ true
    new d = both (is_incoming_side (maker a (k + 1))) (not (has_end a (k + 1)))
        (ap (λ z. is_incoming_side (numbered z (k + 1))) same.0 ∙ ap is_incoming_side there
        ∙ past-side m now (first (is_past (deadline_of (Some m)) now) (not (has_end r (k + 1))) d))
        (ap not (same.1 (k + 1) (omega arith))
        ∙ second (is_past (deadline_of (Some m)) now) (not (has_end r (k + 1))) d)

    chosen : (x : Bool) → (is_past (deadline_of (Some m)) now && not (has_end r (k + 1))) ≡ x
        → all_fit a (cond x (Ended (k + 1) Expired 0 ∷ more) more) ≡ true
    chosen true d =
        both (fits a (Ended (k + 1) Expired 0)) (all_fit (a ++ Ended (k + 1) Expired 0 ∷ []) more) (new d)
        (rest (a ++ Ended (k + 1) Expired 0 ∷ []) (
          untouched makers_of a (Ended (k + 1) Expired 0) refl ∙ same.0,
          λ t l. ended-other a (k + 1) t l ∙ same.1 t (omega arith),
        ))
    chosen false d = rest a (same.0, λ t l. same.1 t (omega arith))

expired-fit : (r a : List Fact) (now k : ℕ) (before ms : List Maker) → length before ≡ k → makers r ≡ before ++ ms
    → AreEndedAlike r a k → all_fit a (expired_from r now k ms) ≡ true
expired-fit r a now k before [] n e h = refl
expired-fit r a now k before (m ∷ ms) n e h =
    let front_ : makers r ≡ (before ++ m ∷ []) ++ ms = e ∙ sym (append_assoc before (m ∷ []) ms) in
    let count : length (before ++ m ∷ []) ≡ k + 1 = length-append before (m ∷ []) ∙ ap (λ z. z + 1) n in
    let place : length before + 1 ≡ k + 1 = ap (λ z. z + 1) n in
    let there : maker r (k + 1) ≡ Some m =
    ap (λ z. numbered z (k + 1)) front_
    ∙ numbered-append (before ++ m ∷ []) ms (k + 1) m
    (subst (λ z. numbered (before ++ m ∷ []) z ≡ Some m) place (numbered-last before m)) in
    expired-next r a now k m (expired_from r now (k + 1) ms) there h
    (λ z same. expired-fit r z now (k + 1) (before ++ m ∷ []) ms count front_ same)

tick-fits : (terms : Terms) (r : List Fact) (place now : ℕ) (keys : List Key)
    → all_fit r (tick_with terms r place now keys).delta ≡ true
tick-fits terms r place now keys = chosen (has_room terms place (expired_from r now 0 (makers r)))
  where
    chosen : (x : Bool) → all_fit r (cond x (ticked r now keys (expired_from r now 0 (makers r)))
        (ticked r now keys [])).delta ≡ true
    chosen true = expired-fit r r now 0 [] (makers r) refl refl (refl, λ t l. refl)
    chosen false = refl

-- a request for an acknowledgement and a Nack add nothing
ask_ack-fits : (r : List Fact) (s : ℕ) → all_fit r (ask_ack r s).delta ≡ true
ask_ack-fits r s = on_outgoing-fits r (maker r s) (ask_out r s) (λ side. chosen (may_end (phase r s)))
  where
    chosen : (x : Bool) → all_fit r (cond x (adds r [] (λ after. ask_to (peer after s) (out_ident after s)))
        (refusal NotOpen)).delta ≡ true
    chosen true = refl
    chosen false = refl

-- calls for an incoming sequence
on_incoming-fits : (r : List Fact) (x : Option Maker) (answer : Answer)
    → (is_incoming_side x ≡ true → all_fit r answer.delta ≡ true) → all_fit r (on_incoming x answer).delta ≡ true
on_incoming-fits r None answer h = refl
on_incoming-fits r (Some (Outgoing t to v l)) answer h = refl
on_incoming-fits r (Some (Taken t q k)) answer h = refl
on_incoming-fits r (Some (Offered t c to y)) answer h = h refl
on_incoming-fits r (Some (Incoming c t k y d l)) answer h = h refl

nack_missing-fits : (r : List Fact) (s now : ℕ) → all_fit r (nack_missing r s now).delta ≡ true
nack_missing-fits r s now = on_incoming-fits r (maker r s) (nack_in r s now) (λ side.
    refused-or-fits r (is_over r s now) NotOpen _ (λ e. refl))

consume-fits : (terms : Terms) (r : List Fact) (place s upto : ℕ)
    → all_fit r (consume terms r place s upto).delta ≡ true
consume-fits terms r place s upto =
    on_incoming-fits r (maker r s) (consume_in terms r place s upto) (λ side.
    refused-or-fits r (nat_lt (length (inbox r s)) upto) (PastInbox (length (inbox r s))) _ (λ within.
    if_room-fits terms r place (adds r (cursor_to r s upto) (λ after. []))
    (if-fit r (nat_lt (cursor r s) upto) (Consumed s upto) (λ above.
    both (is_incoming_side (maker r s)) _ side
    (both (nat_lt (cursor r s) upto) (nat_le upto (length (inbox r s))) above
    (le_test upto (length (inbox r s)) (not_lt (length (inbox r s)) upto within)))))))

-- all calls
pub adds-next : (terms : Terms) (r : List Fact) (place : ℕ) → EndsLater terms → all_fit [] r ≡ true
    → AddsNext terms r place
adds-next terms r place l h = record {
  create_ = λ wish. create-fits terms r place wish;
  send_ = λ s text. send-fits terms r place s text;
  close_ = λ s now. close-fits terms r place s now;
  end_ = λ s. end-fits terms r place s;
  tick_ = λ now keys. tick-fits terms r place now keys;
  ask_ack_ = λ s. ask_ack-fits r s;
  nack_missing_ = λ s now. nack_missing-fits r s now;
  consume_ = λ s upto. consume-fits terms r place s upto;
  receive_ = λ now y content n. receive-fits terms r place now y content l h n;
}
