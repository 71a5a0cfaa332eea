-- What a source accepted is what the report says was sent.
use Rattle.std.proofs.Common.{max, ◌≡◌, ℕ, ◌+◌, ◌==◌, ◌&&◌, not, nat_lt, nat_le, cond, Bool, true, false, List, [], ◌∷◌}
use Rattle.std.proofs.Common.{◌++◌, length, refl, sym, ap, ◌∙◌, arith, append-nil, append_assoc, length-append, inl}
use Rattle.std.proofs.Common.{inr}
use Rattle.std.specs.Prelude.{Option, Some, None}
use Rattle.std.specs.List.{AllByRecursion}
use Rattle.std.proofs.lemmas.Bool.Decides.{nat_tests}
use Rattle.std.proofs.lemmas.List.Concat.{flat_map-append}
use Rattle.rm_base.specs.Limits.{most_sequences, most_unacked, payload_bytes, window}
use Rattle.rm_base.specs.Message.{max_number}
use Rattle.rm_base.specs.Numbered.{numbered}
use Rattle.rm_base.specs.declared.message.Behaviour.{Behaviour}
use Rattle.rm_base.specs.declared.message.Cause.TheVariants.{Operator, Expired}
use Rattle.rm_message.specs.declared.message.Message.{Message}
use Rattle.record_batch.specs.Fact.{Fact, Creating, Accepted, Closing, Closed, Ending, Ended, Consumed}
use Rattle.record_batch.specs.Sequences.Words.{Text}
use Rattle.record_batch.specs.Sequences.Makers.{Maker, Outgoing, Offered, Incoming, Taken, makers, maker, counter}
use Rattle.record_batch.specs.Sequences.Sources.{accepted, accepted_count, accepted_of, phase}
use Rattle.record_batch.specs.Sequences.Destinations.{cursor, has_end, inbox, is_over}
use Rattle.std.specs.Prelude.{Result, Ok, Err}
use Rattle.rm_message.specs.declared.refusal.FaultKind.{FaultKind}
use Rattle.rm_message.specs.declared.refusal.Refusal.{Refusal}
use Rattle.record_batch.specs.Sequences.Find.{peer}
use Rattle.record_batch.specs.Sequences.Sources.{all_unacked, out_ident, unacked}
use Rattle.rm_sides.specs.Destination.Incoming.{is_past}
use Rattle.record_batch.specs.Sequences.Destinations.{deadline_of}
use Rattle.rm_protocol.specs.Calls
use Rattle.rm_protocol.specs.Calls.{Answer, Cause, Outcome, Done, refusal, adds, if_room, Wish}
use Rattle.rm_protocol.specs.Calls.{wanted, is_open, send_out, on_outgoing, close_out, close_in, close_by, may_end}
use Rattle.rm_protocol.specs.Calls.{end_out, expired_from, judged, receive}
use Rattle.rm_protocol.specs.Waiting.{no_moves}
use Rattle.timers.specs.Keys.Waits.{Wait, first_due}
use Rattle.rm_protocol.specs.Heard.{Heard}
use Rattle.rm_protocol.specs.Compact.{compacted, compacted_by, may_compact, rewritten, stops_compacting, with_list}
use Rattle.rm_protocol.specs.Node.{Node, State, Up, Writing, Compacting, records, node_end}
use Rattle.rm_protocol.specs.Node.{is_short, entries_left, whole_left}
use Rattle.rm_protocol.specs.Node.{mounted, with_batch, goes_down, written, after_by, after, Answered, DiskFault}
use Rattle.rm_protocol.specs.Node.{outcome_with, outcome_by, call_outcome}
use Rattle.std.specs.Option.{option_to_list}
use Rattle.rm_protocol.specs.Messages.{request_at}
use Rattle.rm_protocol.specs.Rows.{rows}
use Rattle.rm_protocol.specs.Sent.{outcome_of, line_of, lines, printed, is_crash, next_entries, counts_call, counts}
use Rattle.rm_protocol.specs.Sent.{sent_by, sent_in, IsLeftAs, IsImage}
use Rattle.rm_protocol.specs.Terms.{Terms}
use Rattle.rm_protocol.specs.Verdict.{verdict, has_room}
use Rattle.rm_protocol.specs.Word.{history}
use Rattle.rm_protocol.specs.World as world
use Rattle.rm_protocol.specs.World.{World, Packet, Side, One, Two, other, node, with_clock, Event, calls}
use Rattle.rm_protocol.specs.Polls.{poll}
use Rattle.rm_protocol.specs.World.{place, received_by, arrives, wish_of, happens, run, start}
use Rattle.rm_protocol.proofs.HeardLemmas.{rows-heard}

accepted-append : (r d : List Fact) (k : ℕ) → accepted (r ++ d) k ≡ accepted r k ++ accepted d k
accepted-append r d k = flat_map-append (accepted_of k) r d

-- an answer with records comes out well
abbrev IsDoneWith : List Fact → Outcome → Type 0
IsDoneWith [] outcome = Unit {0}
IsDoneWith (rec ∷ delta) outcome = outcome ≡ Done

-- an answer that accepts nothing
record IsQuiet (answer : Answer) : Type 0 where
  done : IsDoneWith answer.delta answer.outcome
  quiet : (k : ℕ) → accepted answer.delta k ≡ []

done : (delta : List Fact) → IsDoneWith delta Done
done [] = tt
done (rec ∷ delta) = refl

refusal-quiet : (cause : Cause) → IsQuiet (refusal cause)
refusal-quiet cause = record { done = tt; quiet = λ k. refl }

refused-quiet : (b : Bool) (cause : Cause) (x : Answer) → IsQuiet x → IsQuiet (cond b (refusal cause) x)
refused-quiet true cause x h = refusal-quiet cause
refused-quiet false cause x h = h

refusing-quiet : (b : Bool) (cause : Cause) (x : Answer) → IsQuiet x → IsQuiet (cond b x (refusal cause))
refusing-quiet true cause x h = h
refusing-quiet false cause x h = refusal-quiet cause

if_room-quiet : (terms : Terms) (place : ℕ) (x : Answer) → IsQuiet x → IsQuiet (if_room terms place x)
if_room-quiet terms place x h = refusing-quiet (has_room terms place x.delta)
    (Calls.StoreFull place (terms.size x.delta + 6)) x h

one-quiet : (r : List Fact) (rec : Fact) (outs : List Fact → List Message) → ((k : ℕ) → accepted_of k rec ≡ [])
    → IsQuiet (adds r (rec ∷ []) outs)
one-quiet r rec outs h = record { done = refl; quiet = λ k. ap (λ z. z ++ []) (h k) }

rows-quiet : (terms : Terms) (now : ℕ) (y : Behaviour) (m : Message) (r : List Fact) (k : ℕ)
    → accepted (rows terms now y m r) k ≡ []
rows-quiet terms now y m r k = quiet_all (rows terms now y m r) (rows-heard terms now y m r)
  where
    quiet_one : (rec : Fact) → Heard m rec → accepted_of k rec ≡ []
    quiet_one (Accepted s p) h = absurd h
    quiet_one _ h = refl

    quiet_all : (d : List Fact) → AllByRecursion (Heard m) d → accepted d k ≡ []
    quiet_all [] h = refl
    quiet_all (rec ∷ d) h = ap (λ z. z ++ accepted d k) (quiet_one rec h.0) ∙ quiet_all d h.1

receive-quiet : (terms : Terms) (r : List Fact) (place now : ℕ) (y : Behaviour) (content : Result Message Refusal)
    → IsQuiet (receive terms r place now y content)
receive-quiet terms r place now y (Err refusal) = record { done = tt; quiet = λ k. refl }
receive-quiet terms r place now y (Ok m) = by_verdict (verdict terms r place now y m)
  where
    by_verdict : (v : Option FaultKind) → IsQuiet (judged terms r now y m v)
    by_verdict (Some fault) = record { done = tt; quiet = λ k. refl }
    by_verdict None = record { done = done (rows terms now y m r); quiet = λ k. rows-quiet terms now y m r k }

create-quiet : (terms : Terms) (r : List Fact) (place : ℕ) (wish : Wish) → IsQuiet (Calls.create terms r place wish)
create-quiet terms r place wish =
    let rec = Creating (counter r + 1) wish.to wish.via wish.expires (Calls.offer_of (counter r) wish.offer) in
    let outs : List Fact → List Message = λ now. option_to_list (request_at now (length (makers r) + 1)) in
    refused-quiet (nat_lt most_sequences (length (makers r) + wanted wish.offer))
    (Calls.TooManySequences (length (makers r)))
    (if_room terms place (adds r (rec ∷ []) outs))
    (if_room-quiet terms place (adds r (rec ∷ []) outs) (one-quiet r rec outs (λ k. refl)))

on_outgoing-quiet : (x : Option Maker) (answer : Answer) → IsQuiet answer → IsQuiet (on_outgoing x answer)
on_outgoing-quiet None answer h = refusal-quiet Calls.NoSequence
on_outgoing-quiet (Some (Outgoing t to v l)) answer h = h
on_outgoing-quiet (Some (Taken t q k)) answer h = h
on_outgoing-quiet (Some (Offered t c to y)) answer h = refusal-quiet Calls.WrongSide
on_outgoing-quiet (Some (Incoming c t k y d l)) answer h = refusal-quiet Calls.WrongSide

close_out-quiet : (terms : Terms) (r : List Fact) (place s : ℕ) → IsQuiet (close_out terms r place s)
close_out-quiet terms r place s =
    let rec = Closing s (counter r + 1) in
    let outs : List Fact → List Message = λ now. option_to_list (request_at now s) in
    refusing-quiet (is_open (phase r s)) Calls.NotOpen (if_room terms place (adds r (rec ∷ []) outs))
    (if_room-quiet terms place (adds r (rec ∷ []) outs) (one-quiet r rec outs (λ k. refl)))

close_in-quiet : (terms : Terms) (r : List Fact) (place s now : ℕ) → IsQuiet (close_in terms r place s now)
close_in-quiet terms r place s now =
    let rec = Closed s Operator 0 in
    let outs : List Fact → List Message = λ after. Calls.final_ack after s now (Calls.made_by after (maker after s)) in
    refused-quiet (is_over r s now) Calls.NotOpen (if_room terms place (adds r (rec ∷ []) outs))
    (if_room-quiet terms place (adds r (rec ∷ []) outs) (one-quiet r rec outs (λ k. refl)))

close-quiet : (terms : Terms) (r : List Fact) (place s now : ℕ) → IsQuiet (Calls.close terms r place s now)
close-quiet terms r place s now = by_maker (maker r s)
  where
    by_maker : (x : Option Maker) → IsQuiet (close_by terms r place s now x)
    by_maker None = refusal-quiet Calls.NoSequence
    by_maker (Some (Outgoing t to v l)) = close_out-quiet terms r place s
    by_maker (Some (Taken t q k)) = close_out-quiet terms r place s
    by_maker (Some (Offered t c to y)) = close_in-quiet terms r place s now
    by_maker (Some (Incoming c t k y d l)) = close_in-quiet terms r place s now

end-quiet : (terms : Terms) (r : List Fact) (place s : ℕ) → IsQuiet (Calls.end terms r place s)
end-quiet terms r place s =
    let rec = Ending s (counter r + 1) in
    let outs : List Fact → List Message = λ now. option_to_list (request_at now s) in
    on_outgoing-quiet (maker r s) (end_out terms r place s)
    (refusing-quiet (may_end (phase r s)) Calls.NotOpen (if_room terms place (adds r (rec ∷ []) outs))
    (if_room-quiet terms place (adds r (rec ∷ []) outs) (one-quiet r rec outs (λ k. refl))))

expired-quiet : (r : List Fact) (now i : ℕ) (ms : List Maker) (k : ℕ) → accepted (expired_from r now i ms) k ≡ []
expired-quiet r now i [] k = refl
expired-quiet r now i (m ∷ ms) k = chosen (is_past (deadline_of (Some m)) now && not (has_end r (i + 1)))
    (expired-quiet r now (i + 1) ms k)
  where
    chosen : (x : Bool) → accepted (expired_from r now (i + 1) ms) k ≡ []
        → accepted (cond x (Ended (i + 1) Expired 0 ∷ expired_from r now (i + 1) ms) (expired_from r now (i + 1) ms))
        k ≡ []
    chosen true h = h
    chosen false h = h

-- a call for an incoming sequence
on_incoming-quiet : (x : Option Maker) (answer : Answer) → IsQuiet answer → IsQuiet (Calls.on_incoming x answer)
on_incoming-quiet None answer h = refusal-quiet Calls.NoSequence
on_incoming-quiet (Some (Outgoing t to v l)) answer h = refusal-quiet Calls.WrongSide
on_incoming-quiet (Some (Taken t q k)) answer h = refusal-quiet Calls.WrongSide
on_incoming-quiet (Some (Offered t c to y)) answer h = h
on_incoming-quiet (Some (Incoming c t k y d l)) answer h = h

consume-quiet : (terms : Terms) (r : List Fact) (place s upto : ℕ) → IsQuiet (Calls.consume terms r place s upto)
consume-quiet terms r place s upto =
    on_incoming-quiet (maker r s) (Calls.consume_in terms r place s upto)
    (refused-quiet (nat_lt (length (inbox r s)) upto) (Calls.PastInbox (length (inbox r s))) _
    (if_room-quiet terms place (adds r (Calls.cursor_to r s upto) (λ after. [])) (chosen (nat_lt (cursor r s) upto))))
  where
    chosen : (b : Bool) → IsQuiet (adds r (cond b (Consumed s upto ∷ []) []) (λ after. []))
    chosen true = record { done = refl; quiet = λ k. refl }
    chosen false = record { done = tt; quiet = λ k. refl }

-- a call without records
still-quiet : (r : List Fact) (outs : List Fact → List Message) → IsQuiet (adds r [] outs)
still-quiet r outs = record { done = tt; quiet = λ k. refl }

ask_ack-quiet : (r : List Fact) (s : ℕ) → IsQuiet (Calls.ask_ack r s)
ask_ack-quiet r s = on_outgoing-quiet (maker r s) (Calls.ask_out r s)
    (refusing-quiet (may_end (phase r s)) Calls.NotOpen _
    (still-quiet r (λ after. Calls.ask_to (peer after s) (out_ident after s))))

nack_missing-quiet : (r : List Fact) (s now : ℕ) → IsQuiet (Calls.nack_missing r s now)
nack_missing-quiet r s now =
    on_incoming-quiet (maker r s) (Calls.nack_in r s now)
    (refused-quiet (is_over r s now) Calls.NotOpen _
    (still-quiet r (λ after. Calls.nack_by after s (Calls.made_by after (maker after s)))))

tick-quiet : (terms : Terms) (r : List Fact) (place now time : ℕ) (waits : List Wait)
    → IsQuiet (Calls.tick terms r place now time waits)
tick-quiet terms r place now time waits = chosen (has_room terms place (expired_from r now 0 (makers r)))
  where
    chosen : (x : Bool) → IsQuiet
        (cond x (Calls.ticked r now (first_due (max time now) waits) (expired_from r now 0 (makers r)))
        (Calls.ticked r now (first_due (max time now) waits) []))
    chosen true = record { done = done (expired_from r now 0 (makers r)); quiet = expired-quiet r now 0 (makers r) }
    chosen false = record { done = tt; quiet = λ k. refl }

-- what is accepted, and what of the failed batch will be
abbrev pending : ℕ → ℕ → ℕ → State → List Text
pending k next entries (Writing delta) = cond (next == entries + 1) (accepted delta k) []
pending k next entries _ = []

abbrev total : ℕ → ℕ → Node → List Text
total k next x = accepted x.whole k ++ pending k next (length x.entries) x.state

-- the texts that an answer brings
abbrev brought : ℕ → ℕ → Node → Answer → List Text
brought k next x answer = cond (counts_call (call_outcome x answer) (length (after x answer).entries) next)
    (accepted answer.delta k) []

nothing_brought : (b : Bool) (given : List Text) → given ≡ [] → cond b given [] ≡ []
nothing_brought true given e = e
nothing_brought false given e = refl

-- a call moves the total by what it brings
moves : (k next : ℕ) (x : Node) (answer : Answer) → IsDoneWith answer.delta answer.outcome
    → total k next x ++ brought k next x answer ≡ total k next (after x answer)
moves k next x answer d = by_state x.state refl
  where
    up : (delta : List Fact) (o : Outcome) → IsDoneWith delta o → x.state ≡ Up
        → (accepted x.whole k ++ [])
        ++ cond (counts_call (outcome_with x.fuse delta o) (length (written x delta).entries) next)
        (accepted delta k) []
        ≡ total k next (written x delta)
    up [] o d e =
        ap (λ z. (accepted x.whole k ++ []) ++ z)
        (nothing_brought (counts_call (Answered o) (length x.entries) next) [] refl)
        ∙ append-nil (accepted x.whole k ++ [])
        ∙ ap (λ z. accepted x.whole k ++ pending k next (length x.entries) z) (sym e)
    up (rec ∷ delta) o d e = chosen (is_short 4 x.fuse)
      where
        chosen : (b : Bool) → (accepted x.whole k ++ [])
            ++ cond (counts_call (cond b DiskFault (Answered o))
            (length (cond b (goes_down x (rec ∷ delta)) (with_batch x (rec ∷ delta))).entries) next)
            (accepted (rec ∷ delta) k) []
            ≡ total k next (cond b (goes_down x (rec ∷ delta)) (with_batch x (rec ∷ delta)))
        chosen true = ap (λ z. z ++ cond (next == length x.entries + 1) (accepted (rec ∷ delta) k) [])
            (append-nil (accepted x.whole k))
        chosen false =
            let all : accepted (x.whole ++ (rec ∷ delta)) k ≡ accepted x.whole k ++ accepted (rec ∷ delta) k =
            accepted-append x.whole (rec ∷ delta) k in
            ap (λ z. (accepted x.whole k ++ [])
            ++ cond (counts_call (Answered z) (length (with_batch x (rec ∷ delta)).entries) next)
            (accepted (rec ∷ delta) k) []) d
            ∙ ap (λ z. z ++ accepted (rec ∷ delta) k) (append-nil (accepted x.whole k)) ∙ sym all
            ∙ sym (append-nil (accepted (x.whole ++ (rec ∷ delta)) k))
            ∙ ap (λ z. accepted (x.whole ++ (rec ∷ delta)) k ++ pending k next
            (length (with_batch x (rec ∷ delta)).entries) z) (sym e)

    by_state : (z : State) → x.state ≡ z
        → (accepted x.whole k ++ pending k next (length x.entries) z)
        ++ cond (counts_call (outcome_by x z answer) (length (after_by x z answer).entries) next)
        (accepted answer.delta k) []
        ≡ total k next (after_by x z answer)
    by_state Up e = up answer.delta answer.outcome d e
    by_state (Writing delta) e =
        append-nil (accepted x.whole k ++ pending k next (length x.entries) (Writing delta))
        ∙ ap (λ z. accepted x.whole k ++ pending k next (length x.entries) z) (sym e)
    by_state (Compacting start) e =
        append-nil (accepted x.whole k ++ pending k next (length x.entries) (Compacting start))
        ∙ ap (λ z. accepted x.whole k ++ pending k next (length x.entries) z) (sym e)

-- a call that accepts nothing leaves the total
quiet-moves : (k next : ℕ) (x : Node) (answer : Answer) → IsQuiet answer
    → total k next x ≡ total k next (after x answer)
quiet-moves k next x answer h =
    sym (append-nil (total k next x))
    ∙ ap (λ z. total k next x ++ z)
    (sym (nothing_brought (counts_call (call_outcome x answer) (length (after x answer).entries) next)
    (accepted answer.delta k) (h.quiet k)))
    ∙ moves k next x answer h.done

quiet-call : (terms : Terms) (w : World) (side n : Side) (connected : Bool) (answer : Answer) (k next : ℕ)
    → IsQuiet answer
    → total k next (node w n) ++ [] ≡ total k next (node (calls terms w side connected answer) n)
quiet-call terms w One One connected answer k next h = append-nil (total k next w.one)
    ∙ quiet-moves k next w.one answer h
quiet-call terms w Two Two connected answer k next h = append-nil (total k next w.two)
    ∙ quiet-moves k next w.two answer h
quiet-call terms w One Two connected answer k next h = append-nil (total k next w.two)
quiet-call terms w Two One connected answer k next h = append-nil (total k next w.one)

-- what a send comes to: nothing, or a text that is accepted
data IsSend (s : ℕ) (text : Text) : Answer → Type 0 where
  refused_ : (cause : Cause) → IsSend s text (refusal cause)
  accepted_ : (outs : List Message)
      → IsSend s text (record {
        outcome = Done;
        delta = Accepted s text ∷ [];
        fetched = None;
        outs = outs;
        moves = no_moves;
      })

refused-send : (s : ℕ) (text : Text) (b : Bool) (cause : Cause) (x : Answer) → IsSend s text x
    → IsSend s text (cond b (refusal cause) x)
refused-send s text true cause x h = refused_ cause
refused-send s text false cause x h = h

refusing-send : (s : ℕ) (text : Text) (b : Bool) (cause : Cause) (x : Answer) → IsSend s text x
    → IsSend s text (cond b x (refusal cause))
refusing-send s text true cause x h = h
refusing-send s text false cause x h = refused_ cause

send_out-send : (terms : Terms) (r : List Fact) (place s : ℕ) (text : Text)
    → IsSend s text (send_out terms r place s text)
send_out-send terms r place s text =
    refused-send s text (nat_lt payload_bytes (length text)) _ _
    (refused-send s text (not (terms.is_content text)) _ _
    (refused-send s text (not (is_open (phase r s))) _ _
    (refused-send s text (nat_le window (unacked r s)) _ _
    (refused-send s text (nat_le most_unacked (all_unacked r)) _ _
    (refused-send s text (nat_le max_number (accepted_count r s)) _ _
    (refusing-send s text (has_room terms place (Accepted s text ∷ [])) _ _ (accepted_ _)))))))

on_outgoing-send : (s : ℕ) (text : Text) (x : Option Maker) (answer : Answer) → IsSend s text answer
    → IsSend s text (on_outgoing x answer)
on_outgoing-send s text None answer h = refused_ Calls.NoSequence
on_outgoing-send s text (Some (Outgoing t to v l)) answer h = h
on_outgoing-send s text (Some (Taken t q k)) answer h = h
on_outgoing-send s text (Some (Offered t c to y)) answer h = refused_ Calls.WrongSide
on_outgoing-send s text (Some (Incoming c t k y d l)) answer h = refused_ Calls.WrongSide

send-send : (terms : Terms) (r : List Fact) (place s : ℕ) (text : Text)
    → IsSend s text (Calls.send terms r place s text)
send-send terms r place s text = on_outgoing-send s text (maker r s) (send_out terms r place s text)
    (send_out-send terms r place s text)

swap_cond : (b c : Bool) (t : Text)
    → cond {A = List Text} (b && c) (t ∷ []) [] ≡ cond {A = List Text} c (cond b (t ∷ []) [] ++ []) []
swap_cond true true t = refl
swap_cond true false t = refl
swap_cond false true t = refl
swap_cond false false t = refl

none_counted : (b : Bool) (t : Text) → cond {A = List Text} (b && false) (t ∷ []) [] ≡ []
none_counted true t = refl
none_counted false t = refl

-- a send at the node
send-moves : (k next : ℕ) (x : Node) (s : ℕ) (text : Text) (answer : Answer) → IsSend s text answer
    → total k next x ++ cond ((s == k) && counts_call (call_outcome x answer) (length (after x answer).entries) next)
    (text ∷ []) []
    ≡ total k next (after x answer)
send-moves k next x s text (_) (refused_ cause) = by_state x.state
  where
    by_state : (z : State)
        → total k next x ++ cond
        ((s == k) && counts_call (outcome_by x z (refusal cause))
        (length (after_by x z (refusal cause)).entries) next) (text ∷ []) []
        ≡ total k next (after_by x z (refusal cause))
    by_state Up = ap (λ z. total k next x ++ z) (none_counted (s == k) text) ∙ append-nil (total k next x)
    by_state _ = ap (λ z. total k next x ++ z) (none_counted (s == k) text) ∙ append-nil (total k next x)
send-moves k next x s text (_) (accepted_ outs) =
    let answer : Answer =
    record { outcome = Done; delta = Accepted s text ∷ []; fetched = None; outs = outs; moves = no_moves } in
    let counted = counts_call (call_outcome x answer) (length (after x answer).entries) next in
    ap (λ z. total k next x ++ z) (swap_cond (s == k) counted text) ∙ moves k next x answer refl

mounted-total : (k next : ℕ) (x : Node) (kept : Bool)
    → total k (length (mounted x kept).entries) x ≡ total k next (mounted x kept)
mounted-total k next x kept = by_state x.state kept
  where
    by_state : (z : State) (kept : Bool)
        → accepted x.whole k ++ pending k (length (entries_left z kept x.entries)) (length x.entries) z
        ≡ accepted (whole_left z kept x.whole) k ++ []
    by_state (Writing delta) false =
        let size : (length x.entries == length x.entries + 1) ≡ false = grind (arith, nat_tests) in
        ap (λ b. accepted x.whole k ++ cond b (accepted delta k) []) size
    by_state (Writing delta) true =
        let size : (length (x.entries ++ delta ∷ []) == length x.entries + 1) ≡ true = grind
        (arith, nat_tests, length-append x.entries (delta ∷ [])) in
        ap (λ b. accepted x.whole k ++ cond b (accepted delta k) []) size
        ∙ sym (accepted-append x.whole delta k) ∙ sym (append-nil (accepted (x.whole ++ delta) k))
    by_state (Compacting start) true = refl
    by_state (Compacting start) false = refl
    by_state Up kept = refl

-- a list that is written anew, or stays
compacted-total : (terms : Terms) (k next : ℕ) (x : Node) → total k next x ≡ total k next (compacted terms x)
compacted-total terms k next x = by_state x.state refl
  where
    as_it_was : (z : State) → x.state ≡ z
        → accepted x.whole k ++ pending k next (length x.entries) z ≡ total k next x
    as_it_was z e = ap (λ s. accepted x.whole k ++ pending k next (length x.entries) s) (sym e)

    by_state : (z : State) → x.state ≡ z
        → accepted x.whole k ++ pending k next (length x.entries) z ≡ total k next (compacted_by terms x z)
    by_state Up e = elim (may_compact terms x) as (λ b.
        accepted x.whole k ++ [] ≡ total k next (cond b (rewritten terms x) x)) [
          | true ↦ elim (is_short 5 x.fuse) as (λ b.
              accepted x.whole k ++ [] ≡ total k next (cond b (stops_compacting terms x) (with_list terms x))) [
                | true ↦ refl
                | false ↦ ap (λ z. accepted x.whole k ++ pending k next (length (with_list terms x).entries) z) (sym e)
              ]
          | false ↦ as_it_was Up e
        ]
    by_state (Writing delta) e = as_it_was (Writing delta) e
    by_state (Compacting start) e = as_it_was (Compacting start) e

step : (terms : Terms) (w : World) (event : Event) (n : Side) (k next : ℕ)
    → total k (cond (is_crash n event) (printed n (line_of terms w event)) next) (node w n)
    ++ sent_by n k event (counts (outcome_of terms w event) (printed n (line_of terms w event)) next)
    ≡ total k next (node (happens terms w event) n)
step terms w (world.Create side via expires offer) n k next =
    let x = node w side in
    quiet-call terms w side n false
    (Calls.create terms (records x) (node_end terms x) (wish_of w side via expires offer)) k next
    (create-quiet terms (records x) (node_end terms x) (wish_of w side via expires offer))
step terms w (world.Grant One y) One k next = append-nil (total k next w.one)
step terms w (world.Grant Two y) Two k next = append-nil (total k next w.two)
step terms w (world.Grant One y) Two k next = append-nil (total k next w.two)
step terms w (world.Grant Two y) One k next = append-nil (total k next w.one)
step terms w (world.Send One s text) One k next =
    send-moves k next w.one s text (Calls.send terms (records w.one) (node_end terms w.one) s text)
    (send-send terms (records w.one) (node_end terms w.one) s text)
step terms w (world.Send Two s text) Two k next =
    send-moves k next w.two s text (Calls.send terms (records w.two) (node_end terms w.two) s text)
    (send-send terms (records w.two) (node_end terms w.two) s text)
step terms w (world.Send One s text) Two k next = append-nil (total k next w.two)
step terms w (world.Send Two s text) One k next = append-nil (total k next w.one)
step terms w (world.Tick One now) One k next =
    append-nil (total k next w.one)
    ∙ quiet-moves k next (with_clock w.one now)
    (Calls.tick terms (records w.one) (node_end terms w.one) now w.one.time w.one.waits)
    (tick-quiet terms (records w.one) (node_end terms w.one) now w.one.time w.one.waits)
step terms w (world.Tick Two now) Two k next =
    append-nil (total k next w.two)
    ∙ quiet-moves k next (with_clock w.two now)
    (Calls.tick terms (records w.two) (node_end terms w.two) now w.two.time w.two.waits)
    (tick-quiet terms (records w.two) (node_end terms w.two) now w.two.time w.two.waits)
step terms w (world.Tick One now) Two k next = append-nil (total k next w.two)
step terms w (world.Tick Two now) One k next = append-nil (total k next w.one)
step terms w (world.Deliver i) n k next = by_packet (numbered w.packets i)
  where
    by_packet : (p : Option Packet) → total k next (node w n) ++ [] ≡ total k next (node (arrives terms w p) n)
    by_packet None = append-nil (total k next (node w n))
    by_packet (Some p) =
        let side = other p.from in
        let x = node w side in
        let quiet = receive-quiet terms (records x) (node_end terms x) x.clock x.granted (terms.read p.message) in
        quiet-call terms w side n true (received_by terms x (terms.read p.message)) k next
        (record { done = quiet.done; quiet = quiet.quiet })
step terms w (world.Close side s) n k next =
    let x = node w side in
    quiet-call terms w side n false (Calls.close terms (records x) (node_end terms x) s x.clock) k next
    (close-quiet terms (records x) (node_end terms x) s x.clock)
step terms w (world.End side s) n k next =
    let x = node w side in
    quiet-call terms w side n false (Calls.end terms (records x) (node_end terms x) s) k next
    (end-quiet terms (records x) (node_end terms x) s)
step terms w (world.Ask side s) n k next =
    let x = node w side in
    quiet-call terms w side n false (Calls.ask_ack (records x) s) k next (ask_ack-quiet (records x) s)
step terms w (world.Nack side s) n k next =
    let x = node w side in
    quiet-call terms w side n false (Calls.nack_missing (records x) s x.clock) k next
    (nack_missing-quiet (records x) s x.clock)
step terms w (world.Arm One c) One k next = append-nil (total k next w.one)
step terms w (world.Arm Two c) Two k next = append-nil (total k next w.two)
step terms w (world.Arm One c) Two k next = append-nil (total k next w.two)
step terms w (world.Arm Two c) One k next = append-nil (total k next w.one)
step terms w (world.Crash One kept) One k next = append-nil (total k (length (mounted w.one kept).entries) w.one)
    ∙ mounted-total k next w.one kept
step terms w (world.Crash Two kept) Two k next = append-nil (total k (length (mounted w.two kept).entries) w.two)
    ∙ mounted-total k next w.two kept
step terms w (world.Crash One kept) Two k next = append-nil (total k next w.two)
step terms w (world.Crash Two kept) One k next = append-nil (total k next w.one)
step terms w (world.Noise side refusal) n k next =
    let x = node w side in
    let quiet = receive-quiet terms (records x) (node_end terms x) x.clock x.granted (Err refusal) in
    quiet-call terms w side n true (received_by terms x (Err refusal)) k next
    (record { done = quiet.done; quiet = quiet.quiet })
step terms w (world.Poll side) n k next =
    quiet-call terms w side n false (poll (records (node w side)) (place w (other side))) k next
    (record { done = tt; quiet = λ z. refl })
step terms w (world.Consume side s upto) n k next =
    let x = node w side in
    quiet-call terms w side n false (Calls.consume terms (records x) (node_end terms x) s upto) k next
    (consume-quiet terms (records x) (node_end terms x) s upto)
step terms w (world.Compact One) One k next = append-nil (total k next w.one) ∙ compacted-total terms k next w.one
step terms w (world.Compact Two) Two k next = append-nil (total k next w.two) ∙ compacted-total terms k next w.two
step terms w (world.Compact One) Two k next = append-nil (total k next w.two)
step terms w (world.Compact Two) One k next = append-nil (total k next w.one)

image-total : (x : Node) (k : ℕ) (image all : List Fact) (entries : ℕ) → IsImage x image all entries
    → history all k ≡ total k entries x
image-total x k image all entries h = by_state x.state h
  where
    by_state : (z : State) → IsLeftAs (records x) x.whole (length x.entries) z image all entries
        → history all k ≡ accepted x.whole k ++ pending k entries (length x.entries) z
    by_state Up e = ap (λ z. accepted z k) e.1 ∙ sym (append-nil (accepted x.whole k))
    by_state (Writing delta) (inl e) =
        let same : entries ≡ length x.entries = e.2 in
        let size : (entries == length x.entries + 1) ≡ false = grind (arith, nat_tests) in
        ap (λ z. accepted z k) e.1 ∙ sym (append-nil (accepted x.whole k))
        ∙ ap (λ b. accepted x.whole k ++ cond b (accepted delta k) []) (sym size)
    by_state (Writing delta) (inr e) =
        let same : entries ≡ length x.entries + 1 = e.2 in
        let size : (entries == length x.entries + 1) ≡ true = grind (arith, nat_tests) in
        ap (λ z. accepted z k) e.1 ∙ accepted-append x.whole delta k
        ∙ ap (λ b. accepted x.whole k ++ cond b (accepted delta k) []) (sym size)
    by_state (Compacting start) (inl e) = ap (λ z. accepted z k) e.1 ∙ sym (append-nil (accepted x.whole k))
    by_state (Compacting start) (inr e) = ap (λ z. accepted z k) e.1 ∙ sym (append-nil (accepted x.whole k))

-- from any world on
sent_from : (terms : Terms) (events : List Event) (w : World) (n : Side) (k : ℕ) (image all : List Fact)
    (entries : ℕ) → IsImage (node (run terms events w) n) image all entries
    → history all k ≡ total k (next_entries n entries (lines terms events w)) (node w n) ++ sent_in n k entries
    (lines terms events w)
sent_from terms [] w n k image all entries h = image-total (node w n) k image all entries h
    ∙ sym (append-nil (total k entries (node w n)))
sent_from terms (event ∷ events) w n k image all entries h =
    let v = happens terms w event in
    let ls = lines terms events v in
    let next = next_entries n entries ls in
    let now = cond (is_crash n event) (printed n (line_of terms w event)) next in
    let given = sent_by n k event (counts (outcome_of terms w event) (printed n (line_of terms w event)) next) in
    sent_from terms events v n k image all entries h
    ∙ ap (λ z. z ++ sent_in n k entries ls) (sym (step terms w event n k next))
    ∙ append_assoc (total k now (node w n)) given (sent_in n k entries ls)

start-total : (one two : Text) (n : Side) (k next : ℕ) → total k next (node (start one two) n) ≡ []
start-total one two One k next = refl
start-total one two Two k next = refl

pub sent-is : (terms : Terms) (one two : Text) (events : List Event) (n : Side) (k : ℕ) (image all : List Fact)
    (entries : ℕ)
    → IsImage (node (run terms events (start one two)) n) image all entries
    → history all k ≡ sent_in n k entries (lines terms events (start one two))
sent-is terms one two events n k image all entries h =
    sent_from terms events (start one two) n k image all entries h
    ∙ ap (λ z. z ++ sent_in n k entries (lines terms events (start one two)))
    (start-total one two n k (next_entries n entries (lines terms events (start one two))))
