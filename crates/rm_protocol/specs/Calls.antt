-- What a call of a node comes to: the records that it adds, and what it says then.
use Rattle.std.specs.Prelude.{ℕ, zero, suc, ◌+◌, ◌-◌, ◌&&◌, max, take, filter, not, nat_le, nat_lt, Bool, true, false}
use Rattle.std.specs.Prelude.{if◌then◌else◌, List, [], ◌∷◌}
use Rattle.std.specs.Prelude.{◌++◌, length, Option, Some, None, Result, Ok, Err}
use Rattle.std.specs.Option.{option_to_list}
use Rattle.rm_base.specs.Limits as limits
use Rattle.rm_base.specs.Message.{max_number}
use Rattle.rm_base.specs.declared.message.Behaviour.{Behaviour}
use Rattle.rm_base.specs.declared.message.Cause.TheVariants.{Operator, Expired}
use Rattle.rm_message.specs.declared.elements.header.AckBlock.{AckBlock}
use Rattle.rm_message.specs.declared.elements.header.SeqHeader.{SeqHeader}
use Rattle.rm_base.specs.declared.lapse.Lapse.{Lapse}
use Rattle.rm_sides.specs.declared.source.phase.OutPhase.{OutPhase}
use Rattle.rm_sides.specs.declared.source.phase.OutPhase.TheVariants as out
use Rattle.rm_message.specs.declared.message.Message.{Message}
use Rattle.rm_message.specs.declared.refusal.FaultKind.{FaultKind}
use Rattle.rm_message.specs.declared.refusal.FaultKind.TheVariants.{UnknownSequence, SequenceTerminated}
use Rattle.rm_message.specs.declared.refusal.FaultKind.TheVariants.{SequenceClosed, InvalidAcknowledgement}
use Rattle.rm_message.specs.declared.refusal.Refusal.{Refusal}
use Rattle.record_batch.specs.declared.record.OwnOffer.{OwnOffer}
use Rattle.record_batch.specs.declared.record.Via.{Via}
use Rattle.record_batch.specs.Fact.{Fact, Creating, Accepted, Closing, Closed, Ending, Ended, Consumed}
use Rattle.record_batch.specs.Sequences.Words.{Text}
use Rattle.record_batch.specs.Sequences.Idents.{issue}
use Rattle.record_batch.specs.Sequences.Makers.{Maker, Outgoing, Taken, makers, maker, counter, number}
use Rattle.record_batch.specs.Sequences.Sources.{accepted_count, out_ident, phase, unacked, all_unacked}
use Rattle.rm_base.specs.NumberSet.{has_number}
use Rattle.rm_sides.specs.Destination.Incoming.{is_past}
use Rattle.rm_sides.specs.Destination.Messages.{ranges_onto}
use Rattle.record_batch.specs.Sequences.Destinations.{cursor, held, has_end, inbox, is_over, deadline_of}
use Rattle.record_batch.specs.Sequences.Find.{incoming_of, find_incoming, acks_to, peer}
use Rattle.rm_protocol.specs.Addresses.{fault_endpoint}
use Rattle.rm_protocol.specs.Messages.{data_at, request_at, block_of, ask_message}
use Rattle.rm_protocol.specs.Rows.{rows}
use Rattle.rm_protocol.specs.Said.{said, ack_to, own_messages}
use Rattle.rm_protocol.specs.Terms.{Terms}
use Rattle.rm_protocol.specs.Verdict.{verdict, target, is_invalid, has_room}
use Rattle.rm_protocol.specs.Waiting.{Moves, no_moves, nacked, numbers_from}
use Rattle.timers.specs.declared.slots.timers.Key.{Key}
use Rattle.timers.specs.Keys.Waits.{Wait, first_due}
use Rattle.rm_sides.specs.Ranges.Ranges.{greatest_of}
use Rattle.wsa_headers.specs.declared.endpoint.Epr.{Epr}
use Rattle.rm_message.specs.declared.elements.header.AckKind.TheVariants as kind

-- why a call is refused, in the order in which it is tested
pub data Cause : Type 0 where
  NoSequence : Cause
  WrongSide : Cause
  PayloadTooLong : (length : ℕ) → Cause
  BadPayload : Cause
  NotOpen : Cause
  WindowFull : (unacked : ℕ) → Cause
  NodeFull : (unacked : ℕ) → Cause
  Rollover : Cause
  TooManySequences : (count : ℕ) → Cause
  StoreFull : (end needed : ℕ) → Cause
  PastInbox : (have : ℕ) → Cause

-- how a call comes out: done, refused, or with a fault as the answer to a message
pub data Outcome : Type 0 where
  Done : Outcome
  Refused : (cause : Cause) → Outcome
  Judged : (fault : FaultKind) → Outcome

-- a message that waited for an address, as it goes back on the connection on which it was asked for
pub record Fetched : Type 0 where
  pub address : Text
  pub message : Message

-- what a call comes to: whether it was done, the records that it adds, the message that waited and is fetched, where
-- one is, all else that is said then, and which keys it moves besides those that these records begin and end
pub record Answer : Type 0 where
  pub outcome : Outcome
  pub delta : List Fact
  pub fetched : Option Fetched
  pub outs : List Message
  pub moves : Moves

-- a call that is refused adds nothing and says nothing
abbrev pub refusal : Cause → Answer
refusal cause = record { outcome = Refused cause; delta = []; fetched = None; outs = []; moves = no_moves }

-- the records are added, this is said when they are there, and keys are moved
abbrev pub adds_and_moves : List Fact → List Fact → Moves → (List Fact → List Message) → Answer
adds_and_moves r delta moves outs = record {
  outcome = Done;
  delta = delta;
  fetched = None;
  outs = outs (r ++ delta);
  moves = moves;
}

-- the records are added, and this is said when they are there
abbrev pub adds : List Fact → List Fact → (List Fact → List Message) → Answer
adds r delta outs = adds_and_moves r delta no_moves outs

-- a batch that doesn't fit the store is refused
abbrev pub if_room : Terms → ℕ → Answer → Answer
if_room terms end answer =
    if has_room terms end answer.delta then answer
    else refusal (StoreFull end (terms.size answer.delta + 6))

-- what is asked for: the peer's address, how answers come back, how long the sequence lasts, and the behaviour of the
-- sequence that is offered in the other direction
pub record Wish : Type 0 where
  pub to : Text
  pub via : Via
  pub expires : Lapse
  pub offer : Option Behaviour

-- an offer draws the number behind the ticket's
abbrev pub offer_of : ℕ → Option Behaviour → Option OwnOffer
offer_of drawn None = None
offer_of drawn (Some behaviour) = Some (record { counter = drawn + 2; behaviour = behaviour })

-- how many sequences are wanted
abbrev pub wanted : Option Behaviour → ℕ
wanted None = 1
wanted (Some behaviour) = 2

-- create: Creating, and the request of the new sequence
abbrev pub create : Terms → List Fact → ℕ → Wish → Answer
create terms r end wish =
    if nat_lt limits.most_sequences (length (makers r) + wanted wish.offer)
    then refusal (TooManySequences (length (makers r)))
    else if_room terms end (adds r
    (Creating (counter r + 1) wish.to wish.via wish.expires (offer_of (counter r) wish.offer) ∷ [])
    (λ after. option_to_list (request_at after (length (makers r) + 1))))

-- messages are accepted in phase Open alone
abbrev pub is_open : OutPhase → Bool
is_open out.Open = true
is_open _ = false

-- send: Accepted, and the message
abbrev pub send_out : Terms → List Fact → ℕ → ℕ → Text → Answer
send_out terms r end s payload =
    if nat_lt limits.payload_bytes (length payload) then refusal (PayloadTooLong (length payload))
    else if not (terms.is_content payload) then refusal BadPayload
    else if not (is_open (phase r s)) then refusal NotOpen
    else if nat_le limits.window (unacked r s) then refusal (WindowFull (unacked r s))
    else if nat_le limits.most_unacked (all_unacked r) then refusal (NodeFull (all_unacked r))
    else if nat_le max_number (accepted_count r s) then refusal Rollover
    else if_room terms end (adds r (Accepted s payload ∷ [])
    (λ after. option_to_list (data_at after s (accepted_count r s + 1))))

-- a call for an outgoing sequence
abbrev pub on_outgoing : Option Maker → Answer → Answer
on_outgoing None answer = refusal NoSequence
on_outgoing (Some (Outgoing ticket to via lapse)) answer = answer
on_outgoing (Some (Taken message_id ident endpoint)) answer = answer
on_outgoing (Some _) answer = refusal WrongSide

-- send, of any sequence
abbrev pub send : Terms → List Fact → ℕ → ℕ → Text → Answer
send terms r end s payload = on_outgoing (maker r s) (send_out terms r end s payload)

-- close of an outgoing sequence: Closing, and its request
abbrev pub close_out : Terms → List Fact → ℕ → ℕ → Answer
close_out terms r end s =
    if is_open (phase r s) then if_room terms end (adds r (Closing s (counter r + 1) ∷ [])
    (λ after. option_to_list (request_at after s)))
    else refusal NotOpen

-- the acknowledgement of an incoming sequence as a message of its own, where its AcksTo is known
abbrev pub final_ack : List Fact → ℕ → ℕ → Option (ℕ × Text) → List Message
final_ack r s now None = []
final_ack r s now (Some made) = own_messages (ack_to (acks_to r s) (block_of r s (issue (number r) made.0) now))

-- of an incoming sequence: the number of its identifier, and the message that it was made for
abbrev pub made_by : List Fact → Option Maker → Option (ℕ × Text)
made_by r None = None
made_by r (Some m) = incoming_of (number r) m

-- close of an incoming sequence: Closed by the operator, and the final acknowledgement
abbrev pub close_in : Terms → List Fact → ℕ → ℕ → ℕ → Answer
close_in terms r end s now =
    if is_over r s now then refusal NotOpen
    else if_room terms end (adds r (Closed s Operator 0 ∷ [])
    (λ after. final_ack after s now (made_by after (maker after s))))

-- close of a sequence that was made so
abbrev pub close_by : Terms → List Fact → ℕ → ℕ → ℕ → Option Maker → Answer
close_by terms r end s now None = refusal NoSequence
close_by terms r end s now (Some (Outgoing ticket to via lapse)) = close_out terms r end s
close_by terms r end s now (Some (Taken message_id ident endpoint)) = close_out terms r end s
close_by terms r end s now (Some _) = close_in terms r end s now

-- close, of any sequence
abbrev pub close : Terms → List Fact → ℕ → ℕ → ℕ → Answer
close terms r end s now = close_by terms r end s now (maker r s)

-- the phases from which a sequence is ended
abbrev pub may_end : OutPhase → Bool
may_end out.Open = true
may_end out.Closing = true
may_end out.Closed = true
may_end _ = false

-- end: Ending, and its request
abbrev pub end_out : Terms → List Fact → ℕ → ℕ → Answer
end_out terms r end s =
    if may_end (phase r s) then if_room terms end (adds r (Ending s (counter r + 1) ∷ [])
    (λ after. option_to_list (request_at after s)))
    else refusal NotOpen

-- end, of any sequence
abbrev pub end : Terms → List Fact → ℕ → ℕ → Answer
end terms r place s = on_outgoing (maker r s) (end_out terms r place s)

-- the incoming sequences whose deadline is at most now and that have no Ended record, counted from k + 1
abbrev pub expired_from : List Fact → ℕ → ℕ → List Maker → List Fact
expired_from r now k [] = []
expired_from r now k (m ∷ ms) =
    if is_past (deadline_of (Some m)) now && not (has_end r (k + 1))
    then Ended (k + 1) Expired 0 ∷ expired_from r now (k + 1) ms
    else expired_from r now (k + 1) ms

-- the message that a key is emitted as: number 0 stands for the request of its sequence
abbrev pub message_at : List Fact → ℕ → ℕ → Option Message
message_at r s zero = request_at r s
message_at r s (suc i) = data_at r s (suc i)

-- of keys, in order
abbrev pub messages_at : List Fact → List Key → List Message
messages_at r [] = []
messages_at r (k ∷ keys) = option_to_list (message_at r k.seq k.number) ++ messages_at r keys

-- tick: they are ended in one batch, where it fits the store, and the first keys that are due are emitted, at the
-- moment of the tick or at the node's time where that is later
abbrev pub ticked : List Fact → ℕ → List Key → List Fact → Answer
ticked r now keys delta =
    adds_and_moves r delta (record { urged = []; emitted = keys; time = now }) (λ after. messages_at after keys)

-- tick, at which these keys are emitted
abbrev pub tick_with : Terms → List Fact → ℕ → ℕ → List Key → Answer
tick_with terms r end now keys =
    if has_room terms end (expired_from r now 0 (makers r))
    then ticked r now keys (expired_from r now 0 (makers r))
    else ticked r now keys []

-- tick, of a node with this time, at which these wait
abbrev pub tick : Terms → List Fact → ℕ → ℕ → ℕ → List Wait → Answer
tick terms r end now time waits = tick_with terms r end now (first_due (max time now) waits)

-- ask_ack, in phase Open, Closing or Closed: the peer is asked for an acknowledgement
abbrev pub ask_to : Option Epr → Option Text → List Message
ask_to (Some to) (Some q) = ask_message to q ∷ []
ask_to _ _ = []

-- of an outgoing sequence
abbrev pub ask_out : List Fact → ℕ → Answer
ask_out r s =
    if may_end (phase r s) then adds r [] (λ after. ask_to (peer after s) (out_ident after s))
    else refusal NotOpen

-- ask_ack, of any sequence
abbrev pub ask_ack : List Fact → ℕ → Answer
ask_ack r s = on_outgoing (maker r s) (ask_out r s)

-- a call for an incoming sequence
abbrev pub on_incoming : Option Maker → Answer → Answer
on_incoming None answer = refusal NoSequence
on_incoming (Some (Outgoing ticket to via lapse)) answer = refusal WrongSide
on_incoming (Some (Taken message_id ident endpoint)) answer = refusal WrongSide
on_incoming (Some _) answer = answer

-- the cursor of an incoming sequence goes on to an item of its inbox
abbrev pub cursor_to : List Fact → ℕ → ℕ → List Fact
cursor_to r s upto = if nat_lt (cursor r s) upto then Consumed s upto ∷ [] else []

-- consume of an incoming sequence: Consumed, where the cursor goes on
abbrev pub consume_in : Terms → List Fact → ℕ → ℕ → ℕ → Answer
consume_in terms r end s upto =
    if nat_lt (length (inbox r s)) upto then refusal (PastInbox (length (inbox r s)))
    else if_room terms end (adds r (cursor_to r s upto) (λ after. []))

-- consume, of any sequence
abbrev pub consume : Terms → List Fact → ℕ → ℕ → ℕ → Answer
consume terms r end s upto = on_incoming (maker r s) (consume_in terms r end s upto)

-- the most numbers that a Nack names
abbrev pub most_missing : ℕ
most_missing = 64

-- the first numbers below the greatest that were not received
abbrev pub missing_of : List Fact → ℕ → List ℕ
missing_of r s = take most_missing (filter (λ n. not (has_number (held r s) n))
    (numbers_from 1 (greatest_of (ranges_onto [] (held r s)) - 1)))

-- the Nack of numbers, where there are any: WS-ReliableMessaging 1.2, section 3.9
abbrev pub nack_to : Option Epr → Text → List ℕ → List Message
nack_to to q [] = []
nack_to to q (n ∷ ns) = own_messages (ack_to to (record { ident = q; kind = kind.Nack (n ∷ ns); last = false }))

-- of an incoming sequence that was made for a message
abbrev pub nack_by : List Fact → ℕ → Option (ℕ × Text) → List Message
nack_by r s None = []
nack_by r s (Some made) = nack_to (acks_to r s) (issue (number r) made.0) (missing_of r s)

-- where it is open
abbrev pub nack_in : List Fact → ℕ → ℕ → Answer
nack_in r s now =
    if is_over r s now then refusal NotOpen else adds r [] (λ after. nack_by after s (made_by after (maker after s)))

-- nack_missing, of any sequence
abbrev pub nack_missing : List Fact → ℕ → ℕ → Answer
nack_missing r s now = on_incoming (maker r s) (nack_in r s now)

-- the block that a fault carries or repeats: the final acknowledgement of the closed sequence, or the first refused
-- block
abbrev pub first_invalid : List Fact → List AckBlock → Option AckBlock
first_invalid r [] = None
first_invalid r (block ∷ blocks) = if is_invalid r block then Some block else first_invalid r blocks

-- the acknowledgement of a sequence, where it is one of ours
abbrev pub block_by : List Fact → ℕ → Text → Option ℕ → Option AckBlock
block_by r now q None = None
block_by r now q (Some s) = Some (block_of r s q now)

-- the acknowledgement of the sequence that a Sequence header names
abbrev pub block_at : List Fact → ℕ → Option SeqHeader → Option AckBlock
block_at r now None = None
block_at r now (Some h) = block_by r now h.ident (find_incoming r h.ident)

-- the block that belongs to a fault of this kind, where one does
abbrev pub fault_block : List Fact → ℕ → Message → FaultKind → Option AckBlock
fault_block r now m SequenceClosed = block_at r now m.sequence
fault_block r now m InvalidAcknowledgement = first_invalid r m.acks
fault_block r now m _ = None

-- the sequence that a fault speaks of
abbrev pub fault_ident : Message → FaultKind → Option Text
fault_ident m UnknownSequence = target m.sequence m.body
fault_ident m SequenceTerminated = target m.sequence m.body
fault_ident m SequenceClosed = target m.sequence m.body
fault_ident m _ = None

-- a message is refused with this kind
abbrev pub refusal_of : Message → FaultKind → Refusal
refusal_of m kind = record {
  kind = kind;
  endpoint = fault_endpoint m.addressing;
  relates = m.addressing.message_id;
  names = [];
  ident = fault_ident m kind;
}

-- a message with a verdict gets its fault, and one without the rows of the receiving table
abbrev pub judged : Terms → List Fact → ℕ → Behaviour → Message → Option FaultKind → Answer
judged terms r now behaviour m (Some kind) =
    record {
      outcome = Judged kind;
      delta = [];
      fetched = None;
      outs = terms.fault (refusal_of m kind) (fault_block r now m kind) ∷ [];
      moves = no_moves;
    }
judged terms r now behaviour m None =
    adds_and_moves r (rows terms now behaviour m r) (record { urged = nacked r m.acks; emitted = []; time = 0 })
    (λ after. said after now m)

-- receive: a message, or the refusal of bytes that are none
abbrev pub receive : Terms → List Fact → ℕ → ℕ → Behaviour → Result Message Refusal → Answer
receive terms r end now behaviour (Ok m) = judged terms r now behaviour m (verdict terms r end now behaviour m)
receive terms r end now behaviour (Err refusal) =
    record {
      outcome = Judged refusal.kind;
      delta = [];
      fetched = None;
      outs = terms.fault refusal None ∷ [];
      moves = no_moves;
    }
