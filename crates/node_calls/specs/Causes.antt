-- Why a call is refused, apart from what it comes to where it isn't.
use Rattle.std.specs.Prelude.{ℕ, not, nat_le, nat_lt, if◌then◌else◌, List, length, Option, Some, None}
use Rattle.std.specs.Option.{option_or}
use Rattle.rm_base.specs.Limits as limits
use Rattle.rm_base.specs.Message.{max_number}
use Rattle.record_batch.specs.Fact.{Fact}
use Rattle.record_batch.specs.Sequences.Words.{Text}
use Rattle.record_batch.specs.Sequences.Makers.{Maker, Outgoing, Taken, maker}
use Rattle.record_batch.specs.Sequences.Sources.{accepted_count, all_unacked, phase, unacked}
use Rattle.record_batch.specs.Sequences.Destinations.{inbox}
use Rattle.rm_protocol.specs.Calls.{Answer, Cause, NoSequence, WrongSide, PayloadTooLong, BadPayload, NotOpen}
use Rattle.rm_protocol.specs.Calls.{WindowFull, NodeFull, Rollover, PastInbox, is_open, refusal}
use Rattle.rm_protocol.specs.Terms.{Terms}

-- a call that is refused for a cause, or comes to this answer
abbrev pub unless_refused : Option Cause → Answer → Answer
unless_refused None answer = answer
unless_refused (Some cause) answer = refusal cause

-- why a call for an outgoing sequence is refused, by how the sequence came to be
abbrev pub side_cause : Option Maker → Option Cause
side_cause None = Some NoSequence
side_cause (Some (Outgoing ticket to via lapse)) = None
side_cause (Some (Taken message_id ident endpoint)) = None
side_cause (Some _) = Some WrongSide

-- why a payload may not be sent
abbrev pub payload_cause : Terms → Text → Option Cause
payload_cause terms payload =
    if nat_lt limits.payload_bytes (length payload) then Some (PayloadTooLong (length payload))
    else if not (terms.is_content payload) then Some BadPayload
    else None

-- why an outgoing sequence takes no message
abbrev pub window_cause : List Fact → ℕ → Option Cause
window_cause r s =
    if not (is_open (phase r s)) then Some NotOpen
    else if nat_le limits.window (unacked r s) then Some (WindowFull (unacked r s))
    else if nat_le limits.most_unacked (all_unacked r) then Some (NodeFull (all_unacked r))
    else if nat_le max_number (accepted_count r s) then Some Rollover
    else None

-- why the items of an inbox up to one can't be consumed
abbrev pub inbox_cause : List Fact → ℕ → ℕ → Option Cause
inbox_cause r s upto = if nat_lt (length (inbox r s)) upto then Some (PastInbox (length (inbox r s))) else None

-- why a payload is not accepted for a sequence: the first reason that holds
abbrev pub send_cause : Terms → List Fact → ℕ → Text → Option Cause
send_cause terms r s payload =
    option_or (side_cause (maker r s)) (option_or (payload_cause terms payload) (window_cause r s))
