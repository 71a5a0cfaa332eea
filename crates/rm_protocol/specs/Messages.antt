-- What a node says, read from its records: WS-ReliableMessaging 1.2, sections 3.4 to 3.9. Each message has the items
-- that are named and no others.
use Rattle.std.specs.Prelude.{ℕ, ◌+◌, ◌==◌, if◌then◌else◌, List, [], ◌∷◌, codes, Option, Some, None}
use Rattle.rm_sides.specs.declared.ranges.range.Range.{Range}
use Rattle.rm_base.specs.declared.message.Binding.{Binding}
use Rattle.soap_envelope.specs.Soap.{soap_space}
use Rattle.soap_envelope.specs.Frame.Framed.{sorted_scope}
use Rattle.rm_message.specs.declared.elements.header.AckBlock.{AckBlock}
use Rattle.rm_message.specs.declared.elements.header.AckKind.{AckKind}
use Rattle.rm_message.specs.declared.elements.header.AckKind.TheVariants as kind
use Rattle.rm_base.specs.declared.lapse.Lapse.{Lapse}
use Rattle.rm_message.specs.declared.elements.lifecycle.Finish.{Finish}
use Rattle.rm_message.specs.declared.elements.lifecycle.Lifecycle.{Lifecycle}
use Rattle.rm_message.specs.declared.elements.lifecycle.Lifecycle.TheVariants as life
use Rattle.rm_message.specs.declared.elements.lifecycle.Offer.{Offer}
use Rattle.rm_sides.specs.declared.source.phase.OutPhase.{OutPhase}
use Rattle.rm_sides.specs.declared.source.phase.OutPhase.TheVariants as out
use Rattle.rm_sides.specs.Destination.Messages.{ranges_onto}
use Rattle.rm_message.specs.declared.message.Body.{Body}
use Rattle.rm_message.specs.declared.message.Body.TheVariants as body
use Rattle.rm_message.specs.declared.message.Message.{Message}
use Rattle.wsa_headers.specs.declared.endpoint.Epr.{Epr}
use Rattle.record_batch.specs.declared.record.Via.{Via}
use Rattle.record_batch.specs.declared.record.Via.TheVariants.{Direct}
use Rattle.record_batch.specs.Fact.{Fact}
use Rattle.record_batch.specs.Sequences.Words.{Text, last_or}
use Rattle.record_batch.specs.Sequences.Idents.{issue}
use Rattle.record_batch.specs.Sequences.Makers.{Maker, Outgoing, Offered, maker, number}
use Rattle.record_batch.specs.Sequences.Sources.{accepted_count, out_ident, payload_at, phase, tickets}
use Rattle.record_batch.specs.Sequences.Destinations.{held, is_over}
use Rattle.record_batch.specs.Sequences.Find.{peer, plain_endpoint}
use Rattle.rm_protocol.specs.Addresses.{rm_action, payload_action, own_address, reply_to}

-- a message of one body to an endpoint, whose reference parameters go with it
abbrev pub plain : Epr → Text → Body → Message
plain to action content = record {
  addressing = record {
    to = to.address;
    action = action;
    message_id = None;
    relates = None;
    reply_to = None;
    fault_to = None;
    params = to.params;
  };
  sequence = None;
  acks = [];
  asks = [];
  pending = None;
  not_understood = [];
  body = content;
}

-- the bindings that our envelopes have around a payload: those of a frame
unfoldable pub written_scope : List Binding
written_scope = sorted_scope soap_space

-- message i of a sequence: section 3.7
abbrev pub data_of : Epr → Text → ℕ → Text → Message
data_of to q i p = record (plain to payload_action (body.Payload (record { bytes = p; scope = written_scope }))) {
  sequence = Some (record { ident = q; number = i });
}

-- a message of a sequence, where its peer, its identifier and the payload are known
abbrev pub data_by : Option Epr → Option Text → ℕ → Option Text → Option Message
data_by (Some to) (Some q) i (Some p) = Some (data_of to q i p)
data_by _ _ i _ = None

-- message i of outgoing sequence s, as the records have it
abbrev pub data_at : List Fact → ℕ → ℕ → Option Message
data_at r s i = data_by (peer r s) (out_ident r s) i (payload_at r s i)

-- a request with a MessageID, to be answered in this way
abbrev pub request_of : List Fact → Epr → Via → ℕ → Text → Lifecycle → Message
request_of r to via ticket name content = record (plain to (rm_action name) (body.Lifecycle content)) {
  addressing = record {
    to = to.address;
    action = rm_action name;
    message_id = Some (issue (number r) ticket);
    relates = None;
    reply_to = reply_to r via;
    fault_to = None;
    params = to.params;
  };
}

-- an offer has no Expires
abbrev pub never : Lapse
never = record { months = 0; ms = 0 }

-- the offer that goes out with a ticket: of the sequence behind the one that is asked for
abbrev pub offer_by : List Fact → Via → ℕ → Option Maker → Option Offer
offer_by r via ticket (Some (Offered own counter to behaviour)) =
    if own == ticket then Some (record {
      ident = issue (number r) counter;
      endpoint = plain_endpoint (own_address r via);
      expires = never;
      behaviour = behaviour;
    }) else None
offer_by r via ticket _ = None

-- CreateSequence: section 3.4
abbrev pub create_request : List Fact → ℕ → Option Maker → Option Message
create_request r s (Some (Outgoing ticket to via lapse)) =
    Some (request_of r (plain_endpoint to) via ticket (codes "CreateSequence") (life.Create (record {
      acks_to = plain_endpoint (own_address r via);
      expires = lapse;
      offer = offer_by r via ticket (maker r (s + 1));
    })))
create_request r s _ = None

-- how the answers of a sequence that was made so come back: those of one from an offer directly
abbrev pub via_of : Option Maker → Via
via_of (Some (Outgoing ticket to via lapse)) = via
via_of _ = Direct

-- the last message number, absent where no message was accepted
abbrev pub last_number : ℕ → Option ℕ
last_number n = if n == 0 then None else Some n

-- what a CloseSequence or a TerminateSequence of sequence s says: sections 3.5 and 3.6
abbrev pub finish_of : List Fact → ℕ → Text → Finish
finish_of r s q = record { ident = q; last_number = last_number (accepted_count r s) }

-- such a request, where the peer and the identifier are known
abbrev pub finish_request : List Fact → ℕ → Option Epr → Option Text → Text → (Finish → Lifecycle) → Option Message
finish_request r s (Some to) (Some q) name content =
    Some (request_of r to (via_of (maker r s)) (last_or 0 (tickets r s)) name (content (finish_of r s q)))
finish_request r s _ _ name content = None

-- the request that sequence s waits with in a phase
abbrev pub request_by : List Fact → ℕ → OutPhase → Option Message
request_by r s out.Creating = create_request r s (maker r s)
request_by r s out.Closing = finish_request r s (peer r s) (out_ident r s) (codes "CloseSequence") life.Close
request_by r s out.Ending = finish_request r s (peer r s) (out_ident r s) (codes "TerminateSequence") life.Terminate
request_by r s _ = None

-- the request that sequence s waits with, by its phase: sections 3.4, 3.5 and 3.6
abbrev pub request_at : List Fact → ℕ → Option Message
request_at r s = request_by r s (phase r s)

-- ranges, or None where there is no number
abbrev pub kind_of : List Range → AckKind
kind_of [] = kind.Nothing
kind_of (range ∷ ranges) = kind.Ranges (range ∷ ranges)

-- the acknowledgement of incoming sequence s: exactly the numbers that were received, Final where it isn't open:
-- section 3.9
abbrev pub block_of : List Fact → ℕ → Text → ℕ → AckBlock
block_of r s q now = record { ident = q; kind = kind_of (ranges_onto [] (held r s)); last = is_over r s now }

-- an acknowledgement as a message of its own
abbrev pub ack_message : Epr → List AckBlock → Message
ack_message to blocks = record (plain to (rm_action (codes "SequenceAcknowledgement")) body.Empty) { acks = blocks }

-- a request for an acknowledgement: section 3.8
abbrev pub ask_message : Epr → Text → Message
ask_message to q = record (plain to (rm_action (codes "AckRequested")) body.Empty) { asks = q ∷ [] }

-- a response to a message, with the blocks that belong to it
abbrev pub response_of : Epr → Option Text → Text → Lifecycle → List AckBlock → Message
response_of to t name content blocks = record (plain to (rm_action name) (body.Lifecycle content)) {
  addressing = record {
    to = to.address;
    action = rm_action name;
    message_id = None;
    relates = t;
    reply_to = None;
    fault_to = None;
    params = to.params;
  };
  acks = blocks;
}
