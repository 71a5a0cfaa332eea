-- The receiving table: the records that a node adds for a message without a verdict. Each row reads the records of
-- those before it. WS-ReliableMessaging 1.2, sections 2.4, 3.4 to 3.9 and 4.
use Rattle.std.specs.Prelude.{ℕ, ◌+◌, ◌-◌, ◌&&◌, not, nat_lt, Bool, true, false, if◌then◌else◌, List, [], ◌∷◌, ◌++◌}
use Rattle.std.specs.Prelude.{length, codes, Option, Some, None, is_none}
use Rattle.std.specs.Str.{bytes_eq}
use Rattle.rm_base.specs.Limits as limits
use Rattle.rm_sides.specs.declared.ranges.range.Range.{Range}
use Rattle.rm_sides.specs.Ranges.Changes.{covers_all, united}
use Rattle.rm_base.specs.NumberSet.{has_number}
use Rattle.rm_base.specs.declared.message.Behaviour.{Behaviour}
use Rattle.rm_base.specs.declared.message.Cause.TheVariants.{Peer, NotTaken}
use Rattle.rm_base.specs.declared.message.Payload.{Payload}
use Rattle.rm_message.specs.declared.elements.header.AckBlock.{AckBlock}
use Rattle.rm_message.specs.declared.elements.header.AckKind.{AckKind}
use Rattle.rm_message.specs.declared.elements.header.AckKind.TheVariants as kind
use Rattle.rm_message.specs.declared.elements.header.SeqHeader.{SeqHeader}
use Rattle.rm_message.specs.declared.elements.lifecycle.CreateResponse.{CreateResponse}
use Rattle.rm_message.specs.declared.elements.lifecycle.CreateSequence.{CreateSequence}
use Rattle.rm_message.specs.declared.elements.lifecycle.Lifecycle.TheVariants as life
use Rattle.rm_message.specs.declared.elements.lifecycle.Offer.{Offer}
use Rattle.rm_sides.specs.declared.source.phase.OutPhase.{OutPhase}
use Rattle.rm_sides.specs.declared.source.phase.OutPhase.TheVariants as out
use Rattle.rm_message.specs.declared.message.Body.{Body}
use Rattle.rm_message.specs.declared.message.Body.TheVariants as body
use Rattle.rm_message.specs.declared.message.Message.{Message}
use Rattle.rm_message.specs.declared.refusal.FaultKind.TheVariants as kinds
use Rattle.rm_message.specs.Kinds.{kind_number}
use Rattle.soap_document.specs.Profile.Tree.{Element}
use Rattle.soap_document.specs.declared.profile.name.Expanded.{Expanded}
use Rattle.soap_writer.specs.Frame.{messaging_space}
use Rattle.wsa_headers.specs.declared.endpoint.Epr.{Epr}
use Rattle.record_batch.specs.declared.record.PeerOffer.{PeerOffer}
use Rattle.record_batch.specs.Fact.{Fact, Created, Granted, Acked, Received, ClosedOut, Closed, EndedOut}
use Rattle.record_batch.specs.Fact.{Ended, Failed}
use Rattle.record_batch.specs.Sequences.Words.{Text}
use Rattle.record_batch.specs.Sequences.Makers.{makers, maker, counter}
use Rattle.record_batch.specs.Sequences.Sources.{acked, is_sending, phase}
use Rattle.record_batch.specs.Sequences.Destinations.{held, front, has_end, is_ended, is_over}
use Rattle.record_batch.specs.Sequences.Find.{find_incoming, find_outgoing, find_grant, find_creating, is_offered}
use Rattle.rm_protocol.specs.Addresses.{is_anonymous, is_nowhere}
use Rattle.rm_protocol.specs.Detail.{named_in}
use Rattle.rm_protocol.specs.Terms.{Terms}

-- the records that are added to those that are there
abbrev pub Row : Type 0
Row = List Fact → List Fact

-- one row and then another, which reads the records of the first too
abbrev pub then_row : Row → Row → Row
then_row f g r = f r ++ g (r ++ f r)

-- ranges or None, for an outgoing sequence: Acked with the block's numbers, where one is new

-- the ranges of a block; None and Nack have none
abbrev pub ranges_of : AckKind → List Range
ranges_of (kind.Ranges ranges) = ranges
ranges_of _ = []

-- the row of ranges for an outgoing sequence that is known, or isn't
abbrev pub ack_at : Option ℕ → List Range → Row
ack_at None ranges r = []
ack_at (Some s) ranges r =
    if covers_all (united [] (acked r s)) ranges then [] else Acked s (united [] ranges) ∷ []

-- the row of a block's ranges
abbrev pub ack_row : AckBlock → Row
ack_row block r = ack_at (find_outgoing r block.ident) (ranges_of block.kind) r

-- with Final, in phase Open or Closing: ClosedOut
abbrev pub final_at : Option ℕ → Bool → Row
final_at (Some s) true r = if is_sending (phase r s) then ClosedOut s ∷ [] else []
final_at _ _ r = []

-- the row of a block's Final
abbrev pub final_row : AckBlock → Row
final_row block r = final_at (find_outgoing r block.ident) block.last r

-- the rows of all blocks, in order
abbrev pub ack_rows : List AckBlock → Row
ack_rows [] r = []
ack_rows (block ∷ blocks) r = then_row (then_row (ack_row block) (final_row block)) (ack_rows blocks) r

-- data, the number new, at most 1024 past the front, for an open sequence: Received
abbrev pub data_row_at : ℕ → Option ℕ → ℕ → Payload → Row
data_row_at now None n p r = []
data_row_at now (Some s) n p r =
    if has_number (held r s) n then []
    else if is_over r s now then []
    else if nat_lt (front r s + limits.window) n then []
    else Received s n p ∷ []

-- the row of a Sequence header and its payload
abbrev pub data_row : ℕ → Option SeqHeader → Payload → Row
data_row now None p r = []
data_row now (Some h) p r = data_row_at now (find_incoming r h.ident) h.number p r

-- CreateSequence, new: Granted. Its offer is taken where its endpoint is an address, its identifier is no outgoing one,
-- and a place is left after the grant
abbrev pub taken_of : List Fact → Option Offer → Option PeerOffer
taken_of r None = None
taken_of r (Some offer) =
    if is_none (find_outgoing r offer.ident)
    && (not (is_anonymous offer.endpoint.address) &&
    (not (is_nowhere offer.endpoint.address) && nat_lt (length (makers r)) (limits.most_sequences - 1)))
    then Some (record { ident = offer.ident; endpoint = offer.endpoint }) else None

-- the row of a CreateSequence whose MessageID was granted already, or wasn't
abbrev pub create_at : Terms → ℕ → Behaviour → Option ℕ → Text → CreateSequence → Row
create_at terms now behaviour None t c r =
    Granted (counter r + 1) t c.acks_to behaviour (terms.deadline now c.expires) c.expires (taken_of r c.offer) ∷ []
create_at terms now behaviour (Some s) t c r = []

-- the row of a CreateSequence
abbrev pub create_row : Terms → ℕ → Behaviour → Option Text → CreateSequence → Row
create_row terms now behaviour None c r = []
create_row terms now behaviour (Some t) c r = create_at terms now behaviour (find_grant r t) t c r

-- the offer that went out with sequence s wasn't taken: Ended, where there is no Ended record
abbrev pub drop_at : ℕ → Row
drop_at s r = if is_offered (maker r (s + 1)) && not (has_end r (s + 1)) then Ended (s + 1) NotTaken 0 ∷ [] else []

-- an offer is dropped where the response has no Accept
abbrev pub drop_unless : Option Epr → ℕ → Row
drop_unless None s r = drop_at s r
drop_unless (Some endpoint) s r = []

-- CreateSequenceResponse that relates to a sequence in Creating, its identifier no outgoing one: Created
abbrev pub response_at : Option ℕ → Option ℕ → CreateResponse → Row
response_at (Some s) None c r = Created s c.ident c.accept ∷ drop_unless c.accept s r
response_at _ _ c r = []

-- the row of a CreateSequenceResponse
abbrev pub response_row : Option Text → CreateResponse → Row
response_row None c r = []
response_row (Some t) c r = response_at (find_creating r t) (find_outgoing r c.ident) c r

-- CloseSequence, open: Closed. TerminateSequence, not ended: Ended
abbrev pub last_of : Option ℕ → ℕ
last_of None = 0
last_of (Some n) = n

-- the row of a CloseSequence for a sequence that is known, or isn't
abbrev pub close_at : ℕ → Option ℕ → ℕ → Row
close_at now None n r = []
close_at now (Some s) n r = if is_over r s now then [] else Closed s Peer n ∷ []

-- the row of a TerminateSequence for a sequence that is known, or isn't
abbrev pub terminate_at : ℕ → Option ℕ → ℕ → Row
terminate_at now None n r = []
terminate_at now (Some s) n r = if is_ended r s now then [] else Ended s Peer n ∷ []

-- CloseSequenceResponse, phase Closing: ClosedOut. TerminateSequenceResponse, phase Ending: EndedOut
abbrev pub closed_in : ℕ → OutPhase → List Fact
closed_in s out.Closing = ClosedOut s ∷ []
closed_in s _ = []

-- what a TerminateSequenceResponse adds in a phase
abbrev pub ended_in : ℕ → OutPhase → List Fact
ended_in s out.Ending = EndedOut s ∷ []
ended_in s _ = []

-- the row of a CloseSequenceResponse
abbrev pub closed_at : Option ℕ → Row
closed_at None r = []
closed_at (Some s) r = closed_in s (phase r s)

-- the row of a TerminateSequenceResponse
abbrev pub ended_at : Option ℕ → Row
ended_at None r = []
ended_at (Some s) r = ended_in s (phase r s)

-- Fault CreateSequenceRefused that relates to a sequence in Creating: Failed, and its offer is ended
abbrev pub refused_at : Option ℕ → Row
refused_at None r = []
refused_at (Some s) r = Failed s (kind_number kinds.CreateSequenceRefused) ∷ drop_at s r

-- the row of a fault CreateSequenceRefused
abbrev pub refused_row : Option Text → Row
refused_row None r = []
refused_row (Some t) r = refused_at (find_creating r t) r

-- Fault SequenceTerminated, UnknownSequence or MessageNumberRollover whose Detail names an outgoing sequence. Phase
-- Ending: EndedOut; phase Open, Closing or Closed: Failed
abbrev pub failed_in : ℕ → ℕ → OutPhase → List Fact
failed_in fault s out.Ending = EndedOut s ∷ []
failed_in fault s out.Open = Failed s fault ∷ []
failed_in fault s out.Closing = Failed s fault ∷ []
failed_in fault s out.Closed = Failed s fault ∷ []
failed_in fault s _ = []

-- the row of a fault that ends a sequence
abbrev pub failed_at : ℕ → Option ℕ → Row
failed_at fault None r = []
failed_at fault (Some s) r = failed_in fault s (phase r s)

-- Fault SequenceClosed, the same. Phase Open or Closing: ClosedOut
abbrev pub shut_at : Option ℕ → Row
shut_at None r = []
shut_at (Some s) r = if is_sending (phase r s) then ClosedOut s ∷ [] else []

-- the faults that a node acts on, by their subcode: section 4
abbrev pub is_fault : Text → Option Expanded → Bool
is_fault name None = false
is_fault name (Some subcode) = bytes_eq subcode.space messaging_space && bytes_eq subcode.local name

-- the row of a fault: what it relates to, its subcode and its Detail
abbrev pub fault_row : Option Text → Option Expanded → List Element → Row
fault_row relates subcode detail r =
    if is_fault (codes "CreateSequenceRefused") subcode then refused_row relates r
    else if is_fault (codes "SequenceTerminated") subcode
    then failed_at (kind_number kinds.SequenceTerminated) (named_in r detail) r
    else if is_fault (codes "UnknownSequence") subcode
    then failed_at (kind_number kinds.UnknownSequence) (named_in r detail) r
    else if is_fault (codes "MessageNumberRollover") subcode
    then failed_at (kind_number kinds.Rollover) (named_in r detail) r
    else if is_fault (codes "SequenceClosed") subcode then shut_at (named_in r detail) r
    else []

-- the row of a body
abbrev pub body_row : Terms → ℕ → Behaviour → Message → Body → Row
body_row terms now behaviour m (body.Payload p) r = data_row now m.sequence p r
body_row terms now behaviour m (body.Lifecycle (life.Create c)) r =
    create_row terms now behaviour m.addressing.message_id c r
body_row terms now behaviour m (body.Lifecycle (life.CreateResponse c)) r = response_row m.addressing.relates c r
body_row terms now behaviour m (body.Lifecycle (life.Close f)) r =
    close_at now (find_incoming r f.ident) (last_of f.last_number) r
body_row terms now behaviour m (body.Lifecycle (life.Terminate f)) r =
    terminate_at now (find_incoming r f.ident) (last_of f.last_number) r
body_row terms now behaviour m (body.Lifecycle (life.CloseResponse q)) r = closed_at (find_outgoing r q) r
body_row terms now behaviour m (body.Lifecycle (life.TerminateResponse q)) r = ended_at (find_outgoing r q) r
body_row terms now behaviour m (body.Fault f) r = fault_row m.addressing.relates f.subcode f.detail r
body_row terms now behaviour m _ r = []

-- all rows in order: the acknowledgements that came with the message, and then its body
abbrev pub rows : Terms → ℕ → Behaviour → Message → Row
rows terms now behaviour m = then_row (ack_rows m.acks) (body_row terms now behaviour m m.body)
