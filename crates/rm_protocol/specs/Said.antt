-- What a node says after the rows of the receiving table, and where it goes: WS-Addressing 1.0 Core, section 3.4, and
-- WS-ReliableMessaging 1.2, sections 3.4 to 3.9.
use Rattle.std.specs.Prelude.{ℕ, ◌+◌, Bool, true, false, if◌then◌else◌, List, [], ◌∷◌, ◌++◌, codes, Option, Some, None}
use Rattle.std.specs.List.{filter}
use Rattle.rm_message.specs.declared.elements.header.AckBlock.{AckBlock}
use Rattle.rm_message.specs.declared.elements.header.SeqHeader.{SeqHeader}
use Rattle.rm_message.specs.declared.elements.lifecycle.Lifecycle.{Lifecycle}
use Rattle.rm_message.specs.declared.elements.lifecycle.Lifecycle.TheVariants as life
use Rattle.rm_base.specs.NumberSet.{has_number}
use Rattle.rm_message.specs.declared.message.Body.{Body}
use Rattle.rm_message.specs.declared.message.Body.TheVariants as body
use Rattle.rm_message.specs.declared.message.Message.{Message}
use Rattle.wsa_headers.specs.declared.addressing.Addressing.{Addressing}
use Rattle.wsa_headers.specs.declared.endpoint.Epr.{Epr}
use Rattle.record_batch.specs.Fact.{Fact}
use Rattle.record_batch.specs.Sequences.Words.{Text}
use Rattle.record_batch.specs.Sequences.Idents.{issue}
use Rattle.record_batch.specs.Sequences.Makers.{Maker, Incoming, maker, address, number}
use Rattle.record_batch.specs.Sequences.Find.{acks_to, find_incoming, find_grant, is_taken, plain_endpoint}
use Rattle.rm_protocol.specs.Addresses.{Place, BackOn, Out, place_of, is_anonymous, reply_endpoint}
use Rattle.rm_protocol.specs.Messages.{block_of, ack_message, response_of}

-- Accept, with the node's address, where the offer of a CreateSequence was taken
abbrev pub accept_by : List Fact → Bool → Option Epr
accept_by r false = None
accept_by r true = Some (plain_endpoint (address r))

-- the response for sequence s, which was made so: what Granted has, and Accept
abbrev pub grant_response : List Fact → Epr → Text → ℕ → Option Maker → List Message
grant_response r to t s (Some (Incoming counter message_id acks_to behaviour deadline lapse)) =
    response_of to (Some t) (codes "CreateSequenceResponse") (life.CreateResponse (record {
      ident = issue (number r) counter;
      expires = lapse;
      behaviour = behaviour;
      accept = accept_by r (is_taken (maker r (s + 1)));
    })) [] ∷ []
grant_response r to t s _ = []

-- the response to a CreateSequence, where a sequence was granted for it
abbrev pub create_response : List Fact → Epr → Option Text → Option ℕ → List Message
create_response r to (Some t) (Some s) = grant_response r to t s (maker r s)
create_response r to _ _ = []

-- the response to a CloseSequence or a TerminateSequence, with the final acknowledgement
abbrev pub finish_response : List Fact → ℕ → Addressing → Text → Text → Lifecycle → Option ℕ → List Message
finish_response r now a q name content None = []
finish_response r now a q name content (Some s) =
    response_of (reply_endpoint a) a.message_id name content (block_of r s q now ∷ []) ∷ []

-- the sequence that was granted for a message, where it has a MessageID
abbrev pub find_grant_of : List Fact → Option Text → Option ℕ
find_grant_of r None = None
find_grant_of r (Some t) = find_grant r t

-- the responses to a message, at the records after its rows
abbrev pub responses : List Fact → ℕ → Addressing → Body → List Message
responses r now a (body.Lifecycle (life.Create c)) =
    create_response r (reply_endpoint a) a.message_id (find_grant_of r a.message_id)
responses r now a (body.Lifecycle (life.Close f)) =
    finish_response r now a f.ident (codes "CloseSequenceResponse") (life.CloseResponse f.ident)
    (find_incoming r f.ident)
responses r now a (body.Lifecycle (life.Terminate f)) =
    finish_response r now a f.ident (codes "TerminateSequenceResponse") (life.TerminateResponse f.ident)
    (find_incoming r f.ident)
responses r now a _ = []

-- an acknowledgement and the AcksTo that it goes to; none where that isn't known
abbrev pub Ack : Type 0
Ack = Epr × AckBlock

-- an acknowledgement for an AcksTo that is known, or isn't
abbrev pub ack_to : Option Epr → AckBlock → List Ack
ack_to None block = []
ack_to (Some to) block = (to, block) ∷ []

-- the acknowledgement of a sequence that is one of ours, or isn't
abbrev pub ack_of : List Fact → ℕ → Text → Option ℕ → List Ack
ack_of r now q None = []
ack_of r now q (Some s) = ack_to (acks_to r s) (block_of r s q now)

-- the sequence that a message has data of
abbrev pub data_ident : Option SeqHeader → Body → Option Text
data_ident (Some h) (body.Payload p) = Some h.ident
data_ident _ _ = None

-- the incoming sequence with an identifier, where there is one
abbrev pub found_in : List Fact → Option Text → Option ℕ
found_in r None = None
found_in r (Some q) = find_incoming r q

-- the acknowledgement of data, whether new, a duplicate or past the window
abbrev pub data_acks : List Fact → ℕ → Option Text → List Ack
data_acks r now None = []
data_acks r now (Some q) = ack_of r now q (find_incoming r q)

-- the sequences that have their acknowledgement, and one more
abbrev pub given_with : Option ℕ → List ℕ → List ℕ
given_with None given = given
given_with (Some s) given = s ∷ given

-- what one AckRequested gets: the acknowledgement of its sequence, unless that is one of these, which have theirs
abbrev pub ask_ack : List Fact → ℕ → List ℕ → Text → Option ℕ → List Ack
ask_ack r now given q None = []
ask_ack r now given q (Some s) = if has_number given s then [] else ack_of r now q (Some s)

-- what all of them get: once for each sequence
abbrev pub ask_acks : List Fact → ℕ → List ℕ → List Text → List Ack
ask_acks r now given [] = []
ask_acks r now given (q ∷ qs) =
    ask_ack r now given q (find_incoming r q) ++ ask_acks r now (given_with (find_incoming r q) given) qs

-- the acknowledgements of a step
abbrev pub acks_said : List Fact → ℕ → Message → List Ack
acks_said r now m =
    data_acks r now (data_ident m.sequence m.body)
    ++ ask_acks r now (given_with (found_in r (data_ident m.sequence m.body)) []) m.asks

-- those that go back on the connection are blocks of the reply
abbrev pub back_blocks : List Ack → List AckBlock
back_blocks [] = []
back_blocks (ack ∷ acks) = if is_anonymous ack.0.address then ack.1 ∷ back_blocks acks else back_blocks acks

-- where no response goes back there, they are one message, which goes to the first of their endpoints
abbrev pub back_message : List Ack → List Message
back_message [] = []
back_message (ack ∷ acks) =
    if is_anonymous ack.0.address then ack_message ack.0 (ack.1 ∷ back_blocks acks) ∷ [] else back_message acks

-- each acknowledgement that goes elsewhere is a message of its own
abbrev pub own_messages : List Ack → List Message
own_messages [] = []
own_messages (ack ∷ acks) =
    if is_anonymous ack.0.address then own_messages acks else ack_message ack.0 (ack.1 ∷ []) ∷ own_messages acks

-- a message with more acknowledgements
abbrev pub with_blocks : Message → List AckBlock → Message
with_blocks m blocks = record m { acks = m.acks ++ blocks }

-- responses and acknowledgements together, the reply first
abbrev pub answered : List Message → List Ack → List Message
answered [] acks = back_message acks ++ own_messages acks
answered (m ∷ ms) acks =
    if is_anonymous m.addressing.to then with_blocks m (back_blocks acks) ∷ ms ++ own_messages acks
    else back_message acks ++ (m ∷ ms ++ own_messages acks)

-- all that is said to a message without a verdict, at the records after its rows
abbrev pub said : List Fact → ℕ → Message → List Message
said r now m = answered (responses r now m.addressing m.body) (acks_said r now m)

-- what leaves the node: a message for the connection leaves only where there is one
abbrev pub leaves : Bool → Place → Bool
leaves connected BackOn = connected
leaves connected Out = true
leaves connected _ = false

-- the messages that leave the node
abbrev pub sent_of : Bool → List Message → List Message
sent_of connected ms = filter (λ (m : Message). leaves connected (place_of m.addressing.to)) ms
