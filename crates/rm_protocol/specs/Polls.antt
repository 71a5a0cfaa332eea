-- The messages that wait at a node for addresses that nobody can reach, and what a MakeConnection takes out of them:
-- WS-MakeConnection 1.1, section 3.
use Rattle.std.specs.Prelude.{not, Bool, true, false, List, [], ◌∷◌, filter, flat_map, Option, Some, None}
use Rattle.std.specs.Prelude.{Result, Ok, option_map}
use Rattle.timers.specs.Pending.Waiting.{Waiting, oldest, polled, put}
use Rattle.rm_message.specs.declared.elements.header.AckBlock.{AckBlock}
use Rattle.rm_message.specs.declared.elements.lifecycle.Lifecycle.TheVariants as life
use Rattle.rm_message.specs.Actions.{make_connection}
use Rattle.rm_message.specs.declared.message.Body.{Body}
use Rattle.rm_message.specs.declared.message.Body.TheVariants as body
use Rattle.rm_message.specs.declared.message.Message.{Message}
use Rattle.rm_message.specs.declared.refusal.Refusal.{Refusal}
use Rattle.record_batch.specs.Fact.{Fact}
use Rattle.record_batch.specs.Sequences.Words.{Text}
use Rattle.record_batch.specs.Sequences.Idents.{polled_address}
use Rattle.record_batch.specs.Sequences.Makers.{number}
use Rattle.record_batch.specs.Sequences.Find.{plain_endpoint}
use Rattle.rm_protocol.specs.Addresses.{Place, Waits, is_anonymous, place_of}
use Rattle.rm_protocol.specs.Calls.{Answer, Outcome, Done, Fetched, adds}
use Rattle.rm_protocol.specs.Messages.{plain}
use Rattle.rm_protocol.specs.Said.{with_blocks}

-- a MakeConnection for the messages that wait at a peer for this node: section 3.2
abbrev pub make_message : List Fact → Text → Message
make_message r to =
    plain (plain_endpoint to) make_connection
    (body.Lifecycle (life.Make (record { address = Some (polled_address (number r)); other = false })))

-- poll: a MakeConnection, and no records
abbrev pub poll : List Fact → Text → Answer
poll r to = adds r [] (λ now. make_message now to ∷ [])

-- the address that a message asks for
abbrev pub selected_by : Body → Option Text
selected_by (body.Lifecycle (life.Make selection)) = selection.address
selected_by _ = None

-- what came, where it was taken, asks for an address or doesn't
abbrev pub selected : Outcome → Result Message Refusal → Option Text
selected Done (Ok m) = selected_by m.body
selected _ content = None

-- with MessagePending: section 3.3
abbrev pub with_pending : Message → Bool → Message
with_pending m more = record m { pending = Some more }

-- the oldest message that waits for an address, with MessagePending
abbrev pub awaited_at : Waiting Message → Text → Option Fetched
awaited_at waits at =
    option_map (λ (x : Message × Bool). record { address = at; message = with_pending x.0 x.1 }) (oldest waits at)

-- of the address that was asked for, if one was
abbrev pub awaited : Waiting Message → Option Text → Option Fetched
awaited waits None = None
awaited waits (Some at) = awaited_at waits at

-- the message is for the other end of the connection
abbrev pub goes_back : Message → Bool
goes_back m = is_anonymous m.addressing.to

-- the blocks of the messages that would go back on the connection
abbrev pub blocks_back : List Message → List AckBlock
blocks_back outs = flat_map (λ (m : Message). m.acks) (filter goes_back outs)

-- a message that waited has them behind its own
abbrev pub fetched_with : Option Fetched → List Message → Option Fetched
fetched_with None outs = None
fetched_with (Some t) outs =
    Some (record { address = t.address; message = with_blocks t.message (blocks_back outs) })

-- and is the reply in their place
abbrev pub said_beside : Option Fetched → List Message → List Message
said_beside None outs = outs
said_beside (Some t) outs = filter (λ (m : Message). not (goes_back m)) outs

-- the answer with such a message, where one was waited for
abbrev pub fetches : Option Fetched → Answer → Answer
fetches t answer = record answer { outs = said_beside t answer.outs; fetched = fetched_with t answer.outs }

-- the answer to what came, at a node where these messages wait
abbrev pub polls : Waiting Message → Result Message Refusal → Answer → Answer
polls waits content answer = fetches (awaited waits (selected answer.outcome content)) answer

-- those that are put, one after the other
abbrev pub puts_all : Waiting Message → List Message → Waiting Message
puts_all waits [] = waits
puts_all waits (m ∷ ms) = puts_all (put waits m.addressing.to m) ms

-- a message for this place waits until it is asked for
abbrev pub waits_there : Place → Bool
waits_there Waits = true
waits_there _ = false

-- of what is said, the messages that wait
abbrev pub waiting_of : List Message → List Message
waiting_of outs = filter (λ (m : Message). waits_there (place_of m.addressing.to)) outs

-- without what was fetched
abbrev pub without_fetched : Waiting Message → Option Fetched → Waiting Message
without_fetched waits None = waits
without_fetched waits (Some t) = polled waits t.address

-- the messages that wait after a call: what was fetched doesn't, and what was said to such addresses does
abbrev pub polled_after : Waiting Message → Answer → Waiting Message
polled_after waits answer = puts_all (without_fetched waits answer.fetched) (waiting_of answer.outs)
