-- Actions and addresses: WS-Addressing 1.0 Core, section 2.1, WS-MakeConnection 1.1, section 3.1, and
-- WS-ReliableMessaging 1.2, section 3.
use Rattle.std.specs.Prelude.{◌&&◌, nat_lt, Bool, if◌then◌else◌, List, length, take, codes, Option, Some, None}
use Rattle.std.specs.Str.{bytes_eq}
use Rattle.wsa_headers.specs.Addressing.{anonymous as anonymous_uri}
use Rattle.wsa_headers.specs.declared.addressing.Addressing.{Addressing}
use Rattle.wsa_headers.specs.declared.endpoint.Epr.{Epr}
use Rattle.rm_message.specs.Actions.{action_of}
use Rattle.record_batch.specs.declared.record.Via.{Via}
use Rattle.record_batch.specs.declared.record.Via.TheVariants.{Direct, Polled, Back}
use Rattle.record_batch.specs.Fact.{Fact}
use Rattle.record_batch.specs.Sequences.Words.{Text}
use Rattle.record_batch.specs.Sequences.Idents.{polled_address, polled_prefix}
use Rattle.record_batch.specs.Sequences.Makers.{number, address}
use Rattle.record_batch.specs.Sequences.Find.{plain_endpoint}

-- the action of a message of the protocol, by the name of its element
unfoldable pub rm_action : Text → Text
rm_action name = action_of name

-- the action of a message of the application
unfoldable pub payload_action : Text
payload_action = codes "urn:wsrm:payload"

-- the address of whoever is at the other end of the connection
unfoldable pub anonymous : Text
anonymous = anonymous_uri

-- the address of nobody
unfoldable pub no_address : Text
no_address = codes "http://www.w3.org/2005/08/addressing/none"

-- an address is the first of these
abbrev pub is_anonymous : Text → Bool
is_anonymous to = bytes_eq to anonymous

-- it is the second
abbrev pub is_nowhere : Text → Bool
is_nowhere to = bytes_eq to no_address

-- it begins so, and has more
abbrev pub is_polled : Text → Bool
is_polled to = bytes_eq (take (length polled_prefix) to) polled_prefix && nat_lt (length polled_prefix) (length to)

-- where a message for an address goes: back on the connection on which its request came, nowhere, into the list of
-- those that wait at the node until they are asked for, or out
pub data Place : Type 0 where
  BackOn : Place
  Nowhere : Place
  Waits : Place
  Out : Place

-- where a message for this address goes
abbrev pub place_of : Text → Place
place_of to = if is_anonymous to then BackOn else if is_nowhere to then Nowhere else if is_polled to then Waits else Out

-- the address that a node gives for answers
abbrev pub own_address : List Fact → Via → Text
own_address r Direct = address r
own_address r Polled = polled_address (number r)
own_address r Back = anonymous

-- what it gives as ReplyTo: none where answers come back on the connection
abbrev pub reply_to : List Fact → Via → Option Epr
reply_to r Back = None
reply_to r via = Some (plain_endpoint (own_address r via))

-- where a response goes: WS-Addressing 1.0 Core, section 3.4
abbrev pub reply_endpoint_by : Option Epr → Epr
reply_endpoint_by (Some endpoint) = endpoint
reply_endpoint_by None = plain_endpoint anonymous

-- where the response to a message with these headers goes
abbrev pub reply_endpoint : Addressing → Epr
reply_endpoint a = reply_endpoint_by a.reply_to

-- where a fault goes
abbrev pub fault_endpoint_by : Option Epr → Option Epr → Epr
fault_endpoint_by (Some endpoint) reply = endpoint
fault_endpoint_by None reply = reply_endpoint_by reply

-- where the fault that answers a message with these headers goes
abbrev pub fault_endpoint : Addressing → Epr
fault_endpoint a = fault_endpoint_by a.fault_to a.reply_to
