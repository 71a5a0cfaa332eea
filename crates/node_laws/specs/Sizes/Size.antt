-- How many bytes records take, part by part.
use Rattle.std.specs.Prelude.{ℕ, ◌+◌, ◌*◌, min, false, List, length, Option, Some, None}
use Rattle.std.specs.List.{sum_by}
use Rattle.rm_base.specs.declared.message.Binding.{Binding}
use Rattle.rm_base.specs.declared.message.Payload.{Payload}
use Rattle.soap_document.specs.Profile.Tree.{Element}
use Rattle.soap_writer.specs.ElementText.{element_text}
use Rattle.wsa_headers.specs.declared.endpoint.Epr.{Epr}
use Rattle.record_batch.specs.declared.record.OwnOffer.{OwnOffer}
use Rattle.record_batch.specs.declared.record.PeerOffer.{PeerOffer}
use Rattle.record_batch.specs.Fact.{Fact, Made, Creating, Created, Granted, Accepted, Acked, Received, Closing}
use Rattle.record_batch.specs.Fact.{ClosedOut, Closed, Ending, EndedOut, Ended, Failed, Consumed, Dropped, Purged}

-- a count as a number of 64 bits tells it, which stands still at its greatest value
abbrev pub capped : ℕ → ℕ
capped n = min n 18446744073709551615

-- a parameter: the text of its element behind a length
abbrev pub param_size : Element → ℕ
param_size p = 4 + length (element_text false p)

-- an endpoint reference: its address and its parameters
abbrev pub endpoint_size : Epr → ℕ
endpoint_size e = 8 + length e.address + sum_by param_size e.params

-- an endpoint reference that may be absent
abbrev pub accept_size : Option Epr → ℕ
accept_size None = 1
accept_size (Some e) = 1 + endpoint_size e

-- a moment that may be absent
abbrev pub deadline_size : Option ℕ → ℕ
deadline_size None = 1
deadline_size (Some moment) = 9

-- an offer of the node's own that may be absent
abbrev pub own_offer_size : Option OwnOffer → ℕ
own_offer_size None = 1
own_offer_size (Some offer) = 10

-- an offer of the peer's that may be absent
abbrev pub peer_offer_size : Option PeerOffer → ℕ
peer_offer_size None = 1
peer_offer_size (Some offer) = 5 + length offer.ident + endpoint_size offer.endpoint

-- a binding of a prefix
abbrev pub binding_size : Binding → ℕ
binding_size b = 8 + length b.prefix + length b.space

-- what a message carried
abbrev pub payload_size : Payload → ℕ
payload_size p = 8 + length p.bytes + sum_by binding_size p.scope

-- a record
abbrev pub fact_size : Fact → ℕ
fact_size (Made node address) = 13 + length address
fact_size (Creating ticket to via lapse offer) = 30 + length to + own_offer_size offer
fact_size (Created seq ident accept) = 9 + length ident + accept_size accept
fact_size (Granted counter message_id acks_to behaviour deadline lapse offer) =
    30 + length message_id + endpoint_size acks_to + deadline_size deadline + peer_offer_size offer
fact_size (Accepted seq payload) = 9 + length payload
fact_size (Acked seq ranges) = 9 + 16 * length ranges
fact_size (Received seq number payload) = 13 + payload_size payload
fact_size (Closing seq ticket) = 13
fact_size (ClosedOut seq) = 5
fact_size (Closed seq cause last) = 14
fact_size (Ending seq ticket) = 13
fact_size (EndedOut seq) = 5
fact_size (Ended seq cause last) = 14
fact_size (Failed seq fault) = 6
fact_size (Consumed seq upto) = 13
fact_size (Dropped seq upto) = 13
fact_size (Purged seq ranges) = 9 + 16 * length ranges

-- a batch of records: how many there are, and each of them
abbrev pub batch_size : List Fact → ℕ
batch_size facts = 4 + sum_by fact_size facts
