-- The bytes of a batch of records: how many there are, and each of them, a byte that tells its kind and what it has.
-- Numbers stand with their highest byte first, a text behind its length of four bytes, and what may be absent behind a
-- byte that is 0 where it is.
use Rattle.std.specs.Prelude.{ℕ, ◌==◌, ◌&&◌, not, if◌then◌else◌, List, ◌∷◌, Option, Some, None}
use Rattle.rm_sides.specs.declared.ranges.range.Range.{Range}
use Rattle.rm_base.specs.declared.message.Behaviour.{Behaviour}
use Rattle.rm_base.specs.declared.message.Cause.{Cause}
use Rattle.rm_base.specs.declared.message.Payload.{Payload}
use Rattle.rm_base.specs.declared.lapse.Lapse.{Lapse}
use Rattle.soap_lex.specs.Tests.{is_nil}
use Rattle.soap_writer.specs.Values.Outcome.{◌>>=◌}
use Rattle.wsa_headers.specs.declared.endpoint.Epr.{Epr}
use Rattle.record_batch.specs.declared.record.OwnOffer.{OwnOffer}
use Rattle.record_batch.specs.declared.record.PeerOffer.{PeerOffer}
use Rattle.record_batch.specs.declared.record.Via.{Via}
use Rattle.record_batch.specs.Fact.{Fact, Made, Creating, Created, Granted, Accepted, Acked, Received, Closing}
use Rattle.record_batch.specs.Fact.{ClosedOut, Closed, Ending, EndedOut, Ended, Failed, Consumed, Dropped, Purged}
use Rattle.record_batch.specs.Format.{Format, first_byte, byte, number32, number64, text, ◌&◌, optional, counted}
use Rattle.record_batch.specs.Parts.{address, identifier, via, behaviour, cause, lapse, own_offer, ranges, payload}
use Rattle.record_batch.specs.Parts.{endpoint, peer_offer}

-- ---- what a record of each kind has

-- Made: the node's number, and its address
unfoldable pub made : Format (ℕ × List ℕ)
made = number64 & address

-- Creating: the ticket, whom it is asked of, how answers come back, for how long, and the offer
unfoldable pub creating : Format (ℕ × (List ℕ × (Via × (Lapse × Option OwnOffer))))
creating = number64 & address & via & lapse & optional own_offer

-- Created: the sequence, its identifier, and where the acknowledgements of an accepted offer's sequence go
unfoldable pub created : Format (ℕ × (List ℕ × Option Epr))
created = number32 & identifier & optional endpoint

-- Granted: the counter, the request's name, where acknowledgements go, the behaviour, the deadline, for how long, and
-- the offer that was taken
unfoldable pub granted : Format (ℕ × (List ℕ × (Epr × (Behaviour × (Option ℕ × (Lapse × Option PeerOffer))))))
granted = number64 & address & endpoint & behaviour & optional number64 & lapse & optional peer_offer

-- Accepted: the sequence, and the content of a message
unfoldable pub accepted : Format (ℕ × List ℕ)
accepted = number32 & text

-- Acked: the sequence, and the acknowledged numbers
unfoldable pub acked : Format (ℕ × List Range)
acked = number32 & ranges

-- Received: the sequence, the message's number, and what it carried
unfoldable pub received : Format (ℕ × (ℕ × Payload))
received = number32 & number64 & payload

-- Closing and Ending: the sequence, and the ticket
unfoldable pub ticketed : Format (ℕ × ℕ)
ticketed = number32 & number64

-- Closed and Ended: the sequence, why, and the last number, 0 where it is absent
unfoldable pub stopped : Format (ℕ × (Cause × ℕ))
stopped = number32 & cause & number64

-- Failed: the sequence, and the kind of the fault
unfoldable pub failed : Format (ℕ × ℕ)
failed = number32 & byte

-- Consumed and Dropped: the sequence, and the last of the items or messages that it speaks of
unfoldable pub reached : Format (ℕ × ℕ)
reached = number32 & number64

-- Purged: the sequence, and the numbers of the messages that are gone
unfoldable pub purged : Format (ℕ × List Range)
purged = number32 & ranges

-- ---- records

-- a record: its kind, and what it has
abbrev pub fact_text : Fact → List ℕ
fact_text (Made node address) = 1 ∷ made.written (node, address)
fact_text (Creating ticket to via lapse offer) = 2 ∷ creating.written (ticket, (to, (via, (lapse, offer))))
fact_text (Created seq ident accept) = 3 ∷ created.written (seq, (ident, accept))
fact_text (Granted counter message_id acks_to behaviour deadline lapse offer) =
    4 ∷ granted.written (counter, (message_id, (acks_to, (behaviour, (deadline, (lapse, offer))))))
fact_text (Accepted seq payload) = 5 ∷ accepted.written (seq, payload)
fact_text (Acked seq ranges) = 6 ∷ acked.written (seq, ranges)
fact_text (Received seq number payload) = 7 ∷ received.written (seq, (number, payload))
fact_text (Closing seq ticket) = 8 ∷ ticketed.written (seq, ticket)
fact_text (ClosedOut seq) = 9 ∷ number32.written seq
fact_text (Closed seq cause last) = 10 ∷ stopped.written (seq, (cause, last))
fact_text (Ending seq ticket) = 11 ∷ ticketed.written (seq, ticket)
fact_text (EndedOut seq) = 12 ∷ number32.written seq
fact_text (Ended seq cause last) = 13 ∷ stopped.written (seq, (cause, last))
fact_text (Failed seq fault) = 14 ∷ failed.written (seq, fault)
fact_text (Consumed seq upto) = 15 ∷ reached.written (seq, upto)
fact_text (Dropped seq upto) = 16 ∷ reached.written (seq, upto)
fact_text (Purged seq ranges) = 17 ∷ purged.written (seq, ranges)

-- what is read in a format, as a record
abbrev pub read_as : {A : Type 0} → (A → Fact) → Format A → List ℕ → Option (Fact × List ℕ)
read_as fact format bytes = format.read bytes >>= λ x. Some (fact x.0, x.1)

-- Creating, of what it has
abbrev pub creating_of : ℕ × (List ℕ × (Via × (Lapse × Option OwnOffer))) → Fact
creating_of (ticket, (to, (way, (span, offer)))) = Creating ticket to way span offer

-- Granted, of what it has
abbrev pub granted_of :
    ℕ × (List ℕ × (Epr × (Behaviour × (Option ℕ × (Lapse × Option PeerOffer))))) → Fact
granted_of (drawn, (id, (to, (b, (until, (span, offer)))))) = Granted drawn id to b until span offer

-- a record of a kind
unfoldable pub kind_at : ℕ → List ℕ → Option (Fact × List ℕ)
kind_at kind bytes =
    if kind == 1 then read_as (λ x. Made x.0 x.1) made bytes
    else if kind == 2 then read_as creating_of creating bytes
    else if kind == 3 then read_as (λ x. Created x.0 x.1.0 x.1.1) created bytes
    else if kind == 4 then read_as granted_of granted bytes
    else if kind == 5 then read_as (λ x. Accepted x.0 x.1) accepted bytes
    else if kind == 6 then read_as (λ x. Acked x.0 x.1) acked bytes
    else if kind == 7 then read_as (λ x. Received x.0 x.1.0 x.1.1) received bytes
    else if kind == 8 then read_as (λ x. Closing x.0 x.1) ticketed bytes
    else if kind == 9 then read_as (λ seq. ClosedOut seq) number32 bytes
    else if kind == 10 then read_as (λ x. Closed x.0 x.1.0 x.1.1) stopped bytes
    else if kind == 11 then read_as (λ x. Ending x.0 x.1) ticketed bytes
    else if kind == 12 then read_as (λ seq. EndedOut seq) number32 bytes
    else if kind == 13 then read_as (λ x. Ended x.0 x.1.0 x.1.1) stopped bytes
    else if kind == 14 then read_as (λ x. Failed x.0 x.1) failed bytes
    else if kind == 15 then read_as (λ x. Consumed x.0 x.1) reached bytes
    else if kind == 16 then read_as (λ x. Dropped x.0 x.1) reached bytes
    else if kind == 17 then read_as (λ x. Purged x.0 x.1) purged bytes else None

-- the record at the front of bytes
unfoldable pub fact_at : List ℕ → Option (Fact × List ℕ)
fact_at bytes = first_byte bytes >>= λ kind. kind_at kind.0 kind.1

-- records
abbrev pub fact : Format Fact
fact = record { written = fact_text; read = fact_at }

-- ---- batches

-- the bytes of a batch
abbrev pub batch_text : List Fact → List ℕ
batch_text facts = (counted fact).written facts

-- the records, where nothing stands behind them and there is at least one
abbrev pub all_of : List Fact × List ℕ → Option (List Fact)
all_of x = if is_nil x.1 && not (is_nil x.0) then Some x.0 else None

-- the batch that bytes are
unfoldable pub batch_at : List ℕ → Option (List Fact)
batch_at bytes = (counted fact).read bytes >>= all_of
