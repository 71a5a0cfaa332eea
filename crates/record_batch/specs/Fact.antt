-- A record as contracts see it: without where it lies in memory and what is spare in it.
use Rattle.std.specs.Prelude.{ℕ, List, Option}
use Rattle.rm_sides.specs.declared.ranges.range.Range.{Range}
use Rattle.rm_base.specs.declared.message.Behaviour.{Behaviour}
use Rattle.rm_base.specs.declared.message.Cause.{Cause}
use Rattle.rm_base.specs.declared.message.Payload.{Payload}
use Rattle.rm_base.specs.declared.lapse.Lapse.{Lapse}
use Rattle.wsa_headers.specs.declared.endpoint.Epr.{Epr}
use Rattle.record_batch.specs.declared.record.OwnOffer.{OwnOffer}
use Rattle.record_batch.specs.declared.record.PeerOffer.{PeerOffer}
use Rattle.record_batch.specs.declared.record.Record.{Record}
use Rattle.record_batch.specs.declared.record.Record.TheVariants as written
use Rattle.record_batch.specs.declared.record.Via.{Via}

-- the seventeen kinds of records, with what each has
pub data Fact : Type 0 where
  Made : (node : ℕ) → (address : List ℕ) → Fact
  Creating : (ticket : ℕ) → (to : List ℕ) → (via : Via) → (lapse : Lapse) → (offer : Option OwnOffer) → Fact
  Created : (seq : ℕ) → (ident : List ℕ) → (accept : Option Epr) → Fact
  Granted : (counter : ℕ) → (message_id : List ℕ) → (acks_to : Epr) → (behaviour : Behaviour) → (deadline : Option ℕ)
      → (lapse : Lapse) → (offer : Option PeerOffer) → Fact
  Accepted : (seq : ℕ) → (payload : List ℕ) → Fact
  Acked : (seq : ℕ) → (ranges : List Range) → Fact
  Received : (seq : ℕ) → (number : ℕ) → (payload : Payload) → Fact
  Closing : (seq : ℕ) → (ticket : ℕ) → Fact
  ClosedOut : (seq : ℕ) → Fact
  Closed : (seq : ℕ) → (cause : Cause) → (last : ℕ) → Fact
  Ending : (seq : ℕ) → (ticket : ℕ) → Fact
  EndedOut : (seq : ℕ) → Fact
  Ended : (seq : ℕ) → (cause : Cause) → (last : ℕ) → Fact
  Failed : (seq : ℕ) → (fault : ℕ) → Fact
  Consumed : (seq : ℕ) → (upto : ℕ) → Fact
  Dropped : (seq : ℕ) → (upto : ℕ) → Fact
  Purged : (seq : ℕ) → (ranges : List Range) → Fact

-- what a record says
abbrev pub fact_of : Record → Fact
fact_of (written.Made node address) = Made node address
fact_of (written.Creating ticket to via lapse offer) = Creating ticket to via lapse offer
fact_of (written.Created seq ident accept) = Created seq ident accept
fact_of (written.Granted counter message_id acks_to behaviour deadline lapse offer) =
    Granted counter message_id acks_to behaviour deadline lapse offer
fact_of (written.Accepted seq payload) = Accepted seq payload
fact_of (written.Acked seq numbers) = Acked seq numbers.ranges
fact_of (written.Received seq number payload) = Received seq number payload
fact_of (written.Closing seq ticket) = Closing seq ticket
fact_of (written.ClosedOut seq) = ClosedOut seq
fact_of (written.Closed seq cause last) = Closed seq cause last
fact_of (written.Ending seq ticket) = Ending seq ticket
fact_of (written.EndedOut seq) = EndedOut seq
fact_of (written.Ended seq cause last) = Ended seq cause last
fact_of (written.Failed seq fault) = Failed seq fault
fact_of (written.Consumed seq upto) = Consumed seq upto
fact_of (written.Dropped seq upto) = Dropped seq upto
fact_of (written.Purged seq numbers) = Purged seq numbers.ranges
