-- A CreateSequence with what it offers: WS-ReliableMessaging 1.2, section 3.4.
use Rattle.std.specs.Prelude.{ℕ, ◌<◌, ◌^◌, List, codes, Option, Some, None}
use Rattle.rm_base.specs.declared.lapse.Lapse.{Lapse}
use Rattle.rm_message.specs.declared.elements.lifecycle.Lifecycle.TheVariants as life
use Rattle.rm_message.specs.declared.elements.lifecycle.Offer.{Offer}
use Rattle.rm_message.specs.declared.message.Message.{Message}
use Rattle.record_batch.specs.declared.record.OwnOffer.{OwnOffer}
use Rattle.record_batch.specs.declared.record.Via.{Via}
use Rattle.record_batch.specs.Fact.{Fact}
use Rattle.record_batch.specs.Sequences.Find.{plain_endpoint}
use Rattle.record_batch.specs.Sequences.Idents.{issue}
use Rattle.record_batch.specs.Sequences.Makers.{number}
use Rattle.record_batch.specs.Sequences.Words.{Text}
use Rattle.rm_protocol.specs.Addresses.{own_address}
use Rattle.rm_protocol.specs.Messages.{never, request_of}

-- the number that the offer's identifier is drawn with has 62 bits
abbrev pub IsSmall : OwnOffer → Type 0
IsSmall own = own.counter < 2 ^ 62

-- the offer of a sequence of the node's own: its identifier, the address for its messages, and no Expires
abbrev pub offer_with : List Fact → Via → Option OwnOffer → Option Offer
offer_with r via None = None
offer_with r via (Some own) = Some (record {
  ident = issue (number r) own.counter;
  endpoint = plain_endpoint (own_address r via);
  expires = never;
  behaviour = own.behaviour;
})

-- the request for a sequence, with that offer
abbrev pub create_with : List Fact → Text → Via → ℕ → Lapse → Option OwnOffer → Message
create_with r to via ticket lapse own =
    request_of r (plain_endpoint to) via ticket (codes "CreateSequence") (life.Create (record {
      acks_to = plain_endpoint (own_address r via);
      expires = lapse;
      offer = offer_with r via own;
    }))
