-- Which records a message may bring: those of the receiving table alone.
use Rattle.std.specs.Prelude.{◌≡◌, ◌⊎◌, ℕ, [], Option, Some, IfSome, slice_get}
use Rattle.rm_sides.specs.Ranges.Changes.{united}
use Rattle.rm_base.specs.declared.message.Cause.TheVariants.{Peer, NotTaken}
use Rattle.rm_message.specs.declared.elements.header.AckBlock.{AckBlock}
use Rattle.rm_message.specs.declared.elements.lifecycle.CreateResponse.{CreateResponse}
use Rattle.rm_message.specs.declared.elements.lifecycle.CreateSequence.{CreateSequence}
use Rattle.rm_message.specs.declared.elements.lifecycle.Lifecycle.TheVariants as life
use Rattle.rm_message.specs.declared.elements.lifecycle.Offer.{Offer}
use Rattle.rm_message.specs.declared.message.Body.TheVariants as body
use Rattle.rm_message.specs.declared.message.Message.{Message}
use Rattle.record_batch.specs.declared.record.PeerOffer.{PeerOffer}
use Rattle.record_batch.specs.Fact.{Fact, Made, Creating, Created, Granted, Accepted, Acked, Received, Closing, Closed}
use Rattle.record_batch.specs.Fact.{Ending, Ended, Consumed, Dropped, Purged}
use Rattle.record_batch.specs.Sequences.Words.{Text}
use Rattle.rm_protocol.specs.Rows.{ranges_of}

-- the offer that was taken has the identifier of the one that was made
abbrev pub IsOffered : Option Offer → PeerOffer → Type 0
IsOffered offer taken = (made : Offer) × (offer ≡ Some made) × (taken.ident ≡ made.ident)

-- Received is the data of the message, Granted is for its CreateSequence and may take its Offer, Created has the
-- identifier of its CreateSequenceResponse, Acked has the numbers of one of its blocks; a
-- sequence is closed or ended by the peer, or ended because it wasn't taken; what a node does of its own comes never
abbrev pub Heard : Message → Fact → Type 0
Heard m (Received s i p) = (q : Text) × (m.sequence ≡ Some (record { ident = q; number = i }))
    × (m.body ≡ body.Payload p)
Heard m (Granted counter t acks_to behaviour deadline lapse offer) =
    (m.addressing.message_id ≡ Some t)
    × ((c : CreateSequence) × (m.body ≡ body.Lifecycle (life.Create c)) × IfSome offer (IsOffered c.offer))
Heard m (Created s q accept) =
    ((t : Text) × (m.addressing.relates ≡ Some t))
    × ((c : CreateResponse) × (m.body ≡ body.Lifecycle (life.CreateResponse c)) × (q ≡ c.ident))
Heard m (Acked s ranges) =
    (k : ℕ) × (block : AckBlock) × (slice_get m.acks k ≡ Some block) × (ranges ≡ united [] (ranges_of block.kind))
Heard m (Closed s cause last) = cause ≡ Peer
Heard m (Ended s cause last) = (cause ≡ Peer) ⊎ (cause ≡ NotTaken)
Heard m (Accepted s p) = ⊥
Heard m (Made n a) = ⊥
Heard m (Creating ticket to via lapse offer) = ⊥
Heard m (Closing s t) = ⊥
Heard m (Ending s t) = ⊥
Heard m (Consumed s k) = ⊥
Heard m (Dropped s ranges) = ⊥
Heard m (Purged s ranges) = ⊥
Heard m _ = Unit {0}
