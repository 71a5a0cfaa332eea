-- The records of a node: those that it accepts when it is mounted, and what the types of their values give for nothing.
use Rattle.std.specs.Prelude.{◌≡◌, ℕ, ◌+◌, ◌^◌, ◌<◌, ◌≤◌, true, List, [], ◌∷◌, length, IfSome}
use Rattle.std.specs.List.{AllByRecursion}
use Rattle.rm_base.specs.Limits as limits
use Rattle.rm_sides.specs.Ranges.Ranges.{IsCanonical}
use Rattle.rm_base.specs.NumberSet.{has_number}
use Rattle.rm_base.specs.Text.{IsText}
use Rattle.rm_message.specs.Elements.Writable.{IsLapseWritable}
use Rattle.soap_document.specs.Profile.Payload.{IsClosedContent}
use Rattle.wsa_headers.specs.Writable.{IsEprWritable}
use Rattle.record_batch.specs.declared.record.PeerOffer.{PeerOffer}
use Rattle.record_batch.specs.Fact.{Fact, Made, Creating, Created, Granted, Accepted, Acked}
use Rattle.record_batch.specs.Sequences.Makers.{makers, maker}
use Rattle.record_batch.specs.Sequences.Sources.{unacked, all_unacked}
use Rattle.record_batch.specs.Sequences.Destinations.{held, front}
use Rattle.record_batch.specs.Sequences.Fits.{all_fit, is_outgoing_side, is_incoming_side}
use Rattle.rm_protocol.specs.Waiting.{waiting_keys}

-- ---- one record

-- an offer to an endpoint that may be written
abbrev pub IsOfferKept : PeerOffer → Type 0
IsOfferKept offer = IsEprWritable offer.endpoint

-- a duration keeps its limits, an endpoint may be written, and what was accepted is closed content
abbrev pub KeepsLimits : Fact → Type 0
KeepsLimits (Creating ticket to via lapse offer) = IsLapseWritable lapse
KeepsLimits (Created seq ident accept) = IfSome accept IsEprWritable
KeepsLimits (Granted counter message_id acks_to behaviour deadline lapse offer) =
    IsEprWritable acks_to × IsLapseWritable lapse × IfSome offer IsOfferKept
KeepsLimits (Accepted seq payload) = IsClosedContent payload
KeepsLimits _ = Unit {0}

-- an offer with an identifier
abbrev pub HasIdent : PeerOffer → Type 0
HasIdent offer = IsText 512 offer.ident

-- addresses, identifiers and sets of ranges are such by their types
abbrev pub HasValues : Fact → Type 0
HasValues (Made node address) = IsText 2048 address
HasValues (Creating ticket to via lapse offer) = IsText 2048 to
HasValues (Created seq ident accept) = IsText 512 ident
HasValues (Granted counter message_id acks_to behaviour deadline lapse offer) =
    IsText 2048 message_id × IfSome offer HasIdent
HasValues (Acked seq ranges) = IsCanonical ranges
HasValues _ = Unit {0}

-- ---- all records

-- the first record is Made
abbrev pub BeginsWithMade : List Fact → Type 0
BeginsWithMade (Made node address ∷ r) = Unit {0}
BeginsWithMade _ = ⊥

-- the records of a node: the first is Made, each may come after those before it and keeps its limits; there are at most
-- 256 sequences; at most 1024 messages of an outgoing sequence are not acknowledged, and at most 4096 of those that are
-- sent again; and no number of an incoming sequence is more than 1024 past its front
pub record IsNode (r : List Fact) : Type 0 where
  pub begins : BeginsWithMade r
  pub fit : all_fit [] r ≡ true
  pub each : AllByRecursion KeepsLimits r
  pub sequences : length (makers r) ≤ limits.most_sequences
  pub window : (s : ℕ) → is_outgoing_side (maker r s) ≡ true → unacked r s ≤ limits.window
  pub windows : all_unacked r ≤ limits.most_unacked
  pub near : (s n : ℕ) → is_incoming_side (maker r s) ≡ true → has_number (held r s) n ≡ true
      → n ≤ front r s + limits.window

-- the values of records are those of their types
abbrev pub AreValues : List Fact → Type 0
AreValues r = AllByRecursion HasValues r

-- the records of a node, of such values
pub record IsKept (r : List Fact) : Type 0 where
  pub node : IsNode r
  pub values : AreValues r

-- the record of a node that was just made is such
abbrev pub MadeIsKept : Type 0
MadeIsKept =
    (number : ℕ) (address : List ℕ) → 1 ≤ number → number < 2 ^ 60 → IsText 2048 address
    → IsKept (Made number address ∷ [])

-- at most so many keys wait at a node: its messages that are not acknowledged, and a request of each sequence
abbrev pub HasRoomForKeys : Type 0
HasRoomForKeys = (r : List Fact) → IsKept r → length (waiting_keys r) ≤ limits.most_keys
