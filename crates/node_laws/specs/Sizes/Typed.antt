-- What the types of a record's values keep, and which endpoint references it has.
use Rattle.std.specs.Prelude.{◌<◌, List, [], ◌∷◌, Option, Some, None, IfSome}
use Rattle.std.specs.List.{AllByRecursion}
use Rattle.rm_sides.specs.Ranges.Ranges.{IsCanonical}
use Rattle.rm_base.specs.Text.{IsText}
use Rattle.wsa_headers.specs.Writable.{IsEprWritable}
use Rattle.wsa_headers.specs.declared.endpoint.Epr.{Epr}
use Rattle.record_batch.specs.declared.record.PeerOffer.{PeerOffer}
use Rattle.record_batch.specs.Fact.{Fact, Made, Creating, Created, Granted, Accepted, Acked, Received, Closing}
use Rattle.record_batch.specs.Fact.{ClosedOut, Closed, Ending, EndedOut, Ended, Failed, Consumed, Dropped, Purged}
use Rattle.record_batch.specs.Writable.{IsNumber32, IsNumber64, IsLapseWritable, IsOwnOfferWritable}

-- the offer names its sequence by an identifier
abbrev pub IsPeerOfferTyped : PeerOffer → Type 0
IsPeerOfferTyped offer = IsText 512 offer.ident

-- numbers keep their widths, addresses and identifiers are texts, and acknowledged and purged numbers are canonical
-- ranges
abbrev pub IsTyped : Fact → Type 0
IsTyped (Made node address) = IsNumber64 node × IsText 2048 address
IsTyped (Creating ticket to via lapse offer) =
    IsNumber64 ticket × IsText 2048 to × IsLapseWritable lapse × IfSome offer IsOwnOfferWritable
IsTyped (Created seq ident accept) = IsNumber32 seq × IsText 512 ident
IsTyped (Granted counter message_id acks_to behaviour deadline lapse offer) =
    IsNumber64 counter × IsText 2048 message_id × IfSome deadline IsNumber64 × IsLapseWritable lapse
    × IfSome offer IsPeerOfferTyped
IsTyped (Accepted seq payload) = IsNumber32 seq
IsTyped (Acked seq ranges) = IsNumber32 seq × IsCanonical ranges
IsTyped (Received seq number payload) = IsNumber32 seq × IsNumber64 number
IsTyped (Closing seq ticket) = IsNumber32 seq × IsNumber64 ticket
IsTyped (ClosedOut seq) = IsNumber32 seq
IsTyped (Closed seq cause last) = IsNumber32 seq × IsNumber64 last
IsTyped (Ending seq ticket) = IsNumber32 seq × IsNumber64 ticket
IsTyped (EndedOut seq) = IsNumber32 seq
IsTyped (Ended seq cause last) = IsNumber32 seq × IsNumber64 last
IsTyped (Failed seq fault) = IsNumber32 seq × (fault < 256)
IsTyped (Consumed seq upto) = IsNumber32 seq × IsNumber64 upto
IsTyped (Dropped seq upto) = IsNumber32 seq × IsNumber64 upto
IsTyped (Purged seq ranges) = IsNumber32 seq × IsCanonical ranges

-- the endpoint reference of an offer
abbrev pub offered_to : Option PeerOffer → List Epr
offered_to None = []
offered_to (Some offer) = offer.endpoint ∷ []

-- an endpoint reference that may be absent
abbrev pub accepted_at : Option Epr → List Epr
accepted_at None = []
accepted_at (Some e) = e ∷ []

-- the endpoint references of a record
abbrev pub endpoints_of : Fact → List Epr
endpoints_of (Created seq ident accept) = accepted_at accept
endpoints_of (Granted counter message_id acks_to behaviour deadline lapse offer) = acks_to ∷ offered_to offer
endpoints_of _ = []

-- each of them may be written
abbrev pub AreKept : Fact → Type 0
AreKept f = AllByRecursion IsEprWritable (endpoints_of f)
