-- What has a text, and what is read back.
use Rattle.std.specs.Prelude.{◌≡◌, ℕ, ◌<◌, ◌≤◌, ◌^◌, List, length, IfSome, false}
use Rattle.std.specs.List.{AllByRecursion}
use Rattle.rm_base.specs.Limits as limits
use Rattle.rm_sides.specs.Ranges.Ranges.{IsCanonical}
use Rattle.rm_sides.specs.declared.ranges.range.Range.{Range}
use Rattle.rm_base.specs.Text.{IsText}
use Rattle.rm_base.specs.declared.message.Binding.{Binding}
use Rattle.rm_base.specs.declared.message.Payload.{Payload}
use Rattle.rm_base.specs.declared.lapse.Lapse.{Lapse}
use Rattle.soap_document.specs.Profile.Document.{Document}
use Rattle.soap_document.specs.Profile.Tree.{Element, without_declarations}
use Rattle.soap_writer.specs.ElementText.{element_text}
use Rattle.wsa_headers.specs.declared.endpoint.Epr.{Epr}
use Rattle.record_batch.specs.declared.record.OwnOffer.{OwnOffer}
use Rattle.record_batch.specs.declared.record.PeerOffer.{PeerOffer}
use Rattle.record_batch.specs.Fact.{Fact, Made, Creating, Created, Granted, Accepted, Acked, Received, Closing}
use Rattle.record_batch.specs.Fact.{ClosedOut, Closed, Ending, EndedOut, Ended, Failed, Consumed, Dropped, Purged}
use Rattle.record_batch.specs.Format.{IsCounted}

-- ---- what has a text: lists and texts whose length has four bytes

-- such a list, or such a text
abbrev pub IsShort : {A : Type 0} → List A → Type 0
IsShort xs = length xs ≤ 4294967295

-- an element with such a text
abbrev pub IsShortParam : Element → Type 0
IsShortParam p = IsShort (element_text false p)

-- an endpoint reference with few parameters of such texts
pub record IsShortEndpoint (e : Epr) : Type 0 where
  pub few : IsShort e.params
  pub each : AllByRecursion IsShortParam e.params

-- an offer to such a one
abbrev pub IsShortOffer : PeerOffer → Type 0
IsShortOffer offer = IsShortEndpoint offer.endpoint

-- a binding of such texts
pub record IsShortBinding (b : Binding) : Type 0 where
  pub prefix : IsShort b.prefix
  pub space : IsShort b.space

-- what a message carried, with few bindings
pub record IsShortPayload (p : Payload) : Type 0 where
  pub bytes : IsShort p.bytes
  pub few : IsShort p.scope
  pub each : AllByRecursion IsShortBinding p.scope

-- a record of such lists and texts
abbrev pub IsShortFact : Fact → Type 0
IsShortFact (Created seq ident accept) = IfSome accept IsShortEndpoint
IsShortFact (Granted counter message_id acks_to behaviour deadline lapse offer) =
    IsShortEndpoint acks_to × IfSome offer IsShortOffer
IsShortFact (Accepted seq payload) = IsShort payload
IsShortFact (Acked seq ranges) = IsShort ranges
IsShortFact (Received seq number payload) = IsShortPayload payload
IsShortFact (Purged seq ranges) = IsShort ranges
IsShortFact _ = Unit {0}

-- a batch of such records, not too many
pub record IsShortBatch (facts : List Fact) : Type 0 where
  pub few : IsShort facts
  pub each : AllByRecursion IsShortFact facts

-- ---- what is read back: values that keep the rules of their types

-- a number of four bytes, and one of eight
abbrev pub IsNumber32 : ℕ → Type 0
IsNumber32 n = n < 2 ^ 32

-- a number of eight bytes
abbrev pub IsNumber64 : ℕ → Type 0
IsNumber64 n = n < 2 ^ 64

-- a text whose length has four bytes
abbrev pub IsTextWritable : List ℕ → Type 0
IsTextWritable t = length t < 2 ^ 32

-- a duration
abbrev pub IsLapseWritable : Lapse → Type 0
IsLapseWritable l = IsNumber64 l.months × IsNumber64 l.ms

-- an offer of the node's own
abbrev pub IsOwnOfferWritable : OwnOffer → Type 0
IsOwnOfferWritable o = IsNumber64 o.counter

-- canonical ranges, not too many
pub record AreRangesWritable (ranges : List Range) : Type 0 where
  pub few : length ranges < 2 ^ 32
  pub canonical : IsCanonical ranges

-- a binding
abbrev pub IsBindingWritable : Binding → Type 0
IsBindingWritable b = IsTextWritable b.prefix × IsTextWritable b.space

-- what a message carried
pub record IsPayloadWritable (p : Payload) : Type 0 where
  pub bytes : IsTextWritable p.bytes
  pub scope : IsCounted IsBindingWritable p.scope

-- an element whose text, no longer than a document may be, is one of which it is read back, without its declarations
pub record IsParamWritable (p : Element) : Type 0 where
  pub few : length (element_text false p) ≤ limits.envelope_bytes
  pub tree : Element
  pub document : Document (element_text false p) tree
  pub same : without_declarations tree ≡ p

-- an endpoint reference: its address has at most 2048 bytes
pub record IsEndpointWritable (e : Epr) : Type 0 where
  pub address : IsText 2048 e.address
  pub params : IsCounted IsParamWritable e.params

-- an offer of the peer's
abbrev pub IsPeerOfferWritable : PeerOffer → Type 0
IsPeerOfferWritable o = IsText 512 o.ident × IsEndpointWritable o.endpoint

-- a record
abbrev pub IsWritable : Fact → Type 0
IsWritable (Made node address) = IsNumber64 node × IsText 2048 address
IsWritable (Creating ticket to via lapse offer) =
    IsNumber64 ticket × IsText 2048 to × IsLapseWritable lapse × IfSome offer IsOwnOfferWritable
IsWritable (Created seq ident accept) = IsNumber32 seq × IsText 512 ident × IfSome accept IsEndpointWritable
IsWritable (Granted counter message_id acks_to behaviour deadline lapse offer) =
    IsNumber64 counter × IsText 2048 message_id × IsEndpointWritable acks_to × IfSome deadline IsNumber64
    × IsLapseWritable lapse × IfSome offer IsPeerOfferWritable
IsWritable (Accepted seq payload) = IsNumber32 seq × IsTextWritable payload
IsWritable (Acked seq ranges) = IsNumber32 seq × AreRangesWritable ranges
IsWritable (Received seq number payload) = IsNumber32 seq × IsNumber64 number × IsPayloadWritable payload
IsWritable (Closing seq ticket) = IsNumber32 seq × IsNumber64 ticket
IsWritable (ClosedOut seq) = IsNumber32 seq
IsWritable (Closed seq cause last) = IsNumber32 seq × IsNumber64 last
IsWritable (Ending seq ticket) = IsNumber32 seq × IsNumber64 ticket
IsWritable (EndedOut seq) = IsNumber32 seq
IsWritable (Ended seq cause last) = IsNumber32 seq × IsNumber64 last
IsWritable (Failed seq fault) = IsNumber32 seq × (fault < 256)
IsWritable (Consumed seq upto) = IsNumber32 seq × IsNumber64 upto
IsWritable (Dropped seq upto) = IsNumber32 seq × IsNumber64 upto
IsWritable (Purged seq ranges) = IsNumber32 seq × AreRangesWritable ranges

-- a batch of such records, at least one and not too many
pub record IsBatch (facts : List Fact) : Type 0 where
  pub some : 0 < length facts
  pub counted : IsCounted IsWritable facts
