-- Header blocks, durations and body elements of WS-ReliableMessaging 1.2 that are read back as they were written.
use Rattle.std.specs.Prelude.{◌≡◌, ◌≢◌, ◌≤◌, ℕ, [], Bool, false, IfSome}
use Rattle.std.specs.List.{AllByRecursion}
use Rattle.rm_base.specs.Message.{max_number}
use Rattle.rm_base.specs.Text.{IsText}
use Rattle.wsa_headers.specs.Writable.{IsEprWritable}
use Rattle.rm_sides.specs.declared.ranges.range.Range.{Range}
use Rattle.rm_message.specs.Elements.Duration.{most_months, most_ms}
use Rattle.rm_message.specs.declared.elements.header.AckBlock.{AckBlock}
use Rattle.rm_message.specs.declared.elements.header.AckKind.{AckKind}
use Rattle.rm_message.specs.declared.elements.header.AckKind.TheVariants.{Ranges, Nothing, Nack}
use Rattle.rm_message.specs.declared.elements.header.Header.{Header}
use Rattle.rm_message.specs.declared.elements.header.Header.TheVariants as headers
use Rattle.rm_message.specs.declared.elements.header.SeqHeader.{SeqHeader}
use Rattle.rm_base.specs.declared.lapse.Lapse.{Lapse}
use Rattle.rm_message.specs.declared.elements.lifecycle.CreateResponse.{CreateResponse}
use Rattle.rm_message.specs.declared.elements.lifecycle.CreateSequence.{CreateSequence}
use Rattle.rm_message.specs.declared.elements.lifecycle.Finish.{Finish}
use Rattle.rm_message.specs.declared.elements.lifecycle.Lifecycle.{Lifecycle}
use Rattle.rm_message.specs.declared.elements.lifecycle.Lifecycle.TheVariants as bodies
use Rattle.rm_message.specs.declared.elements.lifecycle.Offer.{Offer}

-- a message number (3.7)
pub record IsNumber (n : ℕ) : Type 0 where
  pub low : 1 ≤ n
  pub high : n ≤ max_number

-- a range of them
pub record IsRange (x : Range) : Type 0 where
  pub lower : IsNumber x.lower
  pub rises : x.lower ≤ x.upper
  pub upper : IsNumber x.upper

-- an identifier, and a number of a message
pub record IsSequenceWritable (x : SeqHeader) : Type 0 where
  pub ident : IsText 512 x.ident
  pub number : IsNumber x.number

-- ranges, at least one; or none; or numbers that are missing, at least one, and not final (3.9)
abbrev pub IsKindWritable : AckKind → Bool → Type 0
IsKindWritable (Ranges ranges) last = (ranges ≢ []) × AllByRecursion IsRange ranges
IsKindWritable Nothing last = Unit {0}
IsKindWritable (Nack numbers) last = (numbers ≢ []) × AllByRecursion IsNumber numbers × (last ≡ false)

-- an acknowledgement of these
pub record IsAckWritable (x : AckBlock) : Type 0 where
  pub ident : IsText 512 x.ident
  pub kind : IsKindWritable x.kind x.last

-- a header block of these
abbrev pub IsHeaderWritable : Header → Type 0
IsHeaderWritable (headers.Sequence x) = IsSequenceWritable x
IsHeaderWritable (headers.Ack x) = IsAckWritable x
IsHeaderWritable (headers.Ask ident) = IsText 512 ident
IsHeaderWritable (headers.Pending pending) = Unit {0}

-- ---- body elements

-- a duration of at most so many months and milliseconds
pub record IsLapseWritable (x : Lapse) : Type 0 where
  pub months : x.months ≤ most_months
  pub ms : x.ms ≤ most_ms

-- an identifier, an endpoint and a duration (3.4)
pub record IsOfferWritable (x : Offer) : Type 0 where
  pub ident : IsText 512 x.ident
  pub endpoint : IsEprWritable x.endpoint
  pub expires : IsLapseWritable x.expires

-- an endpoint for acknowledgements, a duration, and an offer, if there is one (3.4)
pub record IsCreateWritable (x : CreateSequence) : Type 0 where
  pub acks_to : IsEprWritable x.acks_to
  pub expires : IsLapseWritable x.expires
  pub offer : IfSome x.offer IsOfferWritable

-- an identifier, a duration, and an endpoint for acknowledgements, if there is one (3.4)
pub record IsResponseWritable (x : CreateResponse) : Type 0 where
  pub ident : IsText 512 x.ident
  pub expires : IsLapseWritable x.expires
  pub accept : IfSome x.accept IsEprWritable

-- an identifier and the number of the last message, if there is one (3.5, 3.6)
pub record IsFinishWritable (x : Finish) : Type 0 where
  pub ident : IsText 512 x.ident
  pub last_number : IfSome x.last_number IsNumber

-- a body element of these; the address of a MakeConnection is a text (WS-MakeConnection 1.1, 3.2)
abbrev pub IsLifecycleWritable : Lifecycle → Type 0
IsLifecycleWritable (bodies.Create x) = IsCreateWritable x
IsLifecycleWritable (bodies.CreateResponse x) = IsResponseWritable x
IsLifecycleWritable (bodies.Close x) = IsFinishWritable x
IsLifecycleWritable (bodies.CloseResponse ident) = IsText 512 ident
IsLifecycleWritable (bodies.Terminate x) = IsFinishWritable x
IsLifecycleWritable (bodies.TerminateResponse ident) = IsText 512 ident
IsLifecycleWritable (bodies.Make x) = IfSome x.address (IsText 2048)
