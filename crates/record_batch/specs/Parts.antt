-- The formats of what records hold.
use Rattle.std.specs.Prelude.{ℕ, zero, suc, ◌+◌, ◌&&◌, nat_lt, nat_le, Bool, true, if◌then◌else◌, List, [], ◌∷◌}
use Rattle.std.specs.Prelude.{length, Option, Some, None, false}
use Rattle.std.specs.Str.{bytes_eq}
use Rattle.rm_base.specs.Limits as limits
use Rattle.rm_sides.specs.declared.ranges.range.Range.{Range}
use Rattle.rm_base.specs.Message.{max_number}
use Rattle.rm_base.specs.declared.message.Behaviour.{Behaviour}
use Rattle.rm_base.specs.declared.message.Behaviour.TheVariants.{NoDiscard, EntireSequence, FollowingFirstGap}
use Rattle.rm_base.specs.declared.message.Binding.{Binding}
use Rattle.rm_base.specs.declared.message.Cause.{Cause}
use Rattle.rm_base.specs.declared.message.Cause.TheVariants.{Peer, Operator, Expired, NotTaken}
use Rattle.rm_base.specs.declared.message.Payload.{Payload}
use Rattle.rm_base.specs.declared.lapse.Lapse.{Lapse}
use Rattle.soap_document.specs.Machine.{run, start, root_of}
use Rattle.soap_document.specs.Profile.Namespaces.{resolve}
use Rattle.soap_document.specs.Profile.Tree.{Element, without_declarations}
use Rattle.soap_writer.specs.Values.Outcome.{◌>>=◌}
use Rattle.soap_writer.specs.Values.Values.{text_within}
use Rattle.soap_writer.specs.ElementText.{element_text}
use Rattle.wsa_headers.specs.declared.endpoint.Epr.{Epr}
use Rattle.record_batch.specs.declared.record.OwnOffer.{OwnOffer}
use Rattle.record_batch.specs.declared.record.PeerOffer.{PeerOffer}
use Rattle.record_batch.specs.declared.record.Via.{Via}
use Rattle.record_batch.specs.declared.record.Via.TheVariants.{Direct, Polled, Back}
use Rattle.record_batch.specs.Format.{Format, byte, number64, text, ◌&◌, written_as, counted}

-- ---- texts that keep a rule

-- an address or the name of a message: WS-Addressing 1.0 Core, sections 2.1 and 3.1
abbrev pub address : Format (List ℕ)
address = written_as (λ uri. uri) (text_within 2048) text

-- an identifier of a sequence: WS-ReliableMessaging 1.2, section 3.4
abbrev pub identifier : Format (List ℕ)
identifier = written_as (λ ident. ident) (text_within 512) text

-- ---- words, counted from 0

-- the number of each
abbrev pub via_number : Via → ℕ
via_number Direct = 0
via_number Polled = 1
via_number Back = 2

-- and back
abbrev pub via_of : ℕ → Option Via
via_of zero = Some Direct
via_of (suc zero) = Some Polled
via_of (suc (suc zero)) = Some Back
via_of (suc (suc (suc n))) = None

-- how answers come back
abbrev pub via : Format Via
via = written_as via_number via_of byte

-- the number of each
abbrev pub behaviour_number : Behaviour → ℕ
behaviour_number NoDiscard = 0
behaviour_number EntireSequence = 1
behaviour_number FollowingFirstGap = 2

-- and back
abbrev pub behaviour_of : ℕ → Option Behaviour
behaviour_of zero = Some NoDiscard
behaviour_of (suc zero) = Some EntireSequence
behaviour_of (suc (suc zero)) = Some FollowingFirstGap
behaviour_of (suc (suc (suc n))) = None

-- IncompleteSequenceBehavior: WS-ReliableMessaging 1.2, section 3.4
abbrev pub behaviour : Format Behaviour
behaviour = written_as behaviour_number behaviour_of byte

-- the number of each
abbrev pub cause_number : Cause → ℕ
cause_number Peer = 0
cause_number Operator = 1
cause_number Expired = 2
cause_number NotTaken = 3

-- and back
abbrev pub cause_of : ℕ → Option Cause
cause_of zero = Some Peer
cause_of (suc zero) = Some Operator
cause_of (suc (suc zero)) = Some Expired
cause_of (suc (suc (suc zero))) = Some NotTaken
cause_of (suc (suc (suc (suc n)))) = None

-- why a sequence was closed or ended
abbrev pub cause : Format Cause
cause = written_as cause_number cause_of byte

-- ---- values of several parts

-- of these two parts
abbrev pub lapse_of : ℕ × ℕ → Option Lapse
lapse_of x = Some (record { months = x.0; ms = x.1 })

-- a duration: its months, and its milliseconds
abbrev pub lapse : Format Lapse
lapse = written_as (λ l. (l.months, l.ms)) lapse_of (number64 & number64)

-- of these two parts
abbrev pub own_offer_of : ℕ × Behaviour → Option OwnOffer
own_offer_of x = Some (record { counter = x.0; behaviour = x.1 })

-- an offer of the node's own
abbrev pub own_offer : Format OwnOffer
own_offer = written_as (λ o. (o.counter, o.behaviour)) own_offer_of (number64 & behaviour)

-- of these two ends
abbrev pub range_of : ℕ × ℕ → Option Range
range_of x = Some (record { lower = x.0; upper = x.1 })

-- a range of message numbers
abbrev pub range : Format Range
range = written_as (λ r. (r.lower, r.upper)) range_of (number64 & number64)

-- a range that begins at first or later, has a number, and ends at the greatest message number at the latest
abbrev pub is_from : ℕ → Range → Bool
is_from first r = nat_le first r.lower && nat_le r.lower r.upper && nat_le r.upper max_number

-- such ranges, with a missing number between each two of them; the test of RisesFrom
abbrev pub rise_from : ℕ → List Range → Bool
rise_from first [] = true
rise_from first (r ∷ rs) = is_from first r && rise_from (r.upper + 2) rs

-- ranges that are canonical
abbrev pub canonical : List Range → Option (List Range)
canonical ranges = if rise_from 1 ranges then Some ranges else None

-- canonical ranges of message numbers: WS-ReliableMessaging 1.2, section 3.9
abbrev pub ranges : Format (List Range)
ranges = written_as (λ rs. rs) canonical (counted range)

-- of these two texts
abbrev pub binding_of : List ℕ × List ℕ → Option Binding
binding_of x = Some (record { prefix = x.0; space = x.1 })

-- a prefix and its namespace
abbrev pub binding : Format Binding
binding = written_as (λ b. (b.prefix, b.space)) binding_of (text & text)

-- of these two parts
abbrev pub payload_of : List ℕ × List Binding → Option Payload
payload_of x = Some (record { bytes = x.0; scope = x.1 })

-- the content of a Body, and the bindings that are in force there
unfoldable pub payload : Format Payload
payload = written_as (λ p. (p.bytes, p.scope)) payload_of (text & counted binding)

-- ---- endpoint references: WS-Addressing 1.0 Core, section 2

-- the tree of a document, where the bytes are one, no longer than it may be
unfoldable pub tree_of : List ℕ → Option Element
tree_of bytes =
    if nat_lt limits.envelope_bytes (length bytes) then None else (root_of (run start bytes) >>= λ raw. resolve [] raw)

-- the element that bytes are the text of: what is read of them, without its declarations, is written as these bytes
unfoldable pub param_of : List ℕ → Option Element
param_of bytes =
    tree_of bytes >>= λ tree.
    if bytes_eq (element_text false (without_declarations tree)) bytes then Some (without_declarations tree) else None

-- a reference parameter: the text of an element
abbrev pub param : Format Element
param = written_as (element_text false) param_of text

-- of these two parts
abbrev pub endpoint_of : List ℕ × List Element → Option Epr
endpoint_of x = Some (record { address = x.0; params = x.1 })

-- an endpoint reference: its address, and its parameters
unfoldable pub endpoint : Format Epr
endpoint = written_as (λ e. (e.address, e.params)) endpoint_of (address & counted param)

-- of these two parts
abbrev pub peer_offer_of : List ℕ × Epr → Option PeerOffer
peer_offer_of x = Some (record { ident = x.0; endpoint = x.1 })

-- an offer of the peer's
abbrev pub peer_offer : Format PeerOffer
peer_offer = written_as (λ o. (o.ident, o.endpoint)) peer_offer_of (identifier & endpoint)
