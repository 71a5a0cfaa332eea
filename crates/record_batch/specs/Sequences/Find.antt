-- Sequences by their identifiers and by the messages that they were made for, and whom a node speaks to on each.
use Rattle.std.specs.Prelude.{◌≡◌, ℕ, suc, ◌-◌, ◌&&◌, Bool, true, false, if◌then◌else◌, List, [], ◌∷◌, Option, Some}
use Rattle.std.specs.Prelude.{None, is_none}
use Rattle.std.specs.List.{flat_map}
use Rattle.std.specs.Str.{bytes_eq}
use Rattle.wsa_headers.specs.declared.endpoint.Epr.{Epr}
use Rattle.record_batch.specs.Fact.{Fact, Created}
use Rattle.rm_sides.specs.Destination.Messages.{is_empty}
use Rattle.record_batch.specs.Sequences.Words.{Text, at_seq, first_or}
use Rattle.record_batch.specs.Sequences.Idents.{issue}
use Rattle.record_batch.specs.Sequences.Makers.{Maker, Outgoing, Offered, Incoming, Taken, makers, maker, number}
use Rattle.record_batch.specs.Sequences.Makers.{created}
use Rattle.record_batch.specs.Sequences.Makers.{seq_in}
use Rattle.record_batch.specs.Sequences.Sources.{marks, out_ident}

-- of an incoming sequence: the number that its identifier was drawn with, and the message that it was made for
abbrev pub incoming_of : ℕ → Maker → Option (ℕ × Text)
incoming_of node (Incoming counter message_id acks_to behaviour deadline lapse) = Some (counter, message_id)
incoming_of node (Offered ticket counter to behaviour) = Some (counter, issue node ticket)
incoming_of node _ = None

-- outgoing sequence s has the identifier q
pub record IsOutgoing (r : List Fact) (s : ℕ) (q : Text) : Type 0 where
  pub is : out_ident r s ≡ Some q

-- incoming sequence s has the identifier q, and was made for this message
pub record IsIncoming (r : List Fact) (s : ℕ) (q message_id : Text) : Type 0 where
  pub counter : ℕ
  pub maker_ : Maker
  pub there : maker r s ≡ Some maker_
  pub made : incoming_of (number r) maker_ ≡ Some (counter, message_id)
  pub is : q ≡ issue (number r) counter

-- the first sequence of which a test holds, counted from k + 1
abbrev pub find_from : (ℕ → Maker → Bool) → ℕ → List Maker → Option ℕ
find_from f k [] = None
find_from f k (m ∷ ms) = if f (suc k) m then Some (suc k) else find_from f (suc k) ms

-- the node issued this identifier for the number of an incoming sequence
abbrev pub is_issued : ℕ → Text → Option (ℕ × Text) → Bool
is_issued node q None = false
is_issued node q (Some made) = bytes_eq (issue node made.0) q

-- a sequence that was made so is incoming, and has this identifier
abbrev pub is_incoming : ℕ → Text → ℕ → Maker → Bool
is_incoming node q s m = is_issued node q (incoming_of node m)

-- the incoming sequence with an identifier
abbrev pub find_incoming : List Fact → Text → Option ℕ
find_incoming r q = find_from (is_incoming (number r) q) 0 (makers r)

-- the outgoing sequence with an identifier
abbrev pub find_outgoing : List Fact → Text → Option ℕ
find_outgoing r q = seq_in (created r) q

-- a sequence that was made so was granted for this message
abbrev pub is_granted : Text → ℕ → Maker → Bool
is_granted t s (Incoming counter message_id acks_to behaviour deadline lapse) = bytes_eq message_id t
is_granted t s _ = false

-- the sequence that was granted for a CreateSequence with this MessageID
abbrev pub find_grant : List Fact → Text → Option ℕ
find_grant r t = find_from (is_granted t) 0 (makers r)

-- asked for with this message, and still in phase Creating
abbrev pub is_creating : List Fact → Text → ℕ → Maker → Bool
is_creating r t s (Outgoing ticket to via lapse) =
    bytes_eq (issue (number r) ticket) t && (is_none (out_ident r s) && is_empty (marks r s))
is_creating r t s _ = false

-- the sequence in phase Creating that a CreateSequence with this MessageID asked for
abbrev pub find_creating : List Fact → Text → Option ℕ
find_creating r t = find_from (is_creating r t) 0 (makers r)

-- an address without reference parameters
abbrev pub plain_endpoint : Text → Epr
plain_endpoint to = record { address = to; params = [] }

-- where messages go on a sequence that was made so
abbrev pub peer_of : Option Maker → Option Epr
peer_of (Some (Outgoing ticket to via lapse)) = Some (plain_endpoint to)
peer_of (Some (Taken message_id ident endpoint)) = Some endpoint
peer_of _ = None

-- where the messages of an outgoing sequence go: the To of its CreateSequence, or the Endpoint of the offer
abbrev pub peer : List Fact → ℕ → Option Epr
peer r s = peer_of (maker r s)

-- the AcksTo that a record gives to the offer of a sequence
abbrev pub accept_of : Fact → List (ℕ × Option Epr)
accept_of (Created seq ident accept) = (seq, accept) ∷ []
accept_of _ = []

-- the AcksTo of the Accept that came for an offer that went out with sequence s
abbrev pub accepted_by : List Fact → ℕ → Option Epr
accepted_by r s = first_or None (at_seq s (flat_map accept_of r))

-- where acknowledgements go for sequence s, which was made so
abbrev pub acks_to_of : List Fact → ℕ → Option Maker → Option Epr
acks_to_of r s (Some (Incoming counter message_id acks_to behaviour deadline lapse)) = Some acks_to
acks_to_of r s (Some (Offered ticket counter to behaviour)) = accepted_by r (s - 1)
acks_to_of r s _ = None

-- where the acknowledgements of an incoming sequence go, once that is known
abbrev pub acks_to : List Fact → ℕ → Option Epr
acks_to r s = acks_to_of r s (maker r s)

-- the sequence was offered
abbrev pub is_offered : Option Maker → Bool
is_offered (Some (Offered ticket counter to behaviour)) = true
is_offered _ = false

-- the sequence was taken from an offer
abbrev pub is_taken : Option Maker → Bool
is_taken (Some (Taken message_id ident endpoint)) = true
is_taken _ = false
