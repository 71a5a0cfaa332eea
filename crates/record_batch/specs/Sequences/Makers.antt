-- What a list of records says of the node and of the sequences that it made. Each fact is gathered record by record.
use Rattle.std.specs.Prelude.{ℕ, ◌+◌, ◌==◌, if◌then◌else◌, List, [], ◌∷◌, ◌++◌, length, Option, Some, None}
use Rattle.std.specs.List.{flat_map}
use Rattle.std.specs.Str.{bytes_eq}
use Rattle.rm_base.specs.Numbered.{numbered}
use Rattle.rm_base.specs.declared.message.Behaviour.{Behaviour}
use Rattle.rm_base.specs.declared.lapse.Lapse.{Lapse}
use Rattle.wsa_headers.specs.declared.endpoint.Epr.{Epr}
use Rattle.record_batch.specs.declared.record.Via.{Via}
use Rattle.record_batch.specs.Fact.{Fact, Made, Creating, Created, Granted, Closing, Ending}
use Rattle.record_batch.specs.Sequences.Words.{Text, first_or}

-- how a sequence came to be: WS-ReliableMessaging 1.2, section 3.4. Outgoing: asked for with CreateSequence. Offered:
-- the incoming one of its Offer. Incoming: granted to a peer. Taken: the outgoing one of the peer's Offer
pub data Maker : Type 0 where
  Outgoing : (ticket : ℕ) → (to : Text) → (via : Via) → (lapse : Lapse) → Maker
  Offered : (ticket : ℕ) → (counter : ℕ) → (to : Text) → (behaviour : Behaviour) → Maker
  Incoming : (counter : ℕ) → (message_id : Text) → (acks_to : Epr) → (behaviour : Behaviour) → (deadline : Option ℕ)
      → (lapse : Lapse) → Maker
  Taken : (message_id : Text) → (ident : Text) → (endpoint : Epr) → Maker

-- the sequences that a record makes
abbrev pub makers_of : Fact → List Maker
makers_of (Creating ticket to via lapse None) = Outgoing ticket to via lapse ∷ []
makers_of (Creating ticket to via lapse (Some offer)) =
    Outgoing ticket to via lapse ∷ Offered ticket offer.counter to offer.behaviour ∷ []
makers_of (Granted counter message_id acks_to behaviour deadline lapse None) =
    Incoming counter message_id acks_to behaviour deadline lapse ∷ []
makers_of (Granted counter message_id acks_to behaviour deadline lapse (Some offer)) =
    Incoming counter message_id acks_to behaviour deadline lapse ∷ Taken message_id offer.ident offer.endpoint ∷ []
makers_of _ = []

-- the node's sequences, numbered from 1 on in the order of their records
abbrev pub makers : List Fact → List Maker
makers r = flat_map makers_of r

-- how sequence s came to be
abbrev pub maker : List Fact → ℕ → Option Maker
maker r s = numbered (makers r) s

-- the numbers that a record draws, in order
abbrev pub draws_of : Fact → List ℕ
draws_of (Creating ticket to via lapse None) = ticket ∷ []
draws_of (Creating ticket to via lapse (Some offer)) = ticket ∷ offer.counter ∷ []
draws_of (Granted counter message_id acks_to behaviour deadline lapse offer) = counter ∷ []
draws_of (Closing seq ticket) = ticket ∷ []
draws_of (Ending seq ticket) = ticket ∷ []
draws_of _ = []

-- how many numbers were drawn: each record draws the next ones from 1 on
abbrev pub counter : List Fact → ℕ
counter r = length (flat_map draws_of r)

-- the node's number that a record gives
abbrev pub nodes_of : Fact → List ℕ
nodes_of (Made node address) = node ∷ []
nodes_of _ = []

-- the node's number, and 0 before it has one
abbrev pub number : List Fact → ℕ
number r = first_or 0 (flat_map nodes_of r)

-- the node's address that a record gives
abbrev pub addresses_of : Fact → List Text
addresses_of (Made node address) = address ∷ []
addresses_of _ = []

-- the node's address
abbrev pub address : List Fact → Text
address r = first_or [] (flat_map addresses_of r)

-- the identifiers that a record gives to outgoing sequences, after k sequences were made
abbrev pub created_of : ℕ → Fact → List (ℕ × Text)
created_of k (Created seq ident accept) = (seq, ident) ∷ []
created_of k (Granted counter message_id acks_to behaviour deadline lapse (Some offer)) = (k + 2, offer.ident) ∷ []
created_of k _ = []

-- the identifiers that records give to outgoing sequences, after k sequences were made
abbrev pub created_from : ℕ → List Fact → List (ℕ × Text)
created_from k [] = []
created_from k (rec ∷ r) = created_of k rec ++ created_from (k + length (makers_of rec)) r

-- the outgoing sequences that have an identifier
abbrev pub created : List Fact → List (ℕ × Text)
created r = created_from 0 r

-- the identifier of a sequence
abbrev pub ident_in : List (ℕ × Text) → ℕ → Option Text
ident_in [] s = None
ident_in (c ∷ cs) s = if c.0 == s then Some c.1 else ident_in cs s

-- the first sequence with an identifier
abbrev pub seq_in : List (ℕ × Text) → Text → Option ℕ
seq_in [] q = None
seq_in (c ∷ cs) q = if bytes_eq c.1 q then Some c.0 else seq_in cs q
