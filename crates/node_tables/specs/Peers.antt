-- Whom a sequence is with, and what it was asked for or granted with: WS-ReliableMessaging 1.2, section 3.4.
use Rattle.std.specs.Prelude.{ℕ, ◌+◌, ◌-◌, if◌then◌else◌, List, Option, None, Some}
use Rattle.std.specs.Option.{option_map}
use Rattle.wsa_headers.specs.declared.endpoint.Epr.{Epr}
use Rattle.record_batch.specs.Fact.{Fact}
use Rattle.record_batch.specs.Sequences.Find.{accepted_by, is_offered, is_taken}
use Rattle.record_batch.specs.Sequences.Makers.{Maker, Outgoing, Offered, Incoming, Taken, maker}
use Rattle.record_batch.specs.Sequences.Words.{Text}
use Rattle.node_tables.specs.declared.peer.Asked.{Asked}
use Rattle.node_tables.specs.declared.peer.Grant.{Grant}
use Rattle.node_tables.specs.declared.peer.Peer.{Peer as Lent}
use Rattle.node_tables.specs.declared.peer.Peer.TheVariants as lent

-- where messages to a peer go
pub data Peer : Type 0 where
  Address : Text → Peer
  Reference : Epr → Peer

-- the same, as the tables lend it
abbrev pub peer_seen : Lent → Peer
peer_seen (lent.Address to) = Address to.now
peer_seen (lent.Reference endpoint) = Reference endpoint.now

-- where messages to the peer of sequence s go, which was made so: of an offered sequence it is known once its offer was
-- accepted
abbrev pub peer_of : List Fact → ℕ → Option Maker → Option Peer
peer_of r s None = None
peer_of r s (Some (Outgoing ticket to via lapse)) = Some (Address to)
peer_of r s (Some (Offered ticket counter to behaviour)) = option_map Reference (accepted_by r (s - 1))
peer_of r s (Some (Incoming counter message_id acks_to behaviour deadline lapse)) = Some (Reference acks_to)
peer_of r s (Some (Taken message_id ident endpoint)) = Some (Reference endpoint)

-- where messages to the peer of a sequence go
abbrev pub peer : List Fact → ℕ → Option Peer
peer r s = peer_of r s (maker r s)

-- what sequence s was asked for with, which was made so; the sequence of an offer is the next one
abbrev pub asked_of : List Fact → ℕ → Option Maker → Option Asked
asked_of r s (Some (Outgoing ticket to via lapse)) = Some (record {
  via = via;
  lapse = lapse;
  offered = if is_offered (maker r (s + 1)) then Some (s + 1) else None;
})
asked_of r s _ = None

-- what an outgoing sequence was asked for with
abbrev pub asked : List Fact → ℕ → Option Asked
asked r s = asked_of r s (maker r s)

-- what sequence s was granted with, which was made so; the sequence of an offer that was taken is the next one
abbrev pub grant_of : List Fact → ℕ → Option Maker → Option Grant
grant_of r s (Some (Incoming counter message_id acks_to behaviour deadline lapse)) = Some (record {
  lapse = lapse;
  taken = if is_taken (maker r (s + 1)) then Some (s + 1) else None;
})
grant_of r s _ = None

-- what an incoming sequence was granted with
abbrev pub grant : List Fact → ℕ → Option Grant
grant r s = grant_of r s (maker r s)
