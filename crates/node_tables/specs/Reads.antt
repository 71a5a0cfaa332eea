-- What the records say of one sequence, as the tables answer it.
use Rattle.std.specs.Prelude.{ℕ, List, Option, None, Some, if◌then◌else◌, slice_get, slice_index_or, Bool, true, false}
use Rattle.std.specs.List.{flat_map}
use Rattle.std.specs.Str.{bytes_eq}
use Rattle.rm_sides.specs.declared.source.phase.OutPhase.{OutPhase}
use Rattle.rm_sides.specs.declared.source.phase.OutPhase.TheVariants as out
use Rattle.rm_sides.specs.Source.Outgoing.{Sending, unacked_of}
use Rattle.rm_sides.specs.Destination.Incoming.{Receiving}
use Rattle.record_batch.specs.Fact.{Fact}
use Rattle.record_batch.specs.Sequences.Words.{Text}
use Rattle.record_batch.specs.Sequences.Idents.{issue}
use Rattle.record_batch.specs.Sequences.Makers.{Maker, Outgoing, Offered, Incoming, Taken, addresses_of, maker}
use Rattle.record_batch.specs.Sequences.Makers.{makers_of}
use Rattle.record_batch.specs.Sequences.Sources.{is_sending, tickets}
use Rattle.record_batch.specs.Sequences.Told.{Side, Sends, Receives, first_ticket, last_onto, receiving, sending}
use Rattle.node_tables.specs.declared.maker.Maker.{Maker as Lent}
use Rattle.node_tables.specs.declared.maker.Maker.TheVariants as lent
use Rattle.node_tables.specs.Kept.{gives_ident, ident_given, no_maker}

-- how a sequence came to be, as its record has it
abbrev pub maker_seen : Lent → Maker
maker_seen (lent.Asked ticket to via lapse) = Outgoing ticket to.now via lapse
maker_seen (lent.Offered ticket counter to behaviour) = Offered ticket counter to.now behaviour
maker_seen (lent.Granted counter message_id acks_to behaviour deadline lapse) =
    Incoming counter message_id.now acks_to.now behaviour deadline lapse
maker_seen (lent.Taken message_id ident endpoint) = Taken message_id.now ident.now endpoint.now

-- the node's address, where the records give one
abbrev pub address_in : List Fact → Option Text
address_in r = slice_get (flat_map addresses_of r) 0

-- the identifier that a record gives to an outgoing sequence
abbrev pub ident_by : Fact → Option Text
ident_by f = if gives_ident f then Some (ident_given f) else None

-- a sequence that was made so was asked for with this message
abbrev pub is_asked : ℕ → Text → Maker → Bool
is_asked node t (Outgoing ticket to via lapse) = bytes_eq (issue node ticket) t
is_asked node t _ = false

-- a phase before the answer to a CreateSequence
abbrev pub is_asking : OutPhase → Bool
is_asking out.Creating = true
is_asking _ = false

-- a test of a sequence that is there
abbrev pub passes : (ℕ → Maker → Bool) → ℕ → Option Maker → Bool
passes f s None = false
passes f s (Some m) = f s m

-- what is known of sequence s, which was made so, where it sends
abbrev pub outgoing_of : List Fact → ℕ → Option Maker → Option Sending
outgoing_of r s (Some (Outgoing ticket to via lapse)) = Some (sending r s)
outgoing_of r s (Some (Taken message_id ident endpoint)) = Some (sending r s)
outgoing_of r s _ = None

-- what is known of an outgoing sequence
abbrev pub outgoing_in : List Fact → ℕ → Option Sending
outgoing_in r s = outgoing_of r s (maker r s)

-- what is known of sequence s, which was made so, where it receives
abbrev pub incoming_of : List Fact → ℕ → Option Maker → Option Receiving
incoming_of r s (Some (Incoming counter message_id acks_to behaviour deadline lapse)) =
    Some (receiving r s behaviour deadline)
incoming_of r s (Some (Offered ticket counter to behaviour)) = Some (receiving r s behaviour None)
incoming_of r s _ = None

-- what is known of an incoming sequence
abbrev pub incoming_in : List Fact → ℕ → Option Receiving
incoming_in r s = incoming_of r s (maker r s)

-- the ticket of the last request for sequence s, which was made so: CreateSequence, CloseSequence or TerminateSequence
abbrev pub ticket_of : List Fact → ℕ → Option Maker → Option ℕ
ticket_of r s None = None
ticket_of r s (Some m) = last_onto (first_ticket m) (tickets r s)

-- the ticket of the last request for a sequence
abbrev pub ticket_in : List Fact → ℕ → Option ℕ
ticket_in r s = ticket_of r s (maker r s)

-- how many messages of a sequence wait for an acknowledgement: those of one that is in phase Open or Closing
abbrev pub waiting : Side → ℕ
waiting (Sends t) = if is_sending t.phase then unacked_of t else 0
waiting (Receives t) = 0

-- the first or the second sequence of a record
abbrev pub maker_from : Fact → Bool → Maker
maker_from f second = slice_index_or (makers_of f) (if second then 1 else 0) no_maker
