-- What the records say of one sequence, gathered on its side, and what one more record adds to it.
use Rattle.std.specs.Prelude.{ℕ, ◌+◌, ◌==◌, max, if◌then◌else◌, List, [], ◌∷◌, ◌++◌}
use Rattle.std.specs.Prelude.{Option, Some, None}
use Rattle.rm_sides.specs.Ranges.Changes.{united}
use Rattle.rm_base.specs.NumberSet.{greatest_of}
use Rattle.rm_base.specs.declared.message.Behaviour.{Behaviour}
use Rattle.rm_sides.specs.declared.source.phase.OutPhase.{OutPhase}
use Rattle.rm_sides.specs.declared.source.phase.OutPhase.TheVariants as out
use Rattle.rm_sides.specs.Source.Outgoing.{Sending}
use Rattle.rm_sides.specs.Destination.Incoming.{Receiving, fresh}
use Rattle.record_batch.specs.Fact.{Fact, Created, Accepted, Acked, Received, Closing, ClosedOut, Closed, Ending}
use Rattle.record_batch.specs.Fact.{EndedOut, Ended, Failed, Consumed, Dropped, Purged}
use Rattle.record_batch.specs.Sequences.Words.{at_seq, last_or}
use Rattle.record_batch.specs.Sequences.Makers.{Maker, Outgoing, Offered, Incoming, Taken, makers}
use Rattle.record_batch.specs.Sequences.Sources.{accepted, accepted_of, acked, acked_of, dropped, dropped_of, mark_of}
use Rattle.record_batch.specs.Sequences.Sources.{phase}
use Rattle.record_batch.specs.Sequences.Sources.{ticket_of, tickets}
use Rattle.record_batch.specs.Sequences.Destinations.{close_of, closes, cursor, cursor_of, purged, purged_of, received}
use Rattle.record_batch.specs.Sequences.Destinations.{received_of, told, told_of}

-- what is known of a sequence on its side: of one that sends, or of one that receives
pub data Side : Type 0 where
  Sends : (sending : Sending) → Side
  Receives : (receiving : Receiving) → Side

-- a sequence: the ticket of its last request, and what is known on its side
pub record Told : Type 0 where
  pub ticket : Option ℕ
  pub side : Side

-- the last item, or what stood before where there is none
abbrev pub last_onto : {A : Type 0} → Option A → List A → Option A
last_onto o [] = o
last_onto o (x ∷ xs) = last_onto (Some x) xs

-- the sequence that a record names, 0 where it names none
abbrev pub names : Fact → ℕ
names (Created seq ident accept) = seq
names (Accepted seq payload) = seq
names (Acked seq ranges) = seq
names (Received seq n payload) = seq
names (Closing seq ticket) = seq
names (ClosedOut seq) = seq
names (Closed seq cause last) = seq
names (Ending seq ticket) = seq
names (EndedOut seq) = seq
names (Ended seq cause last) = seq
names (Failed seq fault) = seq
names (Consumed seq upto) = seq
names (Dropped seq upto) = seq
names (Purged seq ranges) = seq
names _ = 0

-- what is known of sequence s where it sends
abbrev pub sending : List Fact → ℕ → Sending
sending r s = record {
  phase = phase r s;
  dropped = dropped r s;
  accepted = accepted r s;
  acked = united [] (acked r s);
}

-- what is known of sequence s where it receives, with what was announced for it
abbrev pub receiving : List Fact → ℕ → Behaviour → Option ℕ → Receiving
receiving r s behaviour deadline = record {
  behaviour = behaviour;
  deadline = deadline;
  purged = purged r s;
  received = received r s;
  cursor = cursor r s;
  closes = closes r s;
  told = told r s;
}

-- what is known of sequence s, which was made so, on its side
abbrev pub side_of : List Fact → ℕ → Maker → Side
side_of r s (Outgoing ticket to via lapse) = Sends (sending r s)
side_of r s (Taken message_id ident endpoint) = Sends (sending r s)
side_of r s (Incoming counter message_id acks_to behaviour deadline lapse) = Receives (receiving r s behaviour deadline)
side_of r s (Offered ticket counter to behaviour) = Receives (receiving r s behaviour None)

-- the ticket that a sequence which was made so began with
abbrev pub first_ticket : Maker → Option ℕ
first_ticket (Outgoing ticket to via lapse) = Some ticket
first_ticket _ = None

-- what the records say of sequence s, which was made so
abbrev pub told_by : List Fact → ℕ → Maker → Told
told_by r s m = record { ticket = last_onto (first_ticket m) (tickets r s); side = side_of r s m }

-- a sequence of a phase is open once it is given an identifier
abbrev pub opened_by : OutPhase → ℕ → Fact → OutPhase
opened_by p s (Created seq ident accept) = if seq == s then out.Open else p
opened_by p s _ = p

-- a sequence s that sends, after one more record
abbrev pub sending_after : ℕ → Sending → Fact → Sending
sending_after s t f = record {
  phase = last_or (opened_by t.phase s f) (at_seq s (mark_of f));
  dropped = last_or t.dropped (dropped_of s f);
  accepted = t.accepted ++ accepted_of s f;
  acked = united t.acked (acked_of s f);
}

-- a sequence s that receives, after one more record
abbrev pub receiving_after : ℕ → Receiving → Fact → Receiving
receiving_after s t f = record t {
  purged = t.purged ++ purged_of s f;
  received = t.received ++ received_of s f;
  cursor = max t.cursor (greatest_of (cursor_of s f));
  closes = t.closes ++ at_seq s (close_of f);
  told = t.told ++ at_seq s (told_of f);
}

-- on its side
abbrev pub side_after : ℕ → Side → Fact → Side
side_after s (Sends t) f = Sends (sending_after s t f)
side_after s (Receives t) f = Receives (receiving_after s t f)

-- sequence s, after one more record
abbrev pub after : ℕ → Told → Fact → Told
after s t f = record { ticket = last_onto t.ticket (at_seq s (ticket_of f)); side = side_after s t.side f }

-- what is known of a sequence that was just made so
abbrev pub begun : Maker → Told
begun (Outgoing ticket to via lapse) =
    record {
      ticket = Some ticket;
      side = Sends (record { phase = out.Creating; dropped = 0; accepted = []; acked = [] });
    }
begun (Taken message_id ident endpoint) =
    record { ticket = None; side = Sends (record { phase = out.Open; dropped = 0; accepted = []; acked = [] }) }
begun (Incoming counter message_id acks_to behaviour deadline lapse) = record {
  ticket = None;
  side = Receives (fresh behaviour deadline).facts;
}
begun (Offered ticket counter to behaviour) = record {
  ticket = None;
  side = Receives (fresh behaviour None).facts;
}

-- what the records say of sequences k + 1, k + 2, and so on, which were made so
abbrev pub told_from : List Fact → ℕ → List Maker → List Told
told_from r k [] = []
told_from r k (m ∷ ms) = told_by r (k + 1) m ∷ told_from r (k + 1) ms

-- what the records say of each sequence
abbrev pub told_all : List Fact → List Told
told_all r = told_from r 0 (makers r)

-- sequences k + 1, k + 2, and so on, after one more record
abbrev pub each_after : ℕ → List Told → Fact → List Told
each_after k [] f = []
each_after k (t ∷ ts) f = after (k + 1) t f ∷ each_after (k + 1) ts f
