-- Laws of what the records say of one sequence, each the contract of a function in src/laws.rt.
use Rattle.std.specs.Prelude.{◌≡◌, ℕ, ◌<◌, Bool, true, false, List, Some}
use Rattle.rm_sides.specs.Source.Outgoing.{Sending}
use Rattle.rm_sides.specs.declared.destination.outcome.InPhase.{InPhase}
use Rattle.rm_sides.specs.declared.destination.outcome.InPhase.TheVariants.{Open, Ended}
use Rattle.rm_sides.specs.Destination.Incoming.{Receiving, is_stopped as stopped_in, phase_of, inbox as inbox_in}
use Rattle.rm_sides.specs.Destination.Incoming.{discarded as discarded_in, held as held_in, items as items_in}
use Rattle.rm_sides.specs.Destination.Messages.{any_true as any_in, front_of}
use Rattle.record_batch.specs.Fact.{Fact}
use Rattle.record_batch.specs.Sequences.Makers.{address, number}
use Rattle.record_batch.specs.Sequences.Destinations.{cursor, discarded, front, has_end, held, inbox, is_ended, is_over}
use Rattle.record_batch.specs.Sequences.Destinations.{is_stopped}
use Rattle.record_batch.specs.Sequences.Told.{sending}
use Rattle.node_tables.specs.Reads.{address_in, incoming_in, outgoing_in}

-- a phase after the end
abbrev pub is_end : InPhase → Bool
is_end Ended = true
is_end _ = false

-- a phase after the close or the end
abbrev pub is_shut : InPhase → Bool
is_shut Open = false
is_shut _ = true

-- an incoming sequence, by its numbers, its front, what it releases, what was consumed and how far it is, is what the
-- records say of it
pub record IsAsRecorded (r : List Fact) (s : ℕ) (f : Receiving) : Type 0 where
  pub numbers : held_in f ≡ held r s
  pub front_ : front_of (items_in f) ≡ front r s
  pub inbox_ : inbox_in f ≡ inbox r s
  pub cursor_ : f.cursor ≡ cursor r s
  pub discarded_ : discarded_in f ≡ discarded r s
  pub stopped : stopped_in f.closes ≡ is_stopped r s
  pub end : any_in f.closes ≡ has_end r s
  pub over : (now : ℕ) → is_shut (phase_of f now) ≡ is_over r s now
  pub ended : (now : ℕ) → is_end (phase_of f now) ≡ is_ended r s now

-- each incoming sequence of the tables is what the records say of it
abbrev pub IncomingIsAsRecorded : Type 0
IncomingIsAsRecorded = (r : List Fact) (s : ℕ) (f : Receiving) → incoming_in r s ≡ Some f → IsAsRecorded r s f

-- each outgoing sequence of the tables is what the records say of it
abbrev pub OutgoingIsAsRecorded : Type 0
OutgoingIsAsRecorded = (r : List Fact) (s : ℕ) (t : Sending) → outgoing_in r s ≡ Some t → t ≡ sending r s

-- a node that has a number has an address
abbrev pub NumberedHasAddress : Type 0
NumberedHasAddress = (r : List Fact) → 0 < number r → address_in r ≡ Some (address r)
