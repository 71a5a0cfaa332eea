-- What a node relays: the first sequence that it receives on, and the first that it sends on.
use Rattle.std.specs.Prelude.{◌≡◌, ℕ, ◌+◌, ◌≤◌, List, [], Option, Some}
use Rattle.rm_sides.specs.Ranges.Ranges.{front_of}
use Rattle.rm_sides.specs.Ranges.Changes.{united}
use Rattle.rm_base.specs.declared.message.Payload.{Payload}
use Rattle.record_batch.specs.Fact.{Fact}
use Rattle.rm_sides.specs.Destination.Messages.{item_at}
use Rattle.record_batch.specs.Sequences.Destinations.{cursor, inbox}
use Rattle.record_batch.specs.Sequences.Find.{find_from}
use Rattle.record_batch.specs.Sequences.Fits.{is_incoming_side, is_outgoing_side}
use Rattle.record_batch.specs.Sequences.Makers.{Maker, makers}
use Rattle.record_batch.specs.Sequences.Sources.{accepted_count, acked}

-- the first incoming sequence
abbrev pub first_incoming : List Fact → Option ℕ
first_incoming r = find_from (λ (s : ℕ) (m : Maker). is_incoming_side (Some m)) 0 (makers r)

-- the first outgoing sequence
abbrev pub first_outgoing : List Fact → Option ℕ
first_outgoing r = find_from (λ (s : ℕ) (m : Maker). is_outgoing_side (Some m)) 0 (makers r)

-- these are the two
pub record AreEnds (r : List Fact) (into out : ℕ) : Type 0 where
  pub incoming : first_incoming r ≡ Some into
  pub outgoing : first_outgoing r ≡ Some out

-- the item behind those that the outgoing sequence accepted, where the inbox has it
abbrev pub next_item : List Fact → ℕ → ℕ → Option Payload
next_item r into out = item_at (inbox r into) (accepted_count r out + 1)

-- of the items that are to be forwarded none is consumed, and so none is gone
abbrev pub IsAhead : List Fact → ℕ → ℕ → Type 0
IsAhead r into out = cursor r into ≤ accepted_count r out

-- the greatest d such that the messages 1 to d are acknowledged at the outgoing sequence
abbrev pub acknowledged : List Fact → ℕ → ℕ
acknowledged r out = front_of (united [] (acked r out))

-- a node that has both
pub record MayForward (r : List Fact) : Type 0 where
  pub into : ℕ
  pub out : ℕ
  pub ends : AreEnds r into out
  pub ahead : IsAhead r into out
