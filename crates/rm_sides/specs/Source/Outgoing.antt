-- The source's side of one sequence: WS-ReliableMessaging 1.2, sections 2.4, 3.7 and 3.9.
use Rattle.std.specs.Prelude.{ℕ, ◌+◌, ◌-◌, max, nat_le, nat_lt, if◌then◌else◌, List, [], ◌∷◌, ◌++◌, drop, length}
use Rattle.std.specs.Prelude.{Option, Some, None}
use Rattle.std.specs.Option.{option_or}
use Rattle.rm_base.specs.Limits as limits
use Rattle.rm_base.specs.Message.{max_number}
use Rattle.rm_base.specs.Numbered.{numbered}
use Rattle.rm_sides.specs.declared.ranges.range.Range.{Range}
use Rattle.rm_sides.specs.Ranges.Changes.{united}
use Rattle.rm_sides.specs.Ranges.Ranges.{count_of, front_of, greatest_of}
use Rattle.rm_sides.specs.declared.source.phase.OutPhase.{OutPhase}
use Rattle.rm_sides.specs.declared.source.phase.OutPhase.TheVariants.{Open}
use Rattle.rm_sides.specs.declared.source.error.SourceError.{SourceError}
use Rattle.rm_sides.specs.declared.source.error.SourceError.TheVariants.{NotOpen, WindowFull, Rollover, InvalidAck}

-- what is known: the phase, how many of the first messages are gone, the payloads that were accepted as the messages
-- behind these, and the acknowledged numbers
pub record Sending : Type 0 where
  pub phase : OutPhase
  pub dropped : ℕ
  pub accepted : List (List ℕ)
  pub acked : List Range

-- for how many more payloads, and for how many more ranges of acknowledged numbers, there is room
pub record Room : Type 0 where
  pub payloads : ℕ
  pub ranges : ℕ

-- a sequence: what is known of it, and the room for more
pub record Sequence : Type 0 where
  pub facts : Sending
  pub room : Room

-- room for nothing
abbrev pub no_room : Room
no_room = record { payloads = 0; ranges = 0 }

-- how many messages were accepted, with those that are gone
abbrev pub accepted_count : Sending → ℕ
accepted_count s = s.dropped + length s.accepted

-- the payload of a message, where it was accepted and isn't gone
abbrev pub payload_at : Sending → ℕ → Option (List ℕ)
payload_at s number = numbered s.accepted (number - s.dropped)

-- how many of the accepted messages are not acknowledged
abbrev pub unacked_of : Sending → ℕ
unacked_of s = accepted_count s - count_of s.acked

-- why no payload is accepted in this phase
abbrev pub phase_refusal : OutPhase → Option SourceError
phase_refusal Open = None
phase_refusal phase = Some (NotOpen phase)

-- why no payload is accepted after this many, of which so many are not acknowledged: the window of 1024 is full, or the
-- numbers up to 9223372036854775807 are used up
abbrev pub count_refusal : ℕ → ℕ → Option SourceError
count_refusal accepted unacked =
    if nat_le limits.window unacked then Some (WindowFull unacked)
    else if nat_le max_number accepted then Some Rollover
    else None

-- why the next payload is refused: the first reason that holds
abbrev pub accept_refusal : Sending → Option SourceError
accept_refusal s = option_or (phase_refusal s.phase) (count_refusal (accepted_count s) (unacked_of s))

-- why these numbers are refused: the greatest of them was never given to a payload
abbrev pub learn_refusal : Sending → List Range → Option SourceError
learn_refusal s given =
    if nat_lt (accepted_count s) (greatest_of given) then Some (InvalidAck (greatest_of given)) else None

-- one payload more, as the next number, which takes room for one
abbrev pub with_payload : Sequence → List ℕ → Sequence
with_payload o payload = record {
  facts = record o.facts { accepted = o.facts.accepted ++ payload ∷ [] };
  room = record o.room { payloads = o.room.payloads - 1 };
}

-- these numbers besides, which take room for their ranges
abbrev pub with_acked : Sequence → List Range → Sequence
with_acked o given = record {
  facts = record o.facts { acked = united o.facts.acked given };
  room = record o.room { ranges = o.room.ranges - length given };
}

-- the numbers 1 to n
abbrev pub first_run : ℕ → List Range
first_run n = record { lower = 1; upper = n } ∷ []

-- the messages 1 to n are acknowledged and gone
abbrev pub with_dropped : Sequence → ℕ → Sequence
with_dropped o n =
    record o { facts = record o.facts { dropped = n; acked = united o.facts.acked (first_run n) } }

-- the payloads of the messages 1 to n are gone too, for the greatest n such that these are acknowledged
abbrev pub settled : Sending → Sending
settled s = record s {
  dropped = max s.dropped (front_of s.acked);
  accepted = drop (front_of s.acked - s.dropped) s.accepted;
}
