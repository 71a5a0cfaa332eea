-- What a node keeps besides its records, and what becomes of it.
use Rattle.std.specs.Prelude.{◌≡◌, ℕ, max, Bool, true, false, List}
use Rattle.rm_base.specs.declared.message.Behaviour.{Behaviour}
use Rattle.rm_base.specs.declared.message.Behaviour.TheVariants.{FollowingFirstGap}
use Rattle.timers.specs.Keys.Keyed.{StandsFor}
use Rattle.timers.specs.Keys.Waits.{Wait}
use Rattle.record_batch.specs.Fact.{Fact}
use Rattle.timers.specs.Pending.Waiting.{Waiting, nothing_waits}
use Rattle.rm_message.specs.declared.message.Message.{Message}
use Rattle.rm_protocol.specs.Calls.{Answer}
use Rattle.rm_protocol.specs.Polls.{polled_after}
use Rattle.rm_protocol.specs.Waiting.{mounted_waits, waits_after}
use Rattle.rm_node.specs.declared.kept.Kept.{Kept}

-- what a node of the protocol keeps besides its records: what it announces for the sequences that it grants from now
-- on, the keys that wait to be emitted, in the order of the last move, the greatest moment of a tick, and the messages
-- that wait until they are asked for
pub record Keeping : Type 0 where
  pub granted : Behaviour
  pub waits : List Wait
  pub time : ℕ
  pub polled : Waiting Message

-- the code's node keeps it: its timers stand for the keys that wait. Which slot a key has is told to nobody
pub record Keeps (k : Kept) (kept : Keeping) : Type 0 where
  pub granted : k.granted ≡ kept.granted
  pub waits : StandsFor k.timers kept.waits
  pub time : k.timers.time ≡ kept.time
  pub polled : k.polled.waits ≡ kept.polled

-- it keeps something of that kind
abbrev pub IsKeeping : Kept → Type 0
IsKeeping k = (kept : Keeping) × Keeps k kept

-- what is kept at a node with these records that was made or mounted just now: it announces that what follows the first
-- gap is dropped, each key that waits by its records is due at once, the time is 0, and no message waits
abbrev pub first_kept : List Fact → Keeping
first_kept r = record {
  granted = FollowingFirstGap;
  waits = mounted_waits r;
  time = 0;
  polled = nothing_waits;
}

-- what is kept after a call with this answer, whose records were written behind r: the keys have moved, the time is at
-- least the answer's, what was fetched doesn't wait any more, and what is said to addresses that nobody can reach does
abbrev pub kept_after : List Fact → Answer → Keeping → Keeping
kept_after r answer kept = record kept {
  waits = waits_after r answer.delta answer.moves (max kept.time answer.moves.time) kept.waits;
  time = max kept.time answer.moves.time;
  polled = polled_after kept.polled answer;
}

-- what the code's node keeps then, where all went well or not: else nothing has changed
abbrev pub IsKeptAfter : List Fact → Answer → (ok : Bool) → (old new : Kept) → Type 0
IsKeptAfter r answer true old new = (kept : Keeping) → Keeps old kept → Keeps new (kept_after r answer kept)
IsKeptAfter r answer false old new = new ≡ old
