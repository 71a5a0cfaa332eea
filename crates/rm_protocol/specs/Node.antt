-- A node on its disk: its entries, and what stands besides where it is down.
use Rattle.std.specs.Prelude.{ℕ, zero, ◌+◌, ◌-◌, max, nat_le, Bool, true, false, if◌then◌else◌, List, [], ◌∷◌, ◌++◌}
use Rattle.std.specs.Prelude.{map, Option, Some, None}
use Rattle.std.specs.List.{flat_map}
use Rattle.rm_base.specs.declared.message.Behaviour.{Behaviour}
use Rattle.rm_message.specs.declared.message.Message.{Message}
use Rattle.record_batch.specs.Fact.{Fact}
use Rattle.record_batch.specs.Snapshot.Snapshot.{snapshot}
use Rattle.timers.specs.Pending.Waiting.{Waiting, nothing_waits}
use Rattle.rm_protocol.specs.Calls.{Answer, Outcome, Fetched}
use Rattle.rm_protocol.specs.Polls.{polled_after}
use Rattle.rm_protocol.specs.Terms.{Terms}
use Rattle.rm_protocol.specs.Waiting.{mounted_waits, waits_after}
use Rattle.timers.specs.Keys.Waits.{Wait}

-- a node is up, or the call that failed was writing a batch, or the list of entries anew, at this place
pub data State : Type 0 where
  Up : State
  Writing : (delta : List Fact) → State
  Compacting : (start : ℕ) → State

-- entries: the batches on its disk. start: where the list of them begins there. whole: all records that it ever had.
-- fuse: the device calls up to the one that fails. granted: what it announces for sequences from now on. clock: the
-- moment that its calls are given. waits: the keys that wait to be emitted, in the order of the last move. time: the
-- greatest moment of a tick since it was mounted. polled: the messages that wait until they are asked for
pub record Node : Type 0 where
  pub entries : List (List Fact)
  pub start : ℕ
  pub whole : List Fact
  pub fuse : Option ℕ
  pub state : State
  pub granted : Behaviour
  pub clock : ℕ
  pub waits : List Wait
  pub time : ℕ
  pub polled : Waiting Message

-- the records of batches, one behind the other
abbrev pub records_in : List (List Fact) → List Fact
records_in entries = flat_map (λ (batch : List Fact). batch) entries

-- the records on a node's disk
abbrev pub records : Node → List Fact
records x = records_in x.entries

-- each record as a batch of its own
abbrev pub alone : List Fact → List (List Fact)
alone r = map (λ (f : Fact). f ∷ []) r

-- the entries of the list that is written anew: what its records say in short
abbrev pub fresh_entries : List (List Fact) → List (List Fact)
fresh_entries entries = alone (snapshot (records_in entries))

-- the place behind a list of entries that begins here: for each entry a gate, a length of 4 bytes and the text
abbrev pub end_of : Terms → ℕ → List (List Fact) → ℕ
end_of terms start [] = start
end_of terms start (batch ∷ entries) = 5 + terms.size batch + end_of terms start entries

-- the place behind a node's entries
abbrev pub node_end : Terms → Node → ℕ
node_end terms x = end_of terms x.start x.entries

-- so many device calls fail
abbrev pub is_short : ℕ → Option ℕ → Bool
is_short calls None = false
is_short calls (Some left) = nat_le left calls

-- a fuse after so many device calls
abbrev pub burned : ℕ → Option ℕ → Option ℕ
burned calls None = None
burned calls (Some left) = Some (left - calls)

-- a fuse that is armed anew: one that is spent stays so until a crash
abbrev pub armed : ℕ → Option ℕ → Option ℕ
armed calls (Some zero) = Some 0
armed calls fuse = Some calls

-- after a crash: whether what the call that failed was writing was kept is a free choice
abbrev pub entries_left : State → Bool → List (List Fact) → List (List Fact)
entries_left (Writing delta) true entries = entries ++ delta ∷ []
entries_left (Compacting start) true entries = fresh_entries entries
entries_left _ kept entries = entries

-- where the list begins, after a crash
abbrev pub start_left : State → Bool → ℕ → ℕ
start_left (Compacting start) true old = start
start_left _ kept old = old

-- all records that it ever had, after a crash
abbrev pub whole_left : State → Bool → List Fact → List Fact
whole_left (Writing delta) true whole = whole ++ delta
whole_left _ kept whole = whole

-- a node that crashed and was mounted again: all keys that wait are due at once, the time begins anew, and no message
-- waits
abbrev pub mounted : Node → Bool → Node
mounted x kept = record x {
  entries = entries_left x.state kept x.entries;
  start = start_left x.state kept x.start;
  whole = whole_left x.state kept x.whole;
  fuse = None;
  state = Up;
  waits = mounted_waits (records_in (entries_left x.state kept x.entries));
  time = 0;
  polled = nothing_waits;
}

-- a node whose batch was written
abbrev pub with_batch : Node → List Fact → Node
with_batch x delta = record x { entries = x.entries ++ delta ∷ []; whole = x.whole ++ delta; fuse = burned 4 x.fuse }

-- a node whose disk failed while it wrote a batch
abbrev pub goes_down : Node → List Fact → Node
goes_down x delta = record x { fuse = Some 0; state = Writing delta }

-- a node after a call: a batch takes four device calls, and where one of them fails the node is down; a node that is
-- down does nothing
abbrev pub written : Node → List Fact → Node
written x [] = x
written x (rec ∷ delta) = if is_short 4 x.fuse then goes_down x (rec ∷ delta) else with_batch x (rec ∷ delta)

-- a node whose keys moved with an answer
abbrev pub with_moves : Node → Answer → Node → Node
with_moves x answer y = record y {
  waits = waits_after (records x) answer.delta answer.moves (max x.time answer.moves.time) x.waits;
  time = max x.time answer.moves.time;
}

-- the messages that wait after a call: those from before where a device call failed
abbrev pub polled_with : Option ℕ → List Fact → Waiting Message → Waiting Message → Waiting Message
polled_with fuse [] old new = new
polled_with fuse (rec ∷ delta) old new = if is_short 4 fuse then old else new

-- a node with the messages that wait after an answer
abbrev pub with_polled : Node → Answer → Node → Node
with_polled x answer y =
    record y { polled = polled_with x.fuse answer.delta x.polled (polled_after x.polled answer) }

-- a node after a call, by its state; what waits at a node that goes down is told anew when it is mounted
abbrev pub after_by : Node → State → Answer → Node
after_by x Up answer = with_moves x answer (with_polled x answer (written x answer.delta))
after_by x _ answer = x

-- a node after a call
abbrev pub after : Node → Answer → Node
after x answer = after_by x x.state answer

-- what it says: nothing where a device call failed
abbrev pub said_with : Option ℕ → List Fact → List Message → List Message
said_with fuse [] outs = outs
said_with fuse (rec ∷ delta) outs = if is_short 4 fuse then [] else outs

-- what a node says after a call, by its state
abbrev pub said_by : Node → State → Answer → List Message
said_by x Up answer = said_with x.fuse answer.delta answer.outs
said_by x _ answer = []

-- the message that waited and was fetched
abbrev pub fetched_message : Option Fetched → List Message
fetched_message None = []
fetched_message (Some t) = t.message ∷ []

-- which goes back on the connection, by the node's state: nothing where a device call failed
abbrev pub fetched_by : Node → State → Answer → List Message
fetched_by x Up answer = said_with x.fuse answer.delta (fetched_message answer.fetched)
fetched_by x _ answer = []

-- what a node says after a call
abbrev pub said_after : Node → Answer → List Message
said_after x answer = said_by x x.state answer

-- the message that goes back on the connection, of those that waited
abbrev pub fetched_after : Node → Answer → List Message
fetched_after x answer = fetched_by x x.state answer

-- and how the call comes out
pub data CallOutcome : Type 0 where
  Answered : (outcome : Outcome) → CallOutcome
  DiskFault : CallOutcome
  IsDown : CallOutcome

-- where a device call failed, that is how it comes out
abbrev pub outcome_with : Option ℕ → List Fact → Outcome → CallOutcome
outcome_with fuse [] outcome = Answered outcome
outcome_with fuse (rec ∷ delta) outcome = if is_short 4 fuse then DiskFault else Answered outcome

-- how a call comes out, by the node's state
abbrev pub outcome_by : Node → State → Answer → CallOutcome
outcome_by x Up answer = outcome_with x.fuse answer.delta answer.outcome
outcome_by x _ answer = IsDown

-- how a call of a node comes out
abbrev pub call_outcome : Node → Answer → CallOutcome
call_outcome x answer = outcome_by x x.state answer
