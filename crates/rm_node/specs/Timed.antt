-- The keys that wait at a node are those that its records tell.
use Rattle.std.specs.Prelude.{◌≡◌, ◌≤◌, ℕ, ◌+◌, Bool, true, false, List, ◌++◌, length, Option, Some, None, is_some}
use Rattle.std.specs.Prelude.{IfSome}
use Rattle.std.specs.Option.{option_to_list}
use Rattle.rm_base.specs.Limits as limits
use Rattle.timers.specs.declared.slots.timers.Key.{Key}
use Rattle.timers.specs.declared.keys.cells.Cell.{Cell}
use Rattle.timers.specs.Keys.Keyed.{Keyed, StandsFor, slot_at}
use Rattle.timers.specs.Keys.Waits.{Wait}
use Rattle.record_batch.specs.Fact.{Fact}
use Rattle.record_batch.specs.Sequences.Makers.{Maker, Outgoing, Taken, maker, makers}
use Rattle.record_batch.specs.Sequences.Sources.{accepted_count}
use Rattle.rm_protocol.specs.Calls.{Answer}
use Rattle.rm_protocol.specs.Waiting.{begun_by, is_waiting, key}
use Rattle.node_laws.specs.Keeps.{LeavesANode}
use Rattle.node_laws.specs.Records.{IsKept}
use Rattle.node_laws.specs.Answers.Answers.{MayBeStored}
use Rattle.rm_node.specs.Asked.{Asked, Create, Send, Close, End}
use Rattle.rm_node.specs.Ends.{is_refused}
use Rattle.rm_node.specs.declared.kept.Kept.{Kept}

-- ---- what a node keeps

-- the key has a cell
abbrev pub has_cell : List Cell → Key → Bool
has_cell cells key = is_some (slot_at cells key)

-- the records are those of a node, the timers stand for a plain list, and exactly the keys that wait by the records
-- have a cell
pub record IsTimed (r : List Fact) (k : Keyed) : Type 0 where
  pub kept : IsKept r
  pub waits : List Wait
  pub stands : StandsFor k waits
  pub exact : (key : Key) → has_cell k.cells key ≡ is_waiting r key

-- what a node with these records keeps: its timers are those of its records
pub record IsKeptRight (r : List Fact) (k : Kept) : Type 0 where
  pub timed : IsTimed r k.timers

-- ---- the key that a call begins

-- with these records behind r this key begins to wait, or none does, and it waits by all of them
pub record Begins (r delta : List Fact) (begun : Option Key) : Type 0 where
  pub are : begun_by r delta ≡ option_to_list begun
  pub wait : IfSome begun (λ key. is_waiting (r ++ delta) key ≡ true)

-- a key, where the sequence that was made so is an outgoing one
abbrev pub of_outgoing : Option Maker → Key → Option Key
of_outgoing (Some (Outgoing ticket to via lapse)) k = Some k
of_outgoing (Some (Taken message_id ident endpoint)) k = Some k
of_outgoing _ k = None

-- the key that begins to wait with what is asked for, unless that is refused: the request of a sequence that is made,
-- closed or ended, and a message that is accepted
abbrev pub begun_with : List Fact → Asked → Option Key
begun_with r (Create wish) = Some (key (length (makers r) + 1) 0)
begun_with r (Send seq payload) = of_outgoing (maker r seq) (key seq (accepted_count r seq + 1))
begun_with r (Close seq) = of_outgoing (maker r seq) (key seq 0)
begun_with r (End seq) = of_outgoing (maker r seq) (key seq 0)
begun_with r _ = None

-- ---- what is written

-- An answer may be written behind r, in a journal that ends at this place: so may its records, which leave a node; this
-- key begins with them, where the answer is no refusal; and it tells a time that the timers take.
pub record MayBeWritten (r : List Fact) (end : ℕ) (answer : Answer) (begun : Option Key) : Type 0 where
  pub stored : MayBeStored r end answer.delta
  pub leaves : LeavesANode r answer
  pub begins : is_refused answer.outcome ≡ false → Begins r answer.delta begun
  pub time : answer.moves.time ≤ limits.now_max
