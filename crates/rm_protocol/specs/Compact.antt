-- A node writes the list of its entries anew: of its records, what they say in short.
use Rattle.std.specs.Prelude.{ℕ, ◌+◌, ◌-◌, ◌^◌, ◌&&◌, ◌||◌, min, nat_le, Bool, if◌then◌else◌, List, Some}
use Rattle.std.specs.List.{list_all}
use Rattle.rm_base.specs.Limits as limits
use Rattle.record_batch.specs.Fact.{Fact}
use Rattle.rm_protocol.specs.Calls.{Cause, StoreFull, Done, Refused}
use Rattle.rm_protocol.specs.Node.{Node, State, Up, Compacting, end_of, fresh_entries, node_end, is_short, burned}
use Rattle.rm_protocol.specs.Node.{CallOutcome, Answered, DiskFault, IsDown}
use Rattle.rm_protocol.specs.Terms.{Terms}

-- how many bytes the fresh list takes, with the gate behind it
abbrev pub list_size : Terms → Node → ℕ
list_size terms x = end_of terms 0 (fresh_entries x.entries) + 1

-- it fits between the head and the list that stands
abbrev pub fits_before : Terms → Node → Bool
fits_before terms x = nat_le (25 + list_size terms x) x.start

-- where it begins: before the list that stands, or behind it
abbrev pub fresh_start : Terms → Node → ℕ
fresh_start terms x = if fits_before terms x then 25 else node_end terms x + 1

-- none of these entries is longer than one may be
abbrev pub fit_as_entries : Terms → List (List Fact) → Bool
fit_as_entries terms entries = list_all (λ (batch : List Fact). nat_le (terms.size batch) limits.entry_bytes) entries

-- the list may be written anew: neither an entry nor the journal is longer than it may be
abbrev pub may_compact : Terms → Node → Bool
may_compact terms x = fit_as_entries terms (fresh_entries x.entries)
    && (fits_before terms x || nat_le (node_end terms x + 1 + list_size terms x) limits.journal_bytes)

-- why it is refused: the store is full. The bytes that are wanted are told in 64 bits
abbrev pub compact_cause : Terms → Node → Cause
compact_cause terms x = StoreFull (node_end terms x) (min (list_size terms x + 1) (2 ^ 64 - 1))

-- a node whose list was written anew: its records say in short what they said, and all else stays
abbrev pub with_list : Terms → Node → Node
with_list terms x =
    record x { entries = fresh_entries x.entries; start = fresh_start terms x; fuse = burned 5 x.fuse }

-- a node whose disk failed while it wrote the list anew
abbrev pub stops_compacting : Terms → Node → Node
stops_compacting terms x = record x { fuse = Some 0; state = Compacting (fresh_start terms x) }

-- a list that may be written anew takes five device calls, and where one of them fails the node is down
abbrev pub rewritten : Terms → Node → Node
rewritten terms x = if is_short 5 x.fuse then stops_compacting terms x else with_list terms x

-- a node after the call, by its state: a node that is down does nothing
abbrev pub compacted_by : Terms → Node → State → Node
compacted_by terms x Up = if may_compact terms x then rewritten terms x else x
compacted_by terms x _ = x

-- a node after the call
abbrev pub compacted : Terms → Node → Node
compacted terms x = compacted_by terms x x.state

-- how the call comes out, by the node's state
abbrev pub compact_outcome_by : Terms → Node → State → CallOutcome
compact_outcome_by terms x Up =
    if may_compact terms x then (if is_short 5 x.fuse then DiskFault else Answered Done)
    else Answered (Refused (compact_cause terms x))
compact_outcome_by terms x _ = IsDown

-- how the call comes out
abbrev pub compact_outcome : Terms → Node → CallOutcome
compact_outcome terms x = compact_outcome_by terms x x.state
