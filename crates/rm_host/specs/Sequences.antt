-- What commands look for in the tables of a node.
use Rattle.std.specs.Prelude.{◌≡◌, ℕ, ◌+◌, ◌<◌, ◌≤◌, Bool, true, false, ◌&&◌, List, ◌∷◌, [], ◌++◌, Option, Some, None}
use Rattle.std.specs.Prelude.{length, take, drop, Result, Ok, Err, bytes_eq, codes, decimal, if◌then◌else◌, nat_lt}
use Rattle.rm_sides.specs.Ranges.Ranges.{in_ranges}
use Rattle.node_laws.specs.declared.answers.answer.Cause.TheVariants as cause
use Rattle.node_tables.specs.Peers.{Address, Peer, Reference, peer}
use Rattle.node_tables.specs.Reads.{incoming_in, outgoing_in}
use Rattle.record_batch.specs.Fact.{Fact}
use Rattle.rm_sides.specs.Destination.Incoming.{Receiving, inbox}
use Rattle.rm_sides.specs.Destination.Messages.{Item}
use Rattle.rm_sides.specs.Source.Outgoing.{Sending}
use Rattle.rm_sides.specs.declared.source.phase.OutPhase.{OutPhase}
use Rattle.rm_sides.specs.declared.source.phase.OutPhase.TheVariants as out
use Rattle.record_batch.specs.Sequences.Makers.{makers}
use Rattle.rm_host.specs.Texts.{item_line}
use Rattle.rm_host.specs.declared.end.End.{End}
use Rattle.rm_host.specs.declared.end.End.TheVariants.{Refused}

-- a sequence that sends is open
abbrev pub is_open_phase : OutPhase → Bool
is_open_phase out.Open = true
is_open_phase _ = false

-- it is open, or asked for
abbrev pub is_usable_phase : OutPhase → Bool
is_usable_phase out.Open = true
is_usable_phase out.Creating = true
is_usable_phase _ = false

-- a sequence sends, and is open
abbrev pub is_open : Option Sending → Bool
is_open None = false
is_open (Some sending) = is_open_phase sending.phase

-- it sends, and is open or asked for
abbrev pub is_usable : Option Sending → Bool
is_usable None = false
is_usable (Some sending) = is_usable_phase sending.phase

-- it sends, and this number of it is acknowledged
abbrev pub is_acked : Option Sending → ℕ → Bool
is_acked None number = false
is_acked (Some sending) number = in_ranges sending.acked number

-- messages to a peer go to an address
abbrev pub goes_to : Option Peer → List ℕ → Bool
goes_to None to = false
goes_to (Some (Address address)) to = bytes_eq address to
goes_to (Some (Reference endpoint)) to = bytes_eq endpoint.address to

-- messages to an address may go on a sequence
abbrev pub may_carry : List Fact → List ℕ → ℕ → Bool
may_carry records to seq = is_usable (outgoing_in records seq) && goes_to (peer records seq) to

-- the first sequence on which messages to an address may go, where there is one
abbrev pub IsFirstTo : List Fact → List ℕ → Option ℕ → Type 0
IsFirstTo records to None = (seq : ℕ) → 0 < seq → seq ≤ length (makers records) → may_carry records to seq ≡ false
IsFirstTo records to (Some first) =
    (may_carry records to first ≡ true) × ((seq : ℕ) → 0 < seq → seq < first → may_carry records to seq ≡ false)

-- the line of an item of an inbox with a number: there is none where the item is gone
abbrev pub there_line : ℕ → ℕ → Item → List ℕ
there_line seq number None = []
there_line seq number (Some payload) = item_line seq number payload.bytes

-- what is printed of items, numbered from n + 1 on
abbrev pub item_lines : ℕ → ℕ → List Item → List ℕ
item_lines seq n [] = []
item_lines seq n (item ∷ items) = there_line seq (n + 1) item ++ item_lines seq (n + 1) items

-- what inbox prints
abbrev pub inbox_lines : ℕ → List Item → List ℕ
inbox_lines seq items =
    item_lines seq 0 items ++ codes "inbox " ++ decimal seq ++ codes " " ++ decimal (length items) ++ codes "\n"

-- what inbox answers of a sequence, by its receiving side, where it has one
abbrev pub inbox_told : ℕ → Option Receiving → Result (List ℕ) End
inbox_told seq None = Err (Refused cause.WrongSide)
inbox_told seq (Some receiving) = Ok (inbox_lines seq (inbox receiving))

-- what inbox answers of a node with these records
abbrev pub inbox_answer : List Fact → ℕ → Result (List ℕ) End
inbox_answer records seq =
    if nat_lt (length (makers records)) seq then Err (Refused cause.NoSequence)
    else inbox_told seq (incoming_in records seq)

-- what is printed of the items of an inbox past one place, up to another
abbrev pub passed_lines : (seq from upto : ℕ) → List Item → List ℕ
passed_lines seq from upto items = item_lines seq from (drop from (take upto items))

-- what consume prints of a sequence before it records, by its receiving side, where it has one: the items past the
-- cursor
abbrev pub passed_told : (seq upto : ℕ) → Option Receiving → Result (List ℕ) End
passed_told seq upto None = Err (Refused cause.WrongSide)
passed_told seq upto (Some receiving) =
    if nat_lt (length (inbox receiving)) upto then Err (Refused (cause.PastInbox (length (inbox receiving))))
    else Ok (passed_lines seq receiving.cursor upto (inbox receiving))

-- what it prints of a node with these records
abbrev pub passed_answer : List Fact → (seq upto : ℕ) → Result (List ℕ) End
passed_answer records seq upto =
    if nat_lt (length (makers records)) seq then Err (Refused cause.NoSequence)
    else passed_told seq upto (incoming_in records seq)
