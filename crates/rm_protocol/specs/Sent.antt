-- The lines of a report, and what they say a source was given to send.
use Rattle.std.specs.Prelude.{◌≡◌, ◌⊎◌, ℕ, ◌+◌, ◌==◌, ◌&&◌, Bool, true, false, if◌then◌else◌, List, [], ◌∷◌, ◌++◌}
use Rattle.std.specs.Prelude.{length, Option, Some, None, Err}
use Rattle.rm_base.specs.Numbered.{numbered}
use Rattle.record_batch.specs.Fact.{Fact}
use Rattle.record_batch.specs.Snapshot.Snapshot.{snapshot}
use Rattle.record_batch.specs.Sequences.Words.{Text}
use Rattle.rm_protocol.specs.Calls.{Done, create, send, close, end, tick, ask_ack, nack_missing, consume}
use Rattle.rm_protocol.specs.Compact.{compact_outcome}
use Rattle.rm_protocol.specs.Node.{Node, State, Up, Writing, Compacting, records, node_end, CallOutcome, Answered}
use Rattle.rm_protocol.specs.Node.{DiskFault, call_outcome}
use Rattle.rm_protocol.specs.Polls.{poll}
use Rattle.rm_protocol.specs.Terms.{Terms}
use Rattle.rm_protocol.specs.Word.{history}
use Rattle.rm_protocol.specs.World.{World, Packet, Side, One, Two, other, node, Event, Create, Send, Tick, Deliver}
use Rattle.rm_protocol.specs.World.{Close, End, Ask, Nack, Crash, Noise, Poll, Compact, Consume, place, wish_of}
use Rattle.rm_protocol.specs.World.{received_by, happens, run, start}

-- how a line comes out: as its call, or without one
pub data LineOutcome : Type 0 where
  Called : (outcome : CallOutcome) → LineOutcome
  NoPacket : LineOutcome
  NoCall : LineOutcome

-- where a packet arrives, as the call at its node
abbrev pub arrival_outcome : Terms → World → Option Packet → LineOutcome
arrival_outcome terms w None = NoPacket
arrival_outcome terms w (Some p) =
    Called (call_outcome (node w (other p.from)) (received_by terms (node w (other p.from)) (terms.read p.message)))

-- how an event comes out in a world
abbrev pub outcome_of : Terms → World → Event → LineOutcome
outcome_of terms w (Create side via expires offer) = Called (call_outcome (node w side)
    (create terms (records (node w side)) (node_end terms (node w side)) (wish_of w side via expires offer)))
outcome_of terms w (Send side seq text) =
    Called (call_outcome (node w side)
    (send terms (records (node w side)) (node_end terms (node w side)) seq text))
outcome_of terms w (Tick side now) =
    Called (call_outcome (node w side) (tick terms (records (node w side)) (node_end terms (node w side)) now
    (node w side).time (node w side).waits))
outcome_of terms w (Deliver k) = arrival_outcome terms w (numbered w.packets k)
outcome_of terms w (Close side seq) = Called (call_outcome (node w side)
    (close terms (records (node w side)) (node_end terms (node w side)) seq (node w side).clock))
outcome_of terms w (End side seq) =
    Called (call_outcome (node w side) (end terms (records (node w side)) (node_end terms (node w side)) seq))
outcome_of terms w (Ask side seq) = Called (call_outcome (node w side) (ask_ack (records (node w side)) seq))
outcome_of terms w (Nack side seq) =
    Called (call_outcome (node w side) (nack_missing (records (node w side)) seq (node w side).clock))
outcome_of terms w (Noise side refusal) =
    Called (call_outcome (node w side) (received_by terms (node w side) (Err refusal)))
outcome_of terms w (Poll side) =
    Called (call_outcome (node w side) (poll (records (node w side)) (place w (other side))))
outcome_of terms w (Compact side) = Called (compact_outcome terms (node w side))
outcome_of terms w (Consume side seq upto) = Called (call_outcome (node w side)
    (consume terms (records (node w side)) (node_end terms (node w side)) seq upto))
outcome_of terms w _ = NoCall

-- a line of the report: the event, how it came out, and how many entries each node has then
pub record Line : Type 0 where
  pub event : Event
  pub outcome : LineOutcome
  pub one : ℕ
  pub two : ℕ

-- the line of an event
abbrev pub line_of : Terms → World → Event → Line
line_of terms w event = record {
  event = event;
  outcome = outcome_of terms w event;
  one = length (happens terms w event).one.entries;
  two = length (happens terms w event).two.entries;
}

-- the lines of a report
abbrev pub lines : Terms → List Event → World → List Line
lines terms [] w = []
lines terms (event ∷ events) w = line_of terms w event ∷ lines terms events (happens terms w event)

-- the entries that a line prints for a node
abbrev pub printed : Side → Line → ℕ
printed One l = l.one
printed Two l = l.two

-- the two sides are one
abbrev pub same_side : Side → Side → Bool
same_side One One = true
same_side Two Two = true
same_side _ _ = false

-- the event is a crash of the node
abbrev pub is_crash : Side → Event → Bool
is_crash side (Crash at kept) = same_side at side
is_crash side _ = false

-- what the next crash of the node prints; where none follows, what the image has
abbrev pub next_entries : Side → ℕ → List Line → ℕ
next_entries side final [] = final
next_entries side final (l ∷ ls) = if is_crash side l.event then printed side l else next_entries side final ls

-- a send counts where it was done, or where the disk failed and the next crash prints one entry more
abbrev pub counts_call : CallOutcome → ℕ → ℕ → Bool
counts_call (Answered Done) now next = true
counts_call DiskFault now next = next == now + 1
counts_call _ now next = false

-- a line without a call counts for nothing
abbrev pub counts : LineOutcome → ℕ → ℕ → Bool
counts (Called outcome) now next = counts_call outcome now next
counts _ now next = false

-- the text of a send on the sequence, where it counts
abbrev pub sent_by : Side → ℕ → Event → Bool → List Text
sent_by side seq (Send at s text) counted = if same_side at side && (s == seq) && counted then text ∷ [] else []
sent_by side seq _ counted = []

-- the texts that the report says were sent on the sequence, for an image with so many entries
abbrev pub sent_in : Side → ℕ → ℕ → List Line → List Text
sent_in side seq final [] = []
sent_in side seq final (l ∷ ls) =
    sent_by side seq l.event (counts l.outcome (printed side l) (next_entries side final ls))
    ++ sent_in side seq final ls

-- how many entries an image of a node's disk has, with its records, and all that the node then ever had
abbrev pub IsLeftAs : List Fact → List Fact → ℕ → State → List Fact → List Fact → ℕ → Type 0
IsLeftAs r whole n Up image all entries = (image ≡ r) × (all ≡ whole) × (entries ≡ n)
IsLeftAs r whole n (Writing delta) image all entries =
    ((image ≡ r) × (all ≡ whole) × (entries ≡ n))
    ⊎ ((image ≡ r ++ delta) × (all ≡ whole ++ delta) × (entries ≡ n + 1))
IsLeftAs r whole n (Compacting start) image all entries =
    ((image ≡ r) × (all ≡ whole) × (entries ≡ n))
    ⊎ ((image ≡ snapshot r) × (all ≡ whole) × (entries ≡ length (snapshot r)))

-- of a node's own records and entries
abbrev pub IsImage : Node → List Fact → List Fact → ℕ → Type 0
IsImage x image all entries = IsLeftAs (records x) x.whole (length x.entries) x.state image all entries

-- at each image of each node's disk, what a source ever accepted is what the report says was sent
abbrev pub AcceptedIsSent : Type 0
AcceptedIsSent =
    (terms : Terms) (one two : Text) (events : List Event) (side : Side) (seq : ℕ) (image all : List Fact)
    (entries : ℕ) → IsImage (node (run terms events (start one two)) side) image all entries
    → history all seq ≡ sent_in side seq entries (lines terms events (start one two))
