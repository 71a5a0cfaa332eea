-- What a node with these records knows of each of its sequences, as text.
use Rattle.std.specs.Prelude.{ℕ, zero, suc, ◌+◌, if◌then◌else◌, List, [], ◌∷◌, ◌++◌, length, None, Some}
use Rattle.rm_sides.specs.Ranges.Changes.{united}
use Rattle.rm_sides.specs.Destination.Messages.{Item, ranges_onto}
use Rattle.rm_sides.specs.declared.destination.outcome.InPhase.{InPhase}
use Rattle.rm_sides.specs.declared.destination.outcome.InPhase.TheVariants.{Open, Closed, Ended}
use Rattle.record_batch.specs.Fact.{Fact}
use Rattle.record_batch.specs.Sequences.Makers.{makers, maker}
use Rattle.record_batch.specs.Sequences.Sources.{accepted_count, acked, phase}
use Rattle.record_batch.specs.Sequences.Destinations.{behaviour, cursor, discarded, held, inbox, is_ended}
use Rattle.record_batch.specs.Sequences.Destinations.{is_over}
use Rattle.record_batch.specs.Sequences.Fits.{is_outgoing_side}
use Rattle.rm_script.specs.Report.Report.{consumed_text, out_text, in_text, item_text}
use Rattle.rm_script.specs.declared.report.summary.Place.{Place}

-- the phase of an incoming sequence at a moment
abbrev pub in_phase : List Fact → ℕ → ℕ → InPhase
in_phase r s now = if is_ended r s now then Ended else if is_over r s now then Closed else Open

-- sequence s of the node with this number
abbrev pub place : ℕ → ℕ → Place
place node s = record { node = node; seq = s }

-- the line of an item of an inbox with a number: there is none where the item is gone
abbrev pub there_text : Place → ℕ → Item → List ℕ
there_text at number None = []
there_text at number (Some payload) = item_text at number payload.bytes

-- the items of an inbox, numbered from n + 1 on
abbrev pub items_text : Place → ℕ → List Item → List ℕ
items_text at n [] = []
items_text at n (item ∷ items) = there_text at (n + 1) item ++ items_text at (n + 1) items

-- an outgoing sequence: its phase, how many payloads were accepted, and which numbers are acknowledged
abbrev pub outgoing_text : ℕ → List Fact → ℕ → List ℕ
outgoing_text node r s = out_text (place node s) (phase r s) (accepted_count r s) (united [] (acked r s))

-- an incoming sequence: its phase at a moment, its behaviour, which numbers were received, how many payloads were
-- released and how many are discarded; then how many the application consumed, where it consumed any; and then the
-- payloads that were released and aren't gone
abbrev pub incoming_text : ℕ → List Fact → ℕ → ℕ → List ℕ
incoming_text node r now s =
    in_text (place node s) (in_phase r s now) (behaviour r s) (ranges_onto [] (held r s)) (length (inbox r s))
    (length (discarded r s))
    ++ (consumed_text (place node s) (cursor r s) ++ items_text (place node s) 0 (inbox r s))

-- a sequence
abbrev pub sequence_text : ℕ → List Fact → ℕ → ℕ → List ℕ
sequence_text node r now s =
    if is_outgoing_side (maker r s) then outgoing_text node r s else incoming_text node r now s

-- so many sequences, from the first on
abbrev pub sequences_text : ℕ → List Fact → ℕ → ℕ → List ℕ
sequences_text node r now zero = []
sequences_text node r now (suc n) = sequences_text node r now n ++ sequence_text node r now (suc n)

-- what the node with this number knows of all of them
abbrev pub node_text : ℕ → List Fact → ℕ → List ℕ
node_text node r now = sequences_text node r now (length (makers r))
