-- What is shown of a node with these records: a line of it, and a line of each of its sequences.
use Rattle.std.specs.Prelude.{ℕ, zero, suc, List, [], ◌++◌, codes, decimal, length, None, Option, Some}
use Rattle.node_tables.specs.Reads.{address_in, incoming_in, outgoing_in}
use Rattle.record_batch.specs.Fact.{Fact}
use Rattle.record_batch.specs.Sequences.Makers.{makers, number}
use Rattle.rm_script.specs.Report.Report.{receiving_text, sending_text}
use Rattle.rm_sides.specs.Destination.Incoming.{Receiving, discarded, held, inbox, phase_of}
use Rattle.rm_sides.specs.Destination.Messages.{ranges_onto}
use Rattle.rm_sides.specs.Source.Outgoing.{Sending, accepted_count}

-- an address, where there is one
abbrev pub address_text : Option (List ℕ) → List ℕ
address_text None = []
address_text (Some address) = address

-- its number, its address, and how many entries its journal has
abbrev pub node_line : List Fact → (entries : ℕ) → List ℕ
node_line r entries =
    codes "node " ++ decimal (number r) ++ codes " " ++ address_text (address_in r) ++ codes " entries "
    ++ decimal entries
    ++ codes "\n"

-- a sequence that sends: its phase, how many payloads were accepted, and which numbers are acknowledged
abbrev pub out_line : (seq : ℕ) → Option Sending → List ℕ
out_line seq None = []
out_line seq (Some s) =
    codes "out " ++ decimal seq ++ codes " " ++ sending_text s.phase (accepted_count s) s.acked

-- a sequence that receives: its phase at a moment, its behaviour, which numbers were received, how many payloads were
-- released and how many are discarded
abbrev pub in_line : (seq now : ℕ) → Option Receiving → List ℕ
in_line seq now None = []
in_line seq now (Some f) =
    codes "in " ++ decimal seq ++ codes " "
    ++ receiving_text (phase_of f now) f.behaviour (ranges_onto [] (held f)) (length (inbox f)) (length (discarded f))

-- the line of a sequence
abbrev pub sequence_line : List Fact → (now seq : ℕ) → List ℕ
sequence_line r now seq = out_line seq (outgoing_in r seq) ++ in_line seq now (incoming_in r seq)

-- so many sequences, from the first on
abbrev pub sequence_lines : List Fact → (now count : ℕ) → List ℕ
sequence_lines r now zero = []
sequence_lines r now (suc n) = sequence_lines r now n ++ sequence_line r now (suc n)

-- all of it
abbrev pub shown_text : List Fact → (entries now : ℕ) → List ℕ
shown_text r entries now = node_line r entries ++ sequence_lines r now (length (makers r))
