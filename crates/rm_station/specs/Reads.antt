-- What an application reads of a node that runs. Nothing is done for it.
use Rattle.std.specs.Prelude.{◌≡◌, ℕ, zero, suc, ◌+◌, ◌-◌, max, nat_le, nat_lt, if◌then◌else◌, List, [], ◌++◌, codes}
use Rattle.std.specs.Prelude.{decimal, drop, length, map, slice_get, Option, None, Some, Result, Err, Ok}
use Rattle.std.specs.Option.{option_map}
use Rattle.node_laws.specs.declared.answers.answer.Cause.TheVariants as cause
use Rattle.node_store.specs.Stored.{Stored}
use Rattle.node_tables.specs.Reads.{incoming_in, outgoing_in}
use Rattle.record_batch.specs.Fact.{Fact}
use Rattle.record_batch.specs.Sequences.Destinations.{cursor as cursor_of, inbox as inbox_of}
use Rattle.record_batch.specs.Sequences.Makers.{makers}
use Rattle.rm_base.specs.declared.message.Payload.{Payload}
use Rattle.rm_host.specs.Sequences.{passed_lines}
use Rattle.rm_host.specs.Shown.{shown_text}
use Rattle.rm_host.specs.declared.end.End.{End}
use Rattle.rm_host.specs.declared.end.End.TheVariants.{Refused}
use Rattle.rm_sides.specs.Destination.Incoming.{Receiving, discarded, held, inbox}
use Rattle.rm_sides.specs.Destination.Messages.{Item, item_at, ranges_onto}
use Rattle.rm_sides.specs.Ranges.Ranges.{count_of}
use Rattle.rm_sides.specs.Source.Outgoing.{Sending, accepted_count}
use Rattle.rm_station.specs.declared.ask.Ask.{Ask}
use Rattle.rm_station.specs.declared.ask.Ask.TheVariants.{Counts, Fetches, FetchesNext, Health, Lists, Shows}
use Rattle.rm_station.specs.declared.reads.Measure.{Measure}
use Rattle.rm_station.specs.declared.reads.Measure.TheVariants.{Accepted, Acknowledged, Received, Released, Consumed}
use Rattle.rm_station.specs.declared.reads.Measure.TheVariants.{Discarded}

-- ---- a sequence that receives

-- what is answered of it, where it is one
abbrev pub answer_of : (Receiving → List ℕ) → Option Receiving → Result (List ℕ) End
answer_of text None = Err (Refused cause.WrongSide)
answer_of text (Some f) = Ok (text f)

-- what is answered of it by a node with these records
abbrev pub incoming_answer : (Receiving → List ℕ) → List Fact → (seq : ℕ) → Result (List ℕ) End
incoming_answer text r seq =
    if nat_lt (length (makers r)) seq then Err (Refused cause.NoSequence) else answer_of text (incoming_in r seq)

-- how many items its inbox has, with those that were consumed
abbrev pub inbox_line : (seq count : ℕ) → List ℕ
inbox_line seq count = codes "inbox " ++ decimal seq ++ codes " " ++ decimal count ++ codes "\n"

-- before the first item that is listed: it is not below a number, and was not consumed
abbrev pub before_listed : (from : ℕ) → Receiving → ℕ
before_listed from f = max f.cursor (from - 1)

-- at most so many items of it, from a number on, of those that were not consumed, a line each
abbrev pub list_text : (seq from most : ℕ) → Receiving → List ℕ
list_text seq from most f =
    passed_lines seq (before_listed from f) (before_listed from f + most) (inbox f) ++ inbox_line seq (length (inbox f))

-- no such item has come
abbrev pub none_line : (seq : ℕ) → List ℕ
none_line seq = codes "none " ++ decimal seq ++ codes "\n"

-- an item was consumed
abbrev pub gone_line : (seq number : ℕ) → List ℕ
gone_line seq number = codes "gone " ++ decimal seq ++ codes " " ++ decimal number ++ codes "\n"

-- an item: a line, and its payload behind it
abbrev pub there_text : (seq number : ℕ) → Item → List ℕ
there_text seq number None = none_line seq
there_text seq number (Some payload) =
    codes "item " ++ decimal seq ++ codes " " ++ decimal number ++ codes "\n" ++ payload.bytes

-- the item with a number
abbrev pub item_text : (seq number : ℕ) → Receiving → List ℕ
item_text seq number f =
    if nat_le number f.cursor then gone_line seq number else there_text seq number (item_at (inbox f) number)

-- the first item that was not consumed
abbrev pub next_text : (seq : ℕ) → Receiving → List ℕ
next_text seq f = item_text seq (f.cursor + 1) f

-- ---- all sequences

-- the name of a count
abbrev pub count_name : Measure → List ℕ
count_name Accepted = codes "wsrm_accepted_messages_total"
count_name Acknowledged = codes "wsrm_acknowledged_messages_total"
count_name Received = codes "wsrm_received_messages_total"
count_name Released = codes "wsrm_inbox_items_total"
count_name Consumed = codes "wsrm_consumed_items_total"
count_name Discarded = codes "wsrm_discarded_messages"

-- its type: what is discarded may be released later, and so may fall
abbrev pub count_type : Measure → List ℕ
count_type Discarded = codes "gauge"
count_type _ = codes "counter"

-- its value at a sequence, where the sequence has it
abbrev pub count_in : Measure → List Fact → (seq : ℕ) → Option ℕ
count_in Accepted r seq = option_map accepted_count (outgoing_in r seq)
count_in Acknowledged r seq = option_map (λ (s : Sending). count_of s.acked) (outgoing_in r seq)
count_in Received r seq = option_map (λ f. count_of (ranges_onto [] (held f))) (incoming_in r seq)
count_in Released r seq = option_map (λ f. length (inbox f)) (incoming_in r seq)
count_in Consumed r seq = option_map (λ (f : Receiving). f.cursor) (incoming_in r seq)
count_in Discarded r seq = option_map (λ f. length (discarded f)) (incoming_in r seq)

-- the line of a type
abbrev pub type_line : (name type : List ℕ) → List ℕ
type_line name type = codes "# TYPE " ++ name ++ codes " " ++ type ++ codes "\n"

-- the line of a value at a sequence, where there is one
abbrev pub value_line : (name : List ℕ) → (seq : ℕ) → Option ℕ → List ℕ
value_line name seq None = []
value_line name seq (Some value) =
    name ++ codes "{sequence=\"" ++ decimal seq ++ codes "\"} " ++ decimal value ++ codes "\n"

-- the lines of a count at so many sequences, from the first on
abbrev pub value_lines : Measure → List Fact → (sequences : ℕ) → List ℕ
value_lines count r zero = []
value_lines count r (suc n) = value_lines count r n ++ value_line (count_name count) (suc n) (count_in count r (suc n))

-- a count: its type, and its value at each sequence
abbrev pub count_text : Measure → List Fact → List ℕ
count_text count r = type_line (count_name count) (count_type count) ++ value_lines count r (length (makers r))

-- how many entries the journal has
abbrev pub entries_text : ℕ → List ℕ
entries_text entries =
    type_line (codes "wsrm_journal_entries") (codes "gauge") ++ codes "wsrm_journal_entries " ++ decimal entries
    ++ codes "\n"

-- all counts, in the text form that Prometheus reads
abbrev pub counts_text : List Fact → (entries : ℕ) → List ℕ
counts_text r entries =
    count_text Accepted r ++ count_text Acknowledged r ++ count_text Received r ++ count_text Released r
    ++ count_text Consumed r ++ count_text Discarded r ++ entries_text entries

-- ---- what is asked

-- what is read for it, at a moment, of a node that has stored this; for what asks for a call nothing is
abbrev pub read_answer : (moment : ℕ) → Stored → Ask → Option (Result (List ℕ) End)
read_answer moment s (Lists seq from most) = Some (incoming_answer (list_text seq from most) s.records seq)
read_answer moment s (Fetches seq number) = Some (incoming_answer (item_text seq number) s.records seq)
read_answer moment s (FetchesNext seq) = Some (incoming_answer (next_text seq) s.records seq)
read_answer moment s Shows = Some (Ok (shown_text s.records (length s.journal.gates) moment))
read_answer moment s Counts = Some (Ok (counts_text s.records (length s.journal.gates)))
read_answer moment s Health = Some (Ok (codes "ok\n"))
read_answer moment s _ = None

-- ---- what is fetched

-- an item, where it is one of these
abbrev pub given_text : (seq number : ℕ) → Option Payload → List ℕ
given_text seq number None = none_line seq
given_text seq number (Some payload) = there_text seq number (Some payload)

-- Past the cursor, the items that are fetched are those of the inbox that the records have, in order, and none else
abbrev pub FetchedIsTheInbox : Type 0
FetchedIsTheInbox =
    (r : List Fact) (seq : ℕ) (f : Receiving) (left : List Payload) → incoming_in r seq ≡ Some f
    → drop (cursor_of r seq) (inbox_of r seq) ≡ map Some left
    → (k : ℕ) → item_text seq (cursor_of r seq + 1 + k) f ≡ given_text seq (cursor_of r seq + 1 + k) (slice_get left k)
