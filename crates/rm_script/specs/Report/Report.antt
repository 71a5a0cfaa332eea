-- The text of a report: a line for each line of the script that does something, and then what the nodes know.
use Rattle.std.specs.Prelude.{ℕ, ◌==◌, if◌then◌else◌, List, [], ◌∷◌, ◌++◌, codes, decimal}
use Rattle.hex.specs.Hex.{encode_lower}
use Rattle.rm_sides.specs.declared.ranges.range.Range.{Range}
use Rattle.rm_script.specs.MessageLines.Lines as lines
use Rattle.rm_base.specs.declared.message.Behaviour.{Behaviour}
use Rattle.rm_base.specs.declared.message.Behaviour.TheVariants.{NoDiscard, EntireSequence, FollowingFirstGap}
use Rattle.rm_sides.specs.declared.destination.outcome.InPhase.{InPhase}
use Rattle.rm_sides.specs.declared.destination.outcome.InPhase.TheVariants as incoming
use Rattle.rm_message.specs.Kinds.{kind_name}
use Rattle.rm_script.specs.declared.report.line.Line.{Line}
use Rattle.rm_script.specs.declared.report.line.Outcome.{Outcome}
use Rattle.rm_script.specs.declared.report.line.Outcome.TheVariants.{NoPacket, NoNoise, Down, NoSequence, Refused, Disk}
use Rattle.rm_script.specs.declared.report.line.Outcome.TheVariants.{Fault}
use Rattle.rm_script.specs.declared.report.line.Outcome.TheVariants.{Done}
use Rattle.rm_script.specs.declared.report.line.Reason.{Reason}
use Rattle.rm_script.specs.declared.report.line.Reason.TheVariants as reason
use Rattle.rm_script.specs.declared.report.summary.Place.{Place}
use Rattle.rm_sides.specs.declared.source.phase.OutPhase.{OutPhase}
use Rattle.rm_sides.specs.declared.source.phase.OutPhase.TheVariants as outgoing

-- ---- a line for a line of the script

-- the name of a reason for which a node refuses a call
abbrev pub reason_text : Reason → List ℕ
reason_text reason.UnknownSequence = codes "UnknownSequence"
reason_text reason.WrongSide = codes "WrongSide"
reason_text reason.PayloadTooLong = codes "PayloadTooLong"
reason_text reason.BadPayload = codes "BadPayload"
reason_text reason.NotOpen = codes "NotOpen"
reason_text reason.WindowFull = codes "WindowFull"
reason_text reason.NodeFull = codes "NodeFull"
reason_text reason.Rollover = codes "Rollover"
reason_text reason.TooManySequences = codes "TooManySequences"
reason_text reason.StoreFull = codes "StoreFull"
reason_text reason.PastInbox = codes "PastInbox"

-- OUTCOME
abbrev pub outcome_text : Outcome → List ℕ
outcome_text NoPacket = codes "no-packet"
outcome_text NoNoise = codes "no-noise"
outcome_text Down = codes "down"
outcome_text NoSequence = codes "no-sequence"
outcome_text (Refused reason) = codes "refused " ++ reason_text reason
outcome_text Disk = codes "disk"
outcome_text (Fault kind) = codes "fault " ++ kind_name kind
outcome_text Done = codes "ok"

-- LINE OUTCOME E1 E2 PACKETS
abbrev pub line_text : Line → List ℕ
line_text l =
    decimal l.number ++ codes " " ++ outcome_text l.outcome ++ codes " " ++ decimal l.entries_one ++ codes " "
    ++ decimal l.entries_two
    ++ codes " "
    ++ decimal l.packets
    ++ codes "\n"

-- all lines, in order
abbrev pub lines_text : List Line → List ℕ
lines_text [] = []
lines_text (line ∷ lines) = line_text line ++ lines_text lines

-- ---- what a node knows

-- R, such as 1-3,5-5, and - where there are no ranges
abbrev pub ranges_text : List Range → List ℕ
ranges_text [] = codes "-"
ranges_text (range ∷ ranges) = lines.ranges_text (range ∷ ranges)

-- the PHASE of an outgoing sequence
abbrev pub out_phase : OutPhase → List ℕ
out_phase outgoing.Creating = codes "creating"
out_phase outgoing.Open = codes "open"
out_phase outgoing.Closing = codes "closing"
out_phase outgoing.Closed = codes "closed"
out_phase outgoing.Ending = codes "ending"
out_phase outgoing.Ended = codes "ended"
out_phase outgoing.Failed = codes "failed"

-- the PHASE of an incoming sequence
abbrev pub in_phase : InPhase → List ℕ
in_phase incoming.Open = codes "open"
in_phase incoming.Closed = codes "closed"
in_phase incoming.Ended = codes "ended"

-- B; a sequence whose messages are not in order is loose
abbrev pub behaviour_text : Behaviour → List ℕ
behaviour_text NoDiscard = codes "loose"
behaviour_text EntireSequence = codes "des"
behaviour_text FollowingFirstGap = codes "dfg"

-- N K: the number of a node, and the place of a sequence among those of the node
abbrev pub place_text : Place → List ℕ
place_text place = decimal place.node ++ codes " " ++ decimal place.seq

-- PHASE accepted A acked R
abbrev pub sending_text : OutPhase → ℕ → List Range → List ℕ
sending_text phase accepted acked =
    out_phase phase ++ codes " accepted " ++ decimal accepted ++ codes " acked " ++ ranges_text acked ++ codes "\n"

-- out N K PHASE accepted A acked R
abbrev pub out_text : Place → OutPhase → ℕ → List Range → List ℕ
out_text place phase accepted acked =
    codes "out " ++ place_text place ++ codes " " ++ sending_text phase accepted acked

-- how many payloads are in the inbox, and how many are discarded
abbrev pub counts_text : ℕ → ℕ → List ℕ
counts_text inbox discarded = codes " inbox " ++ decimal inbox ++ codes " discarded " ++ decimal discarded

-- PHASE B received R inbox I discarded J
abbrev pub receiving_text : InPhase → Behaviour → List Range → ℕ → ℕ → List ℕ
receiving_text phase behaviour received inbox discarded =
    in_phase phase ++ codes " " ++ behaviour_text behaviour ++ codes " received " ++ ranges_text received
    ++ counts_text inbox discarded
    ++ codes "\n"

-- in N K PHASE B received R inbox I discarded J
abbrev pub in_text : Place → InPhase → Behaviour → List Range → ℕ → ℕ → List ℕ
in_text place phase behaviour received inbox discarded =
    codes "in " ++ place_text place ++ codes " " ++ receiving_text phase behaviour received inbox discarded

-- consumed N K C
abbrev pub cursor_text : Place → ℕ → List ℕ
cursor_text place cursor = codes "consumed " ++ place_text place ++ codes " " ++ decimal cursor ++ codes "\n"

-- the line of the cursor, where anything was consumed
abbrev pub consumed_text : Place → ℕ → List ℕ
consumed_text place cursor = if cursor == 0 then [] else cursor_text place cursor

-- item N K I HEX
abbrev pub item_text : Place → ℕ → List ℕ → List ℕ
item_text place number bytes =
    codes "item " ++ place_text place ++ codes " " ++ decimal number ++ codes " " ++ encode_lower bytes ++ codes "\n"

-- down N
abbrev pub down_text : ℕ → List ℕ
down_text node = codes "down " ++ decimal node ++ codes "\n"
