-- How calls of the protocol come out, as a report tells it.
use Rattle.std.specs.Prelude.{Bool, true, false, List, ◌++◌, map, Result, Ok}
use Rattle.rm_base.specs.declared.failures.Memory.{Memory}
use Rattle.rm_node.specs.declared.packets.Out.{Out}
use Rattle.rm_node.specs.Packets.{packet_of, packets_of, reply_packet}
use Rattle.rm_replay.specs.declared.actor.actor.Came.{Came}
use Rattle.rm_message.specs.declared.message.Message.{Message}
use Rattle.rm_protocol.specs.Addresses.{anonymous}
use Rattle.rm_protocol.specs.Calls.{Cause, Outcome as Comes, NoSequence, WrongSide, PayloadTooLong, BadPayload, NotOpen}
use Rattle.rm_protocol.specs.Calls.{WindowFull, NodeFull, Rollover, TooManySequences, StoreFull, PastInbox, Done}
use Rattle.rm_protocol.specs.Calls.{Refused, Judged}
use Rattle.rm_protocol.specs.Node.{CallOutcome, Answered, DiskFault, IsDown}
use Rattle.rm_script.specs.declared.report.line.Outcome.{Outcome}
use Rattle.rm_script.specs.declared.report.line.Outcome.TheVariants as told
use Rattle.rm_script.specs.declared.report.line.Reason.TheVariants as reason

-- a refusal: that there is no such sequence has an outcome of its own
abbrev pub refusal_told : Cause → Outcome
refusal_told NoSequence = told.NoSequence
refusal_told WrongSide = told.Refused reason.WrongSide
refusal_told (PayloadTooLong length) = told.Refused reason.PayloadTooLong
refusal_told BadPayload = told.Refused reason.BadPayload
refusal_told NotOpen = told.Refused reason.NotOpen
refusal_told (WindowFull unacked) = told.Refused reason.WindowFull
refusal_told (NodeFull unacked) = told.Refused reason.NodeFull
refusal_told Rollover = told.Refused reason.Rollover
refusal_told (TooManySequences count) = told.Refused reason.TooManySequences
refusal_told (StoreFull end needed) = told.Refused reason.StoreFull
refusal_told (PastInbox have) = told.Refused reason.PastInbox

-- an answer
abbrev pub answer_told : Comes → Outcome
answer_told Done = told.Done
answer_told (Refused cause) = refusal_told cause
answer_told (Judged fault) = told.Fault fault

-- a call
abbrev pub call_told : CallOutcome → Outcome
call_told (Answered outcome) = answer_told outcome
call_told DiskFault = told.Disk
call_told IsDown = told.Down

-- what left the node, the reply on a connection first
abbrev pub packets_in : Came → List Out
packets_in came = reply_packet came.reply ++ came.outs

-- a message that was fetched goes back on the connection, whatever its address is
abbrev pub back_packet : Message → Out
back_packet m = record (packet_of m) { address = anonymous }

-- what is to leave a node: the message that was fetched, and then what is said, where there is a connection or not
abbrev pub left_of : Bool → (fetched said : List Message) → List Out
left_of connected fetched said = map back_packet fetched ++ packets_of connected said

-- the outcome is that the disk failed
abbrev pub is_disk_outcome : Outcome → Bool
is_disk_outcome told.Disk = true
is_disk_outcome _ = false

-- the call came out so
abbrev pub is_disk : Result Came Memory → Bool
is_disk (Ok came) = is_disk_outcome came.outcome
is_disk _ = false

-- and so did a call of which nothing leaves the node
abbrev pub ends_by_disk : Result Outcome Memory → Bool
ends_by_disk (Ok outcome) = is_disk_outcome outcome
ends_by_disk _ = false
