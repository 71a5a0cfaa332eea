-- How calls of a node end.
use Rattle.std.specs.Prelude.{Bool, true, false, List, [], Option, Some, None, Result, Ok, Err}
use Rattle.rm_message.specs.declared.refusal.FaultKind.{FaultKind}
use Rattle.record_batch.specs.Sequences.Words.{Text}
use Rattle.rm_protocol.specs.Calls.{Cause, Outcome, Done, Judged, Refused as RefusedWith}
use Rattle.node_laws.specs.Answers.Answers.{cause_seen}
use Rattle.rm_node.specs.declared.calls.Made.{Made}
use Rattle.rm_node.specs.declared.calls.Sent.{Sent}
use Rattle.rm_node.specs.declared.error.NodeError.{NodeError}
use Rattle.rm_node.specs.declared.error.NodeError.TheVariants as error
use Rattle.rm_node.specs.declared.packets.Out.{Out}
use Rattle.rm_node.specs.declared.step.Reaction.{Reaction}

-- it came out so, and this went back on the connection, and these packets out; it was refused; memory was wanting; the
-- disk failed; the node was down
pub data Ended : Type 0 where
  Handed : (outcome : Outcome) → (reply : Option Text) → (outs : List Out) → Ended
  Refused : (cause : Cause) → Ended
  Wanted : Ended
  Broke : Ended
  WasDown : Ended

-- all went well
abbrev pub is_handed : Ended → Bool
is_handed (Handed outcome reply outs) = true
is_handed _ = false

-- the disk failed
abbrev pub is_broken : Ended → Bool
is_broken Broke = true
is_broken _ = false

-- there was an answer: memory was there to work it out, and the node was up
abbrev pub is_answered : Ended → Bool
is_answered Wanted = false
is_answered WasDown = false
is_answered _ = true

-- by an error
abbrev pub error_end : NodeError → Ended
error_end error.Memory = Wanted
error_end error.Disk = Broke
error_end error.Down = WasDown
error_end (error.Refused cause) = Refused (cause_seen cause)

-- with a verdict or without
abbrev pub verdict_outcome : Option FaultKind → Outcome
verdict_outcome None = Done
verdict_outcome (Some kind) = Judged kind

-- of a call
abbrev pub reaction_end : Result Reaction NodeError → Ended
reaction_end (Ok reaction) = Handed (verdict_outcome reaction.verdict) reaction.reply reaction.outs
reaction_end (Err error) = error_end error

-- of a sequence that was asked for
abbrev pub made_end : Result Made NodeError → Ended
made_end (Ok made) = Handed Done None made.outs
made_end (Err error) = error_end error

-- of a payload that was accepted
abbrev pub sent_end : Result Sent NodeError → Ended
sent_end (Ok sent) = Handed Done None sent.outs
sent_end (Err error) = error_end error

-- of what is handed out alone
abbrev pub outs_end : Result (List Out) NodeError → Ended
outs_end (Ok outs) = Handed Done None outs
outs_end (Err error) = error_end error

-- of a call that hands nothing out
abbrev pub done_end : {T : Type 0} → Result T NodeError → Ended
done_end (Ok value) = Handed Done None []
done_end (Err error) = error_end error

-- the call failed by the disk
abbrev pub is_disk : {T : Type 0} → Result T NodeError → Bool
is_disk (Err error.Disk) = true
is_disk _ = false

-- the answer is a refusal
abbrev pub is_refused : Outcome → Bool
is_refused (RefusedWith cause) = true
is_refused _ = false
