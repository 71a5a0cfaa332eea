-- How a call of a node that ended so is told.
use Rattle.std.specs.Prelude.{◌≡◌, List, [], Option, None, Result, Ok, Err}
use Rattle.rm_base.specs.declared.failures.Memory.{Memory}
use Rattle.record_batch.specs.Sequences.Words.{Text}
use Rattle.rm_node.specs.declared.packets.Out.{Out}
use Rattle.rm_node.specs.Ends.{Ended, Handed, Refused, Wanted, Broke, WasDown}
use Rattle.rm_script.specs.declared.report.line.Outcome.{Outcome}
use Rattle.rm_script.specs.declared.report.line.Outcome.TheVariants as told
use Rattle.rm_replay.specs.declared.actor.actor.Came.{Came}
use Rattle.rm_replay.specs.Actor.Outcomes.{answer_told, refusal_told}

-- it came out so, this went back on the connection, and these packets went out
pub record IsTold (outcome : Outcome) (reply : Option Text) (outs : List Out) (came : Came) : Type 0 where
  pub came_out : came.outcome ≡ outcome
  pub back : came.reply ≡ reply
  pub out : came.outs ≡ outs

-- nothing is told where memory was wanting
abbrev pub ComesOut : Ended → Result Came Memory → Type 0
ComesOut (Handed outcome reply outs) (Ok came) = IsTold (answer_told outcome) reply outs came
ComesOut (Refused cause) (Ok came) = IsTold (refusal_told cause) None [] came
ComesOut Broke (Ok came) = IsTold told.Disk None [] came
ComesOut WasDown (Ok came) = IsTold told.Down None [] came
ComesOut Wanted (Err memory) = Unit {0}
ComesOut _ _ = ⊥

-- so where nothing leaves the node
abbrev pub ComesOutAs : Ended → Result Outcome Memory → Type 0
ComesOutAs (Handed outcome reply outs) (Ok came) = came ≡ answer_told outcome
ComesOutAs (Refused cause) (Ok came) = came ≡ refusal_told cause
ComesOutAs Broke (Ok came) = came ≡ told.Disk
ComesOutAs WasDown (Ok came) = came ≡ told.Down
ComesOutAs Wanted (Err memory) = Unit {0}
ComesOutAs _ _ = ⊥
