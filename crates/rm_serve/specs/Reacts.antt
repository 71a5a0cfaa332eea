-- Bytes are given to a node.
use Rattle.std.specs.Prelude.{ℕ, List, [], ◌∷◌, Option, Result, Ok, Err}
use Rattle.rm_message.specs.declared.message.Message.{Message}
use Rattle.rm_message.specs.declared.refusal.FaultKind.{FaultKind}
use Rattle.rm_message.specs.declared.refusal.Refusal.{Refusal}
use Rattle.rm_node.specs.Asked.{Receive}
use Rattle.rm_node.specs.Came.{IsReadAs}
use Rattle.rm_node.specs.Ends.{Handed, Broke, verdict_outcome}
use Rattle.rm_node.specs.declared.error.NodeError.{NodeError}
use Rattle.rm_node.specs.declared.error.NodeError.TheVariants as error
use Rattle.rm_node.specs.declared.packets.Out.{Out}
use Rattle.rm_node.specs.declared.step.Reaction.{Reaction}
use Rattle.rm_serve.specs.Steps.{Step}

-- bytes that were taken: the call, the verdict, and what is handed out
abbrev pub took : ℕ → Result Message Refusal → Option FaultKind → Option (List ℕ) → List Out → Step
took moment content verdict reply outs = record {
  moment = moment;
  asked = Receive content;
  ended = Handed (verdict_outcome verdict) reply outs;
}

-- bytes while which were taken the disk failed
abbrev pub broke : ℕ → Result Message Refusal → Step
broke moment content = record { moment = moment; asked = Receive content; ended = Broke }

-- they are taken in one call, as what they are read as; or memory was wanting, or the node was down, and nothing
-- happened
pub data Reacts (moment : ℕ) (bytes : List ℕ) : List Step → Result Reaction NodeError → Type 0 where
  reacted : (content : Result Message Refusal) (verdict : Option FaultKind) (reply : Option (List ℕ)) (outs : List Out)
      → IsReadAs bytes content
      → Reacts moment bytes (took moment content verdict reply outs ∷ [])
      (Ok (record { verdict = verdict; reply = reply; outs = outs }))
  crashed : (content : Result Message Refusal) → IsReadAs bytes content
      → Reacts moment bytes (broke moment content ∷ []) (Err error.Disk)
  slept : Reacts moment bytes [] (Err error.Down)
  starving : Reacts moment bytes [] (Err error.Memory)
