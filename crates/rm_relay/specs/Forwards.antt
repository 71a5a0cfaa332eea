-- What forwarding the next item of a node does.
use Rattle.std.specs.Prelude.{◌≡◌, ◌⊎◌, ℕ, Bool, List, Option, Some, None, Result, Ok, Err}
use Rattle.rm_base.specs.declared.message.Payload.{Payload}
use Rattle.rm_disk.specs.Told.{Told}
use Rattle.rm_node.specs.Called.{Steps}
use Rattle.rm_node.specs.Ends.{Handed, error_end}
use Rattle.rm_node.specs.Noded.{Noded}
use Rattle.rm_node.specs.Saying.{IsUnsaid}
use Rattle.rm_node.specs.declared.call.Call.TheVariants.{Send as Sends}
use Rattle.rm_node.specs.declared.error.NodeError.{NodeError}
use Rattle.rm_node.specs.declared.packets.Out.{Out}
use Rattle.rm_protocol.specs.Calls.{Done}

-- nothing was sent: memory was wanting at a node that is up, or the node is down
pub record IsUnsent (first now : Told) (old new : Noded) (error : NodeError) : Type 0 where
  pub why : IsUnsaid old error
  pub node : new ≡ old
  pub disk : now ≡ first

-- None comes exactly where there is no item, and then nothing has changed; else the item is sent, unless it is refused
abbrev pub Forwards : Bool → (first now : Told) → (old new : Noded) → ℕ → Option Payload
    → Result (Option (List Out)) NodeError → Type 0
Forwards tells first now old new out None (Ok None) = (new ≡ old) × (now ≡ first)
Forwards tells first now old new out (Some p) (Ok (Some outs)) =
    Steps tells first now old new 0 (Sends out p.bytes) (Handed Done None outs)
Forwards tells first now old new out (Some p) (Err error) =
    Steps tells first now old new 0 (Sends out p.bytes) (error_end error) ⊎ IsUnsent first now old new error
Forwards tells first now old new out _ _ = ⊥
