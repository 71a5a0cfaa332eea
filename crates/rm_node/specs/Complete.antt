-- A call comes out as the protocol says, unless memory is wanting.
use Rattle.std.specs.Prelude.{◌≡◌, ◌⊎◌, ℕ, Bool, false, Option, Some, None}
use Rattle.rm_base.specs.Count.{Rose}
use Rattle.rm_disk.specs.Told.{Told}
use Rattle.node_laws.specs.OwnTerms.{AreOwn}
use Rattle.rm_protocol.specs.Calls.{Outcome, Refused as RefusedWith}
use Rattle.rm_protocol.specs.Terms.{Terms}
use Rattle.rm_node.specs.Asked.{Asked, Asks}
use Rattle.rm_node.specs.Called.{Steps, answer_of}
use Rattle.rm_node.specs.Ends.{Ended, Handed, Refused, Wanted}
use Rattle.rm_node.specs.Keeping.{Keeping, Keeps}
use Rattle.rm_node.specs.Noded.{Noded}
use Rattle.rm_node.specs.declared.call.Call.{Call}

-- how a call came out, where there was an answer that the disk took
abbrev pub outcome_in : Ended → Option Outcome
outcome_in (Handed outcome reply outs) = Some outcome
outcome_in (Refused cause) = Some (RefusedWith cause)
outcome_in _ = None

-- A call of a node that is up, on a disk whose count of faults doesn't rise, is handed out or refused as the protocol
-- says, or memory is wanting.
abbrev pub ComesOut : Type 0
ComesOut =
    (tells : Bool) (first now : Told) (old new : Noded) (moment : ℕ) (call : Call) (asked : Asked) (ended : Ended)
    (terms : Terms) (kept : Keeping) → Steps tells first now old new moment call ended → AreOwn terms
    → Keeps old.kept kept → Asks call asked → old.stored.journal.is_down ≡ false → ¬ (Rose first.faults now.faults)
    → (ended ≡ Wanted) ⊎ (outcome_in ended ≡ Some (answer_of terms old moment kept asked).outcome)
