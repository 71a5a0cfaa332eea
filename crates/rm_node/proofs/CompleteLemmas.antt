-- A call comes out as the protocol says, unless memory is wanting.
use Rattle.std.proofs.Common.{◌≡◌, ◌⊎◌, inl, inr, Bool, Some, refl, sym, ap, subst}
use Rattle.std.specs.Prelude.{MatchBool}
use Rattle.rm_base.specs.Count.{Rose}
use Rattle.rm_disk.specs.Cause.{HasCause}
use Rattle.rm_disk.specs.Told.{Told}
use Rattle.rm_protocol.specs.Calls.{Answer, Outcome}
use Rattle.rm_node.specs.Asked.{is_connected}
use Rattle.rm_node.specs.Called.{Called, Sleeps, answer_of}
use Rattle.rm_node.specs.Complete.{ComesOut, outcome_in}
use Rattle.rm_node.specs.Ends.{Ended, Handed, Refused, Wanted, Broke, WasDown, is_broken}
use Rattle.rm_node.specs.Noded.{Noded}

called-out : (tells connected : Bool) (first now : Told) (old new : Noded) (answer : Answer) (ended : Ended)
    → Called tells connected first now old new answer ended → HasCause first.faults now.faults (is_broken ended)
    → ¬ (Rose first.faults now.faults) → (ended ≡ Wanted) ⊎ (outcome_in ended ≡ Some answer.outcome)
called-out tells connected first now old new answer (Handed outcome reply outs) called cause whole =
    inr (ap (λ (o : Outcome). Some o) called.ends.0)
called-out tells connected first now old new answer (Refused why) called cause whole =
    inr (ap (λ (o : Outcome). Some o) (sym called.ends))
called-out tells connected first now old new answer Wanted called cause whole = inl refl
called-out tells connected first now old new answer Broke called cause whole = absurd (whole cause.cause)
called-out tells connected first now old new answer WasDown called cause whole = absurd called.ends

pub comes-out : ComesOut
comes-out tells first now old new moment call asked ended terms kept steps own keeps asks up whole =
    let answer = answer_of terms old moment kept asked in
    called-out tells (is_connected call) first now old new answer ended
    (subst (λ (b : Bool). MatchBool b (Sleeps first now old new ended)
    (Called tells (is_connected call) first now old new answer ended)) up
    (steps.does terms own kept keeps asked asks)) steps.cause whole
