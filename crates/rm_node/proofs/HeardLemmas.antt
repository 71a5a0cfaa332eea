-- What comes from a peer is taken or answered with a fault, and never refused.
use Rattle.std.proofs.Common.{◌≡◌, ℕ, Bool, true, false, List, Option, Some, None, refl, sym, ap, ◌∙◌}
use Rattle.std.proofs.Common.{◌⊎◌, inl, inr}
use Rattle.std.specs.Borrow.{Bor}
use Rattle.std.specs.Prelude.{MatchBool, Result, Ok, Err, IfErr}
use Rattle.rm_base.specs.declared.message.Behaviour.{Behaviour}
use Rattle.rm_disk.specs.Told.{Told}
use Rattle.rm_disk.specs.Journal.JournalState.{end_of}
use Rattle.record_batch.specs.Fact.{Fact}
use Rattle.rm_message.specs.declared.message.Message.{Message}
use Rattle.rm_message.specs.declared.refusal.FaultKind.{FaultKind}
use Rattle.rm_message.specs.declared.refusal.Refusal.{Refusal}
use Rattle.node_laws.specs.OwnTerms.{ThereAreOwnTerms}
use Rattle.rm_protocol.specs.Calls.{Answer, Cause, judged, receive}
use Rattle.rm_protocol.specs.Calls.{Refused as RefusedWith}
use Rattle.rm_protocol.specs.Terms.{Terms}
use Rattle.rm_protocol.specs.Verdict.{verdict}
use Rattle.rm_node.specs.Asked.{Asked}
use Rattle.rm_node.specs.Called.{Called, Sleeps, Steps, answer_of}
use Rattle.rm_node.specs.Ends.{Refused, WasDown, reaction_end}
use Rattle.rm_node.specs.Noded.{Noded}
use Rattle.rm_node.specs.declared.call.Call.TheVariants as call
use Rattle.rm_node.specs.declared.error.NodeError.{NodeError}
use Rattle.rm_node.specs.declared.error.NodeError.TheVariants as error
use Rattle.rm_node.specs.declared.step.Reaction.{Reaction}
use Rattle.rm_node.proofs.StepLemmas.{some_terms}

judged_not : (terms : Terms) (r : List Fact) (now : ℕ) (b : Behaviour) (m : Message) (v : Option FaultKind)
    (cause : Cause) → (judged terms r now b m v).outcome ≡ RefusedWith cause → ⊥
judged_not terms r now b m None cause e = absurd cc
judged_not terms r now b m (Some kind) cause e = absurd cc

taken_not : (terms : Terms) (r : List Fact) (place now : ℕ) (b : Behaviour) (content : Result Message Refusal)
    (cause : Cause) → (receive terms r place now b content).outcome ≡ RefusedWith cause → ⊥
taken_not terms r place now b (Ok m) cause e = judged_not terms r now b m (verdict terms r place now b m) cause e
taken_not terms r place now b (Err refusal) cause e = absurd cc

-- a call that is refused is refused by its answer
refused_by : (down tells connected : Bool) (first now : Told) (old new : Noded) (answer : Answer) (cause : Cause)
    → MatchBool down (Sleeps first now old new (Refused cause))
    (Called tells connected first now old new answer (Refused cause)) → answer.outcome ≡ RefusedWith cause
refused_by true tells connected first now old new answer cause way =
    let e : Refused cause ≡ WasDown = way.ends in absurd cc
refused_by false tells connected first now old new answer cause way = way.ends

-- no bytes are refused
refused_not : ThereAreOwnTerms → (tells : Bool) (first now : Told) (old new : Noded) (moment : ℕ)
    (bytes : Bor (List ℕ)) (cause : Cause)
    → Steps tells first now old new moment (call.Receive bytes) (Refused cause) → ⊥
refused_not there tells first now old new moment bytes cause steps =
    let own = some_terms there in
    let kept = steps.runs.keeping in
    let asked = steps.asked refl in
    let is = asked.1 in
    let does = steps.does own.0 own.1 kept.0 kept.1 asked.0 is in
    let e = refused_by old.stored.journal.is_down tells true first now old new _ cause does in
    taken_not own.0 old.stored.records (end_of old.stored.journal) moment kept.0.granted is.content cause
    (ap (λ (x : Asked). (answer_of own.0 old moment kept.0 x).outcome) (sym is.is) ∙ e)

-- so a call that takes bytes answers no error but these
pub only : ThereAreOwnTerms → (tells : Bool) (first now : Told) (old new : Noded) (moment : ℕ)
    (bytes : Bor (List ℕ)) (r : Result Reaction NodeError)
    → Steps tells first now old new moment (call.Receive bytes) (reaction_end r)
    → IfErr r (λ (e : NodeError). (e ≡ error.Memory) ⊎ (e ≡ error.Disk) ⊎ (e ≡ error.Down))
only there tells first now old new moment bytes (Ok reaction) steps = tt
only there tells first now old new moment bytes (Err error.Memory) steps = inl refl
only there tells first now old new moment bytes (Err error.Disk) steps = inr (inl refl)
only there tells first now old new moment bytes (Err error.Down) steps = inr (inr refl)
only there tells first now old new moment bytes (Err (error.Refused cause)) steps =
    absurd (refused_not there tells first now old new moment bytes _ steps)
