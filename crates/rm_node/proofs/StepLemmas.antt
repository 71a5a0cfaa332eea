-- A call of a node is a step of the protocol, whatever it asks.
use Rattle.std.proofs.Common.{◌≡◌, ◌∙◌, ℕ, Bool, true, false, List, [], Option, Some, None, refl, sym, ap, subst}
use Rattle.std.specs.Prelude.{◌≢◌, MatchBool, Ok, Err}
use Rattle.rm_disk.specs.Cause.{HasCause}
use Rattle.rm_disk.specs.Told.{Told}
use Rattle.rm_message.specs.declared.message.Message.{Message}
use Rattle.rm_message.specs.declared.refusal.FaultKind.{FaultKind}
use Rattle.record_batch.specs.Sequences.Words.{Text}
use Rattle.rm_protocol.specs.Calls.{Answer, Done, Outcome}
use Rattle.rm_protocol.specs.Terms.{Terms}
use Rattle.node_laws.specs.OwnTerms.{AreOwn, ThereAreOwnTerms}
use Rattle.rm_node.specs.Asked.{Asked, Asks, is_connected}
use Rattle.rm_node.specs.Called.{Called, Does, EndsBy, IsAsBefore, Sleeps, StaysANode, Steps, Wrote, answer_of}
use Rattle.rm_node.specs.Ends.{Ended, Handed, Wanted, WasDown, error_end, is_answered, is_broken, is_disk, is_refused}
use Rattle.rm_node.specs.Ends.{reaction_end, verdict_outcome}
use Rattle.rm_node.specs.declared.error.NodeError.{NodeError}
use Rattle.rm_node.specs.declared.error.NodeError.TheVariants as error
use Rattle.rm_node.specs.Fetching.{whole}
use Rattle.rm_node.specs.Keeping.{Keeping}
use Rattle.rm_node.specs.Noded.{Noded, Runs}
use Rattle.rm_node.specs.Packets.{outs_of, reply_of}
use Rattle.rm_node.specs.Saying.{IsUnsaid, Says}
use Rattle.rm_node.specs.declared.call.Call.{Call}
use Rattle.rm_node.specs.declared.packets.Out.{Out}
use Rattle.rm_node.specs.declared.say.Said.{Said}
use Rattle.rm_node.specs.declared.step.Reaction.{Reaction}
use Rattle.rm_node.proofs.CalledLemmas.{fails, goes-well, sleeps, unfaulted, wants}
use Rattle.rm_node.proofs.ComesLemmas.{IsDone}

-- ---- how a call ended

no_fault : (first : Told) (ended e : Ended) → ended ≡ e → is_broken e ≡ false
    → HasCause first.faults first.faults (is_broken ended)
no_fault first ended e is none =
    subst (λ (b : Bool). HasCause first.faults first.faults b) (sym (ap is_broken is ∙ none))
    (unfaulted first.faults)

-- by the disk
pub broken_by : (T : Type 0) (e : NodeError) → is_disk {T = T} (Err e) ≡ is_broken (error_end e)
broken_by T error.Memory = refl
broken_by T error.Disk = refl
broken_by T error.Down = refl
broken_by T (error.Refused cause) = refl

-- ---- whatever was asked for

-- it says that the node is down exactly where it is
abbrev pub SaysDown : Bool → Ended → Type 0
SaysDown down ended = MatchBool down (ended ≡ WasDown) (ended ≢ WasDown)

awake : (old : Noded) (ended : Ended) → old.stored.journal.is_down ≡ false → (ended ≡ WasDown → ⊥)
    → SaysDown old.stored.journal.is_down ended
awake old ended up not = subst (λ (b : Bool). SaysDown b ended) (sym up) not

still_there : (tells : Bool) (first : Told) (old : Noded) → IsAsBefore tells first first old old
still_there tells first old = record { node = refl; disk = λ t. refl }

same_node : (old new : Noded) → new.stored ≡ old.stored → new.kept ≡ old.kept → new ≡ old
same_node old new stored kept =
    ap (λ s. record new { stored = s }) stored ∙ ap (λ k. record old { kept = k }) kept

unwritten : (tells : Bool) (first now : Told) (old new : Noded) (answer : Answer)
    → Wrote tells first now old new answer false false → IsAsBefore tells first now old new
unwritten tells first now old new answer wrote = record {
  node = same_node old new wrote.stored wrote.kept;
  disk = λ t. (wrote.changes t).untouched refl refl;
}

-- what failed but for the disk wrote nothing
rests_by : (tells : Bool) (first now : Told) (old new : Noded) (answer : Answer) (e : NodeError)
    → EndsBy false answer (error_end e) → Wrote tells first now old new answer false (is_disk {T = Unit {0}} (Err e))
    → is_broken (error_end e) ≡ false → IsAsBefore tells first now old new
rests_by tells first now old new answer error.Memory ends wrote whole = unwritten tells first now old new answer wrote
rests_by tells first now old new answer error.Disk ends wrote whole = absurd cc
rests_by tells first now old new answer error.Down ends wrote whole = absurd ends
rests_by tells first now old new answer (error.Refused cause) ends wrote whole =
    unwritten tells first now old new answer wrote

-- nor did it say that the node is down
not_asleep : (answer : Answer) (e : NodeError) → EndsBy false answer (error_end e) → error_end e ≡ WasDown → ⊥
not_asleep answer error.Memory ends is = absurd cc
not_asleep answer error.Disk ends is = absurd cc
not_asleep answer error.Down ends is = ends
not_asleep answer (error.Refused cause) ends is = absurd cc

-- ---- nothing was said

pub step_unsaid : (tells : Bool) (first : Told) (old : Noded) (moment : ℕ) (call : Call) (e : NodeError) (ended : Ended)
    → Runs old → IsUnsaid old e → ended ≡ error_end e → Steps tells first first old old moment call ended
step_unsaid tells first old moment call error.Memory ended runs up e = record {
  does = λ terms own kept keeps asked is. wants tells (is_connected call) first old _ ended up e;
  asked = λ a. let none : is_answered Wanted ≡ true = ap is_answered (sym e) ∙ a in absurd cc;
  rests = λ h b. still_there tells first old;
  down = awake old ended up (λ d. let not : Wanted ≡ WasDown = sym e ∙ d in absurd cc);
  runs = runs;
  cause = no_fault first ended Wanted e refl;
  crashes = λ t. refl;
}
step_unsaid tells first old moment call error.Down ended runs asleep e = record {
  does = λ terms own kept keeps asked is. sleeps tells (is_connected call) first old _ ended asleep e;
  asked = λ a. let none : is_answered WasDown ≡ true = ap is_answered (sym e) ∙ a in absurd cc;
  rests = λ h b. still_there tells first old;
  down = subst (λ (b : Bool). SaysDown b ended) (sym asleep) e;
  runs = runs;
  cause = no_fault first ended WasDown e refl;
  crashes = λ t. refl;
}
step_unsaid tells first old moment call error.Disk ended runs unsaid e = absurd unsaid
step_unsaid tells first old moment call (error.Refused cause) ended runs unsaid e = absurd unsaid

-- ---- what is said is written

-- all went well
pub step_well : (tells : Bool) (first now : Told) (old new : Noded) (moment : ℕ) (call : Call) (said : Said)
    (outcome : Outcome) → Runs old → Says old moment call said → StaysANode first old (whole said.answered)
    → Wrote tells first now old new (whole said.answered) true false → outcome ≡ (whole said.answered).outcome
    → Steps tells first now old new moment call (Handed outcome said.handed.reply said.handed.outs)
step_well tells first now old new moment call said outcome runs says stays wrote comes = record {
  does = λ terms own kept keeps asked is. goes-well tells (is_connected call) first now old new (whole said.answered) _
      outcome said.handed.reply said.handed.outs says.up (says.is terms own kept keeps asked is) stays wrote comes
      says.reply says.outs;
  asked = λ a. says.asked;
  rests = λ h b. absurd cc;
  down = awake old (Handed outcome said.handed.reply said.handed.outs) says.up (λ d. absurd cc);
  runs = runs;
  cause = wrote.cause;
  crashes = λ t. (wrote.changes t).crashes;
}

-- it failed
pub step_fails : (tells : Bool) (first now : Told) (old new : Noded) (moment : ℕ) (call : Call) (said : Said)
    (e : NodeError) (ended : Ended) → Runs old → Says old moment call said
    → StaysANode first old (whole said.answered)
    → Wrote tells first now old new (whole said.answered) false (is_disk {T = Unit {0}} (Err e))
    → EndsBy false (whole said.answered) (error_end e) → ended ≡ error_end e
    → Steps tells first now old new moment call ended
step_fails tells first now old new moment call said e ended runs says stays wrote ends is = record {
  does = λ terms own kept keeps asked asks. fails tells (is_connected call) first now old new (whole said.answered) _ e
      ended is says.up (says.is terms own kept keeps asked asks) stays wrote ends;
  asked = λ a. says.asked;
  rests = λ h b. rests_by tells first now old new (whole said.answered) e ends wrote (ap is_broken (sym is) ∙ b);
  down = awake old ended says.up (λ d. not_asleep (whole said.answered) e ends (sym is ∙ d));
  runs = runs;
  cause = subst (λ (b : Bool). HasCause first.faults now.faults b) (broken_by (Unit {0}) e ∙ ap is_broken (sym is))
      wrote.cause;
  crashes = λ t. (wrote.changes t).crashes;
}

-- ---- calls by their names

not_refused : (v : Option FaultKind) → is_refused (verdict_outcome v) ≡ false
not_refused None = refl
not_refused (Some kind) = refl

-- a call that handed something out ended by its answer
pub ended_by : (tells connected : Bool) (first now : Told) (old new : Noded) (answer : Answer) (outcome : Outcome)
    (reply : Option Text) (outs : List Out)
    → Does tells connected first now old new answer (Handed outcome reply outs)
    → EndsBy connected answer (Handed outcome reply outs)
ended_by tells connected first now old new answer outcome reply outs does =
    elim (old.stored.journal.is_down) as (λ (b : Bool).
    MatchBool b (Sleeps first now old new (Handed outcome reply outs))
    (Called tells connected first now old new answer (Handed outcome reply outs))
    → EndsBy connected answer (Handed outcome reply outs)) [
      | true ↦ λ slept. let e : Handed outcome reply outs ≡ WasDown = slept.ends in absurd cc
      | false ↦ λ called. called.ends
    ] does

-- and was not refused
pub was_taken : (tells connected : Bool) (first now : Told) (old new : Noded) (answer : Answer) (v : Option FaultKind)
    (reply : Option Text) (outs : List Out)
    → Does tells connected first now old new answer (Handed (verdict_outcome v) reply outs)
    → is_refused answer.outcome ≡ false
was_taken tells connected first now old new answer v reply outs does =
    ap is_refused (sym (ended_by tells connected first now old new answer (verdict_outcome v) reply outs does).0)
    ∙ not_refused v

-- there are terms of a node's own
pub some_terms : ThereAreOwnTerms → (terms : Terms) × AreOwn terms
some_terms there =
    let own = there (λ (ms : List Message) (m : Message). true) (λ (m : Message). Ok m) in (own.0, own.3)

-- an error is the node's own
pub failed : (tells : Bool) (first now : Told) (old new : Noded) (moment : ℕ) (call : Call) (e f : NodeError)
    (ended : Ended) → ended ≡ error_end f → f ≡ e
    → Steps tells first now old new moment call (reaction_end (Err e))
    → Steps tells first now old new moment call ended
failed tells first now old new moment call e f ended is same steps =
    subst (λ (x : Ended). Steps tells first now old new moment call x) (sym (is ∙ ap error_end same)) steps

-- a call that comes on no connection is done, and there is no reply
pub plain : (tells : Bool) (first now : Told) (old new : Noded) (moment : ℕ) (call : Call) (asked : Asked)
    (reaction : Reaction) → ThereAreOwnTerms → Asks call asked → is_connected call ≡ false
    → ((terms : Terms) (kept : Keeping) → IsDone (answer_of terms old moment kept asked))
    → Steps tells first now old new moment call (reaction_end (Ok reaction))
    → Steps tells first now old new moment call (Handed Done None reaction.outs)
plain tells first now old new moment call asked reaction there asks none is_done steps =
    let own = some_terms there in
    let kept = steps.runs.keeping.0 in
    let answer = answer_of own.0 old moment kept asked in
    let outcome = verdict_outcome reaction.verdict in
    let does = steps.does own.0 own.1 kept steps.runs.keeping.1 asked asks in
    let ends = ended_by tells (is_connected call) first now old new answer outcome reaction.reply reaction.outs does in
    let taken = was_taken tells (is_connected call) first now old new answer reaction.verdict reaction.reply
    reaction.outs does in
    let silent : reaction.reply ≡ None = ends.1 ∙ ap (λ (b : Bool). reply_of b answer) none in
    subst (λ (e : Ended). Steps tells first now old new moment call e)
    (ap (λ (reply : Option Text). Handed outcome reply reaction.outs) silent
    ∙ ap (λ (o : Outcome). Handed o None reaction.outs) (ends.0 ∙ (is_done own.0 kept).done taken)) steps

-- and where nothing is said, nothing is handed out
pub silent : (tells : Bool) (first now : Told) (old new : Noded) (moment : ℕ) (call : Call) (asked : Asked)
    (reaction : Reaction) → ThereAreOwnTerms → Asks call asked → is_connected call ≡ false
    → ((terms : Terms) (kept : Keeping) → IsDone (answer_of terms old moment kept asked))
    → ((terms : Terms) (kept : Keeping) → (answer_of terms old moment kept asked).outs ≡ [])
    → Steps tells first now old new moment call (reaction_end (Ok reaction))
    → Steps tells first now old new moment call (Handed Done None [])
silent tells first now old new moment call asked reaction there asks none is_done says steps =
    let own = some_terms there in
    let kept = steps.runs.keeping.0 in
    let answer = answer_of own.0 old moment kept asked in
    let outcome = verdict_outcome reaction.verdict in
    let ends = ended_by tells (is_connected call) first now old new answer outcome reaction.reply reaction.outs
    (steps.does own.0 own.1 kept steps.runs.keeping.1 asked asks) in
    let nothing : reaction.outs ≡ [] = ends.2 ∙ ap outs_of (says own.0 kept) in
    subst (λ (outs : List Out). Steps tells first now old new moment call (Handed Done None outs)) nothing
    (plain tells first now old new moment call asked reaction there asks none is_done steps)
