-- What a node says may be written, whatever it is asked for.
use Rattle.std.proofs.Common.{◌≡◌, ◌≤◌, ℕ, false, List, Option, refl, sym, subst, arith}
use Rattle.std.specs.Prelude.{OnOk, Result, Ok, Err}
use Rattle.rm_base.specs.Limits as limits
use Rattle.timers.specs.declared.slots.timers.Key.{Key}
use Rattle.record_batch.specs.Fact.{Fact}
use Rattle.rm_protocol.specs.Calls.{Answer}
use Rattle.rm_protocol.specs.Exact.{WhatBeginsWaits}
use Rattle.rm_protocol.specs.Recorded.{OnlyHeardIsRecorded}
use Rattle.rm_protocol.specs.Terms.{Terms}
use Rattle.node_laws.specs.Keeps.{EachCallKeeps, LeavesANode, OfEachCall}
use Rattle.node_laws.specs.OwnTerms.{AreOwn}
use Rattle.node_laws.specs.Records.{IsKept}
use Rattle.node_laws.specs.Answers.Answers.{MayBeStored, wish_seen}
use Rattle.rm_node.specs.CameLemmas.{ReadsRight, RefusesRight, content_read}
use Rattle.rm_node.specs.Asked.{Asked, Asks, MayBeAsked, answer_to, is_connected}
use Rattle.rm_node.specs.Asked.{Create, Send, Close, End, AskAck, NackMissing, Consume, Tick, Poll, Receive}
use Rattle.rm_node.specs.Ends.{is_refused}
use Rattle.rm_node.specs.Keeping.{Keeping, Keeps}
use Rattle.rm_node.specs.Noded.{told}
use Rattle.rm_node.specs.Timed.{Begins, MayBeWritten, begun_with}
use Rattle.rm_node.specs.declared.call.Call.{Call}
use Rattle.rm_node.specs.declared.kept.Kept.{Kept}
use Rattle.rm_node.specs.declared.call.Call.TheVariants as call
use Rattle.rm_node.proofs.BegunLemmas.{Leads, leads, moment_of}

-- what holds anyhow, holds where a call went well
pub given : {T E : Type 0} (r : Result T E) (P : Type 0) → P → OnOk r P
given (Ok x) P p = p
given (Err e) P p = tt

-- what is not told of what a node keeps doesn't matter
pub inside_keeps : (k : Kept) (kept : Keeping) → Keeps (told k) kept → Keeps k kept
inside_keeps k kept h = record { granted = h.granted; waits = h.waits; time = h.time; polled = h.polled }

-- a call that is no message comes on no connection
pub not_received : (c : Call) → ((bytes : _) → c ≡ call.Receive bytes → ⊥) → is_connected c ≡ false
not_received (call.Receive bytes) h = absurd (h bytes refl)
not_received (call.Create wish) h = refl
not_received (call.Send seq payload) h = refl
not_received (call.Close seq) h = refl
not_received (call.End seq) h = refl
not_received (call.AskAck seq) h = refl
not_received (call.NackMissing seq) h = refl
not_received (call.Consume seq upto) h = refl
not_received (call.Tick now) h = refl
not_received (call.Poll to) h = refl

-- the records of each answer leave a node
leaves_each : ReadsRight → RefusesRight → (terms : Terms) (r : List Fact) (place now : ℕ) (kept : Keeping)
    (call : Call) (asked : Asked) → MayBeAsked call → Asks call asked
    → OfEachCall terms r place (LeavesANode r) → LeavesANode r (answer_to terms r place now kept asked)
leaves_each reads refuses terms r place now kept (call.Create wish) asked may is each =
    subst (λ (x : Asked). LeavesANode r (answer_to terms r place now kept x)) (sym is)
    (each.create_ (wish_seen wish) may)
leaves_each reads refuses terms r place now kept (call.Send seq payload) asked may is each =
    subst (λ (x : Asked). LeavesANode r (answer_to terms r place now kept x)) (sym is) (each.send_ seq payload)
leaves_each reads refuses terms r place now kept (call.Close seq) asked may is each =
    subst (λ (x : Asked). LeavesANode r (answer_to terms r place now kept x)) (sym is) (each.close_ seq now)
leaves_each reads refuses terms r place now kept (call.End seq) asked may is each =
    subst (λ (x : Asked). LeavesANode r (answer_to terms r place now kept x)) (sym is) (each.end_ seq)
leaves_each reads refuses terms r place now kept (call.AskAck seq) asked may is each =
    subst (λ (x : Asked). LeavesANode r (answer_to terms r place now kept x)) (sym is) (each.ask_ack_ seq)
leaves_each reads refuses terms r place now kept (call.NackMissing seq) asked may is each =
    subst (λ (x : Asked). LeavesANode r (answer_to terms r place now kept x)) (sym is) (each.nack_missing_ seq now)
leaves_each reads refuses terms r place now kept (call.Consume seq upto) asked may is each =
    subst (λ (x : Asked). LeavesANode r (answer_to terms r place now kept x)) (sym is) (each.consume_ seq upto)
leaves_each reads refuses terms r place now kept (call.Tick moment) asked may is each =
    subst (λ (x : Asked). LeavesANode r (answer_to terms r place now kept x)) (sym is)
    (each.tick_ moment kept.time kept.waits)
leaves_each reads refuses terms r place now kept (call.Poll to) asked may is each =
    subst (λ (x : Asked). LeavesANode r (answer_to terms r place now kept x)) (sym is) (each.poll_ to may)
leaves_each reads refuses terms r place now kept (call.Receive bytes) asked may is each =
    subst (λ (x : Asked). LeavesANode r (answer_to terms r place now kept x)) (sym is.is)
    (each.receive_ now kept.granted is.content (content_read reads refuses bytes.now is.content is.read))

-- no moment is too late for the timers
from_zero : 0 ≤ limits.now_max
from_zero = omega arith

early : (asked other : Asked) → asked ≡ other → moment_of other ≤ limits.now_max → moment_of asked ≤ limits.now_max
early asked other is h = subst (λ (x : Asked). moment_of x ≤ limits.now_max) (sym is) h

in_time : (call : Call) (asked : Asked) → MayBeAsked call → Asks call asked → moment_of asked ≤ limits.now_max
in_time (call.Create wish) asked may is = early asked (Create (wish_seen wish)) is from_zero
in_time (call.Send seq payload) asked may is = early asked (Send seq payload) is from_zero
in_time (call.Close seq) asked may is = early asked (Close seq) is from_zero
in_time (call.End seq) asked may is = early asked (End seq) is from_zero
in_time (call.AskAck seq) asked may is = early asked (AskAck seq) is from_zero
in_time (call.NackMissing seq) asked may is = early asked (NackMissing seq) is from_zero
in_time (call.Consume seq upto) asked may is = early asked (Consume seq upto) is from_zero
in_time (call.Tick moment) asked may is = early asked (Tick moment) is may
in_time (call.Poll to) asked may is = early asked (Poll to) is from_zero
in_time (call.Receive bytes) asked may is = early asked (Receive is.content) is.is from_zero

-- so the answer that the code worked out may be written
pub may_be_written : ReadsRight → RefusesRight → EachCallKeeps → OnlyHeardIsRecorded → WhatBeginsWaits → (terms : Terms)
    → AreOwn terms → (r : List Fact) (place now : ℕ) (kept : Keeping) (call : Call) (asked : Asked) (a : Answer)
    (begun : Option Key) → IsKept r → MayBeAsked call → Asks call asked
    → MayBeStored r place a.delta → a ≡ answer_to terms r place now kept asked → begun ≡ begun_with r asked
    → MayBeWritten r place a begun
may_be_written reads refuses keeps heard waits terms own r place now kept call asked a begun of may asks stored
    same begins =
    let leading : Leads r asked a =
    subst (Leads r asked) (sym same) (leads heard waits terms r place now kept asked of.node.fit) in
    record {
      stored = stored;
      leaves = subst (LeavesANode r) (sym same)
          (leaves_each reads refuses terms r place now kept call asked may asks (keeps terms r place own of));
      begins = λ (taken : is_refused a.outcome ≡ false). subst (Begins r a.delta) (sym begins)
          (leading.begins stored.fit taken);
      time = subst (λ (n : ℕ). n ≤ limits.now_max) (sym leading.time) (in_time call asked may asks);
    }
