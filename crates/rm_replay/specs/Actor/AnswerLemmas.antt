-- A lemma on the answers of a node, which the crates above use too: what holds of the answers of all calls, and is kept
-- where a message is fetched, holds of the answer to whatever a call asks.
use Rattle.std.proofs.Common.{ℕ, List, sym, subst}
use Rattle.std.specs.Prelude.{Result}
use Rattle.record_batch.specs.Fact.{Fact}
use Rattle.rm_message.specs.declared.message.Message.{Message}
use Rattle.rm_message.specs.declared.refusal.Refusal.{Refusal}
use Rattle.rm_protocol.specs.Calls.{Answer, receive}
use Rattle.rm_protocol.specs.Polls.{polls}
use Rattle.rm_protocol.specs.Terms.{Terms}
use Rattle.node_laws.specs.Keeps.{OfEachCall}
use Rattle.rm_node.specs.Asked.{Asked, Asks, MayBeAsked, answer_to}
use Rattle.rm_node.specs.CameLemmas.{ReadsRight, RefusesRight, content_read}
use Rattle.rm_node.specs.Keeping.{Keeping}
use Rattle.rm_node.specs.declared.call.Call.{Call}
use Rattle.rm_node.specs.declared.call.Call.TheVariants as call

pub of_each : ReadsRight → RefusesRight → (P : Answer → Type 0) (terms : Terms) (r : List Fact) (place now : ℕ)
    (kept : Keeping) (this : Call) (asked : Asked) → OfEachCall terms r place P
    → ((content : Result Message Refusal) (answer : Answer) → P answer → P (polls kept.polled content answer))
    → MayBeAsked this → Asks this asked → P (answer_to terms r place now kept asked)
of_each reads refuses P terms r place now kept (call.Create wish) asked each fetched may is =
    subst (λ (a : Asked). P (answer_to terms r place now kept a)) (sym is) (each.create_ _ may)
of_each reads refuses P terms r place now kept (call.Send seq payload) asked each fetched may is =
    subst (λ (a : Asked). P (answer_to terms r place now kept a)) (sym is) (each.send_ seq payload)
of_each reads refuses P terms r place now kept (call.Close seq) asked each fetched may is =
    subst (λ (a : Asked). P (answer_to terms r place now kept a)) (sym is) (each.close_ seq now)
of_each reads refuses P terms r place now kept (call.End seq) asked each fetched may is =
    subst (λ (a : Asked). P (answer_to terms r place now kept a)) (sym is) (each.end_ seq)
of_each reads refuses P terms r place now kept (call.AskAck seq) asked each fetched may is =
    subst (λ (a : Asked). P (answer_to terms r place now kept a)) (sym is) (each.ask_ack_ seq)
of_each reads refuses P terms r place now kept (call.NackMissing seq) asked each fetched may is =
    subst (λ (a : Asked). P (answer_to terms r place now kept a)) (sym is) (each.nack_missing_ seq now)
of_each reads refuses P terms r place now kept (call.Consume seq upto) asked each fetched may is =
    subst (λ (a : Asked). P (answer_to terms r place now kept a)) (sym is) (each.consume_ seq upto)
of_each reads refuses P terms r place now kept (call.Tick moment) asked each fetched may is =
    subst (λ (a : Asked). P (answer_to terms r place now kept a)) (sym is) (each.tick_ moment kept.time kept.waits)
of_each reads refuses P terms r place now kept (call.Poll to) asked each fetched may is =
    subst (λ (a : Asked). P (answer_to terms r place now kept a)) (sym is) (each.poll_ to may)
of_each reads refuses P terms r place now kept (call.Receive bytes) asked each fetched may is =
    subst (λ (a : Asked). P (answer_to terms r place now kept a)) (sym is.is)
    (fetched is.content (receive terms r place now kept.granted is.content)
    (each.receive_ now kept.granted is.content (content_read reads refuses bytes.now is.content is.read)))
