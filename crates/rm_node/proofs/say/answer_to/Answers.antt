use Rattle.std.proofs.Common.{◌≡◌, ◌∙◌, sym, subst}
use Rattle.std.specs.Prelude.{IfOk}
use Rattle.std.proofs.lemmas.Result.{on_ok_weaker}
use Rattle.timers.specs.Pending.Waiting.{Waiting}
use Rattle.rm_base.specs.declared.message.Behaviour.{Behaviour}
use Rattle.rm_message.specs.declared.message.Message.{Message}
use Rattle.rm_protocol.specs.Calls.{receive}
use Rattle.rm_protocol.specs.Polls.{polls}
use Rattle.rm_node.specs.Asked.{Asked, Asks, IsAsked, IsReceived, answer_to}
use Rattle.rm_node.specs.Fetching.{whole}
use Rattle.rm_node.specs.declared.call.Call.{Call}
use Rattle.rm_node.specs.declared.call.Call.TheVariants as call
use Rattle.rm_node.specs.declared.fetch.Answered.{Answered}
use Rattle.rm_node.proofs.SayLemmas.{not_received}
use Rattle.rm_node.proofs.say.answer_to.Goals as goal

pub own_answer-requires-clause-own : goal.own_answer-requires-clause-own
own_answer-requires-clause-own c = not_received c.args.call c.in_default.not-Receive

pub returns-in-Receive-clause-is : goal.returns-in-Receive-clause-is
returns-in-Receive-clause-is c terms own besides keeps asked asks =
    let r = c.args.tables.now.records in
    let received : IsReceived c.in-Receive.bytes.now asked =
    subst (λ (x : Call). Asks x asked) c.in-Receive.is asks in
    let content = received.content in
    subst (λ (x : Asked). IfOk c.answer_to_bytes.result
    (λ (a : Answered). whole a ≡ answer_to terms r c.args.place c.args.now besides x)) (sym received.is)
    (subst (λ (y : Behaviour). IfOk c.answer_to_bytes.result
    (λ (a : Answered). whole a ≡ polls besides.polled content (receive terms r c.args.place c.args.now y content)))
    keeps.granted
    (subst (λ (w : Waiting Message). IfOk c.answer_to_bytes.result (λ (a : Answered). whole a
    ≡ polls w content (receive terms r c.args.place c.args.now c.args.kept.now.granted content))) keeps.polled
    (c.answer_to_bytes.ensures.is terms own content received.read)))

pub returns-in-Receive-clause-asked : goal.returns-in-Receive-clause-asked
returns-in-Receive-clause-asked c =
    on_ok_weaker c.answer_to_bytes.result
    (λ (h : (asked : Asked) × IsReceived c.in-Receive.bytes.now asked).
    let it : IsAsked (call.Receive c.in-Receive.bytes) = h in subst IsAsked (sym c.in-Receive.is) it)
    c.answer_to_bytes.ensures.asked

pub returns-clause-is : goal.returns-clause-is
returns-clause-is c terms own besides keeps asked asks =
    c.unfetched.ensures.is ∙ c.in_ok-own_answer.ensures.is terms own besides keeps asked asks
