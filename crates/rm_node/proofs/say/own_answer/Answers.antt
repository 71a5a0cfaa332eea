use Rattle.std.proofs.Common.{◌≡◌, refl, sym, subst}
use Rattle.std.specs.Prelude.{IfOk}
use Rattle.node_laws.specs.Answers.Answers.{seen, wish_seen}
use Rattle.node_laws.specs.declared.answers.answer.Answer.{Answer}
use Rattle.rm_node.specs.Asked.{Asked, Asks, IsAsked, answer_to}
use Rattle.rm_node.specs.Asked.{Create, Send, Close, End, AskAck, NackMissing, Consume, Tick, Poll}
use Rattle.rm_node.specs.declared.call.Call.{Call}
use Rattle.rm_node.specs.declared.call.Call.TheVariants as call
use Rattle.rm_node.proofs.SayLemmas.{given}
use Rattle.rm_node.proofs.say.own_answer.Goals as goal

pub returns-in-Create-clause-asked : goal.returns-in-Create-clause-asked
returns-in-Create-clause-asked c =
    let it : IsAsked (call.Create c.in-Create.wish) = (Create (wish_seen c.in-Create.wish), refl) in
    given _ (IsAsked c.args.call) (subst IsAsked (sym c.in-Create.is) it)

pub returns-in-Send-clause-asked : goal.returns-in-Send-clause-asked
returns-in-Send-clause-asked c =
    let it : IsAsked (call.Send c.in-Send.seq c.in-Send.payload) = (Send c.in-Send.seq c.in-Send.payload, refl) in
    given _ (IsAsked c.args.call) (subst IsAsked (sym c.in-Send.is) it)

pub returns-in-Close-clause-asked : goal.returns-in-Close-clause-asked
returns-in-Close-clause-asked c =
    let it : IsAsked (call.Close c.in-Close.seq) = (Close c.in-Close.seq, refl) in
    given _ (IsAsked c.args.call) (subst IsAsked (sym c.in-Close.is) it)

pub returns-in-End-clause-asked : goal.returns-in-End-clause-asked
returns-in-End-clause-asked c =
    let it : IsAsked (call.End c.in-End.seq) = (End c.in-End.seq, refl) in
    given _ (IsAsked c.args.call) (subst IsAsked (sym c.in-End.is) it)

pub returns-in-AskAck-clause-asked : goal.returns-in-AskAck-clause-asked
returns-in-AskAck-clause-asked c =
    let it : IsAsked (call.AskAck c.in-AskAck.seq) = (AskAck c.in-AskAck.seq, refl) in
    given _ (IsAsked c.args.call) (subst IsAsked (sym c.in-AskAck.is) it)

pub returns-in-NackMissing-clause-asked : goal.returns-in-NackMissing-clause-asked
returns-in-NackMissing-clause-asked c =
    let it : IsAsked (call.NackMissing c.in-NackMissing.seq) = (NackMissing c.in-NackMissing.seq, refl) in
    given _ (IsAsked c.args.call) (subst IsAsked (sym c.in-NackMissing.is) it)

pub returns-in-Consume-clause-asked : goal.returns-in-Consume-clause-asked
returns-in-Consume-clause-asked c =
    let it : IsAsked (call.Consume c.in-Consume.seq c.in-Consume.upto) =
    (Consume c.in-Consume.seq c.in-Consume.upto, refl) in
    given _ (IsAsked c.args.call) (subst IsAsked (sym c.in-Consume.is) it)

pub returns-in-Tick-clause-asked : goal.returns-in-Tick-clause-asked
returns-in-Tick-clause-asked c =
    let it : IsAsked (call.Tick c.in-Tick.now) = (Tick c.in-Tick.now, refl) in
    given _ (IsAsked c.args.call) (subst IsAsked (sym c.in-Tick.is) it)

pub returns-in-Tick-clause-is : goal.returns-in-Tick-clause-is
returns-in-Tick-clause-is c terms own besides keeps asked asks =
    let is = subst (λ (x : Call). Asks x asked) c.in-Tick.is asks in
    subst (λ (x : Asked). IfOk c.answer_to_tick.result
    (λ (a : Answer). seen a ≡ answer_to terms c.args.tables.now.records c.args.place c.args.now besides x)) (sym is)
    (c.answer_to_tick.ensures.is terms own besides keeps)

pub returns-in-Poll-clause-asked : goal.returns-in-Poll-clause-asked
returns-in-Poll-clause-asked c =
    let it : IsAsked (call.Poll c.in-Poll.to) = (Poll c.in-Poll.to, refl) in
    given _ (IsAsked c.args.call) (subst IsAsked (sym c.in-Poll.is) it)
