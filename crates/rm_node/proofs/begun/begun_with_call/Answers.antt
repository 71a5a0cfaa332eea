use Rattle.std.proofs.Common.{◌∙◌, Some, ap, sym, subst}
use Rattle.timers.specs.declared.slots.timers.Key.{Key}
use Rattle.rm_node.specs.Asked.{Asks}
use Rattle.rm_node.specs.Timed.{begun_with}
use Rattle.rm_node.specs.declared.call.Call.{Call}
use Rattle.rm_node.proofs.begun.begun_with_call.Goals as goal

pub returns-in-Create : goal.returns-in-Create
returns-in-Create c asked asks =
    let is = subst (λ (x : Call). Asks x asked) c.in-Create.is asks in
    ap (λ (k : Key). Some k) c.next_request.ensures ∙ sym (ap (begun_with c.args.tables.now.records) is)

pub returns-in-Send : goal.returns-in-Send
returns-in-Send c asked asks =
    let is = subst (λ (x : Call). Asks x asked) c.in-Send.is asks in
    c.next_message.ensures ∙ sym (ap (begun_with c.args.tables.now.records) is)

pub returns-in-Close : goal.returns-in-Close
returns-in-Close c asked asks =
    let is = subst (λ (x : Call). Asks x asked) c.in-Close.is asks in
    c.request.ensures ∙ sym (ap (begun_with c.args.tables.now.records) is)

pub returns-in-End : goal.returns-in-End
returns-in-End c asked asks =
    let is = subst (λ (x : Call). Asks x asked) c.in-End.is asks in
    c.request-in-End.ensures ∙ sym (ap (begun_with c.args.tables.now.records) is)

pub returns-in-AskAck : goal.returns-in-AskAck
returns-in-AskAck c asked asks =
    let is = subst (λ (x : Call). Asks x asked) c.in-AskAck.is asks in
    sym (ap (begun_with c.args.tables.now.records) is)

pub returns-in-NackMissing : goal.returns-in-NackMissing
returns-in-NackMissing c asked asks =
    let is = subst (λ (x : Call). Asks x asked) c.in-NackMissing.is asks in
    sym (ap (begun_with c.args.tables.now.records) is)

pub returns-in-Consume : goal.returns-in-Consume
returns-in-Consume c asked asks =
    let is = subst (λ (x : Call). Asks x asked) c.in-Consume.is asks in
    sym (ap (begun_with c.args.tables.now.records) is)

pub returns-in-Tick : goal.returns-in-Tick
returns-in-Tick c asked asks =
    let is = subst (λ (x : Call). Asks x asked) c.in-Tick.is asks in
    sym (ap (begun_with c.args.tables.now.records) is)

pub returns-in-Poll : goal.returns-in-Poll
returns-in-Poll c asked asks =
    let is = subst (λ (x : Call). Asks x asked) c.in-Poll.is asks in
    sym (ap (begun_with c.args.tables.now.records) is)

pub returns-in-Receive : goal.returns-in-Receive
returns-in-Receive c asked asks =
    let is = subst (λ (x : Call). Asks x asked) c.in-Receive.is asks in
    sym (ap (begun_with c.args.tables.now.records) is.is)
