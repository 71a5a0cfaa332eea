use Rattle.std.proofs.Common.{◌≡◌, sym, ap, ◌∙◌, subst, Option}
use Rattle.std.specs.Prelude.{IfOk}
use Rattle.rm_protocol.specs.Calls.{Answer, Cause, if_room}
use Rattle.node_laws.specs.Answers.Answers.{seen}
use Rattle.node_calls.specs.Causes.{unless_refused}
use Rattle.node_calls.specs.Comes.{consumed}
use Rattle.node_calls.proofs.ConsumeLemmas.{consume_in-is, short-consumed}
use Rattle.node_calls.proofs.consumes.consume_in.Goals as goal

pub if_room-requires : goal.if_room-requires
if_room-requires c =
    short-consumed c.a_batch_is_its_parts.ensures c.args.tables.now.records c.args.seq c.args.upto _
    (ap (λ (a : Answer). a.delta) c.in_ok-answer.ensures)

pub returns-in-Some-clause-is : goal.returns-in-Some-clause-is
returns-in-Some-clause-is c terms own =
    let r = c.args.tables.now.records in
    let s = c.args.seq in
    let cause = rw c.in-Some.is at c.inbox_refusal.ensures in
    c.refused.ensures.is
    ∙ sym (consume_in-is terms r c.args.place s c.args.upto
    ∙ ap (λ (o : Option Cause). unless_refused o (if_room terms c.args.place (consumed r s c.args.upto))) (sym cause))

pub returns-clause-is : goal.returns-clause-is
returns-clause-is c terms own =
    let r = c.args.tables.now.records in
    let s = c.args.seq in
    let none = rw c.in_default.is at c.inbox_refusal.ensures in
    let comes = ap (if_room terms c.args.place) c.in_ok-answer.ensures
    ∙ sym (consume_in-is terms r c.args.place s c.args.upto
    ∙ ap (λ (o : Option Cause). unless_refused o (if_room terms c.args.place (consumed r s c.args.upto))) (sym none)) in
    subst (λ (x : Answer). IfOk c.if_room.result (λ a. seen a ≡ x)) comes (c.if_room.ensures.is terms own)
