use Rattle.std.proofs.Common.{◌≡◌, sym, ap, ◌∙◌, subst, Option}
use Rattle.std.specs.Prelude.{IfOk}
use Rattle.rm_protocol.specs.Calls.{Answer, Cause, if_room}
use Rattle.node_laws.specs.Answers.Answers.{seen}
use Rattle.node_calls.specs.Causes.{unless_refused}
use Rattle.node_calls.specs.Comes.{sent}
use Rattle.node_calls.proofs.CauseLemmas.{send-is}
use Rattle.node_calls.proofs.sends.accept.Goals as goal

pub returns-in-Some-clause-is : goal.returns-in-Some-clause-is
returns-in-Some-clause-is c terms own =
    let r = c.args.tables.now.records in
    let s = c.args.seq in
    let p = c.args.payload in
    let cause = rw c.in-Some.is at (c.in_ok-cause.ensures.is terms own) in
    c.refused.ensures.is
    ∙ sym (send-is terms r c.args.place s p
    ∙ ap (λ (o : Option Cause). unless_refused o (if_room terms c.args.place (sent r s p))) (sym cause))

pub returns-in_ok-sent-in-None-clause-is : goal.returns-in_ok-sent-in-None-clause-is
returns-in_ok-sent-in-None-clause-is c terms own =
    let r = c.args.tables.now.records in
    let s = c.args.seq in
    let p = c.args.payload in
    let none = rw c.in-None.is at (c.in_ok-cause.ensures.is terms own) in
    let comes = ap (if_room terms c.args.place) c.in_ok-sent-in-None.ensures
    ∙ sym (send-is terms r c.args.place s p
    ∙ ap (λ (o : Option Cause). unless_refused o (if_room terms c.args.place (sent r s p))) (sym none)) in
    subst (λ (x : Answer). IfOk c.if_room.result (λ a. seen a ≡ x)) comes (c.if_room.ensures.is terms own)
