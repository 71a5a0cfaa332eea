use Rattle.std.proofs.Common.{◌≡◌, sym, ap, subst, ◌∙◌}
use Rattle.std.specs.Prelude.{IfOk}
use Rattle.rm_protocol.specs.Calls.{Answer, may_end}
use Rattle.node_laws.specs.Answers.Answers.{seen}
use Rattle.node_calls.proofs.AskLemmas.{ask-comes}
use Rattle.node_calls.proofs.asks.ask_out.Goals as goal

pub returns : goal.returns
returns c =
    let may = sym (c.may_end.ensures ∙ ap may_end c.phase.ensures) ∙ c.if-not-may_end.false in
    let comes = ask-comes c.args.tables.now.records c.args.seq c.new-ahead.result c.in_ok-request.request
    c.new-ahead.ensures may c.in_ok-request.ensures in
    subst (λ (x : Answer). IfOk c.added.result (λ a. seen a ≡ x)) comes c.added.ensures
