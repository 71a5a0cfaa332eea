use Rattle.std.proofs.Common.{◌≡◌, subst, ◌∙◌}
use Rattle.std.specs.Prelude.{IfOk}
use Rattle.record_batch.specs.Sequences.Makers.{maker}
use Rattle.rm_protocol.specs.Calls.{Answer, ask_out}
use Rattle.node_laws.specs.Answers.Answers.{seen}
use Rattle.node_calls.proofs.AskLemmas.{refused-side, right-side}
use Rattle.node_calls.proofs.asks.ask_ack.Goals as goal

pub returns-in-Some : goal.returns-in-Some
returns-in-Some c =
    let r = c.args.tables.now.records in
    c.refused.ensures.is ∙ refused-side (maker r c.args.seq) (ask_out r c.args.seq) _ c.in-Some.ensures

pub returns-in-None : goal.returns-in-None
returns-in-None c =
    let r = c.args.tables.now.records in
    subst (λ (x : Answer). IfOk c.ask_out.result (λ a. seen a ≡ x))
    (right-side (maker r c.args.seq) (ask_out r c.args.seq) c.in-None.ensures) c.ask_out.ensures
