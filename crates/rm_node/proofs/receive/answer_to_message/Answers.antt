use Rattle.std.proofs.Common.{◌≡◌, subst}
use Rattle.std.specs.Prelude.{IfOk}
use Rattle.rm_protocol.specs.Calls.{Answer}
use Rattle.node_laws.specs.Answers.Answers.{seen}
use Rattle.rm_node.specs.Fetching.{whole}
use Rattle.rm_node.proofs.FetchLemmas.{polls-by}
use Rattle.rm_node.proofs.receive.answer_to_message.Goals as goal

pub returns-clause-is : goal.returns-clause-is
returns-clause-is c terms own =
    subst (λ (x : Answer). IfOk c.fetch.result (λ a. whole a ≡ x))
    (polls-by c.args.kept.now.polled.waits c.args.message c.in_ok-at.at (seen c.in_ok-answer.answer) _
    c.in_ok-at.ensures (c.in_ok-answer.ensures.is terms own)) c.fetch.ensures.is
