use Rattle.std.proofs.Common.{◌∙◌}
use Rattle.rm_node.proofs.receive.answer_to_refusal.Goals as goal

pub returns-clause-is : goal.returns-clause-is
returns-clause-is c terms own = c.unfetched.ensures.is ∙ c.in_ok-answer.ensures.is terms own
