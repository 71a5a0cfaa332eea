use Rattle.std.proofs.Common.{◌≡◌, None, sym, subst, ap}
use Rattle.std.specs.Prelude.{IfOk}
use Rattle.rm_protocol.specs.Calls.{Answer}
use Rattle.node_laws.specs.Answers.Answers.{seen}
use Rattle.receive_answer.specs.Untold.{judged_as}
use Rattle.receive_answer.proofs.FitLemmas.{nothing-stored}
use Rattle.receive_answer.proofs.answers.refuse.Goals as goal

pub returns-clause-is : goal.returns-clause-is
returns-clause-is c =
    λ terms own.
    subst (λ (x : Answer). IfOk c.fault_answer.result (λ a. seen a ≡ x))
    (ap (judged_as c.args.refusal.kind) (sym (own.fault c.args.refusal None))) c.fault_answer.ensures.is

pub returns-clause-stored : goal.returns-clause-stored
returns-clause-stored c =
    nothing-stored c.args.tables.now.records c.args.place c.fault_answer.result c.fault_answer.ensures.nothing
