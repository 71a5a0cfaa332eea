use Rattle.std.proofs.Common.{◌≡◌, ◌∙◌, ℕ, List, max, ap, subst}
use Rattle.std.specs.Prelude.{IfOk}
use Rattle.timers.specs.declared.slots.timers.Key.{Key}
use Rattle.timers.specs.Keys.Waits.{first_due}
use Rattle.rm_protocol.specs.Calls.{tick_with}
use Rattle.node_laws.specs.Answers.Answers.{seen}
use Rattle.node_laws.specs.declared.answers.answer.Answer.{Answer}
use Rattle.rm_node.proofs.say.answer_to_tick.Goals as goal

pub returns-clause-is : goal.returns-clause-is
returns-clause-is c terms own besides keeps =
    let now = c.args.now in
    let due = c.in_ok-keys.ensures besides.waits keeps.waits
    ∙ ap (λ (t : ℕ). first_due (max t now) besides.waits) keeps.time in
    subst (λ (keys : List Key). IfOk c.tick.result
    (λ (a : Answer). seen a ≡ tick_with terms c.args.tables.now.records c.args.place now keys)) due
    (c.tick.ensures.is terms own)
