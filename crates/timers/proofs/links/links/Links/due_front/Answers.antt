use Rattle.std.proofs.Common.{◌∙◌}
use Rattle.timers.proofs.LinksLemmas.OldLemmas.{old_due}
use Rattle.timers.proofs.links.links.Links.due_front.Goals as goal

pub returns-clause-count : goal.returns-clause-count
returns-clause-count g c =
    c.count_due.ensures.count
    ∙ old_due c.self.inside c.args.self.now c.args.list c.args.now c.args.limit c.first_of_list-first.result
    (record { sound = c.self.invariant; is = c.self.view_is }) c.requires c.first_of_list-first.ensures
