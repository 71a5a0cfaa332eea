use Rattle.timers.proofs.LinksLemmas.OldLemmas.{old_whole}
use Rattle.timers.proofs.links.links.Links.spare.Goals as goal

pub returns-clause-whole : goal.returns-clause-whole
returns-clause-whole c =
    old_whole c.self.inside c.args.self.now (record { sound = c.self.invariant; is = c.self.view_is })
