use Rattle.timers.proofs.LinksLemmas.BuildLemmas.{built_seen}
use Rattle.timers.proofs.links.links.Links.with_slots.Goals as goal

pub returns-clause-lists : goal.returns-clause-lists
returns-clause-lists c = built_seen c.free_all.new.nodes.items c.args.slots c.args.lists c.free_all.ensures
