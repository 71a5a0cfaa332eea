use Rattle.rm_sides.specs.Destination.Incoming.{items}
use Rattle.node_store.proofs.WindowLemmas.{are_near-decides}
use Rattle.node_store.proofs.windows.are_near.Goals as goal

pub returns : goal.returns
returns c =
    are_near-decides c.front_is_reached.ensures (items c.args.incoming.now.facts) c.received-numbers.result.now.ranges
    c.front.result c.greatest.result c.saturating_sub.result c.ranges-ranges.ensures.canonical
    c.received-numbers.ensures.same c.front.ensures.front c.greatest.ensures.greatest c.saturating_sub.ensures
