use Rattle.std.proofs.Common.{◌≡◌, ◌-◌, ◌+◌, ap, ◌∙◌, arith, List}
use Rattle.timers.specs.declared.links.nodes.Node.{Node}
use Rattle.timers.specs.Links.Nodes.{due_along, next_of, item_at, node_at}
use Rattle.timers.proofs.LinksLemmas.WalkLemmas.{due_along_more}
use Rattle.timers.proofs.links.nodes.count_due.Goals as goal

pub loop-count-preserved : goal.loop-count-preserved
loop-count-preserved g c =
    let n = c.args.nodes.now.items in
    let m = c.loop-count.count in
    let at = c.loop-count.here in
    let node : c.read-node.result ≡ node_at n at =
    c.read-node.ensures.node ∙ ap (λ (v : List Node). node_at v at) c.deref.ensures.value in
    let next : c.read-node.result.next ≡ next_of n at = ap (λ (v : Node). v.next) node in
    let due : c.read-node.result.item.due ≡ (item_at n at).due = ap (λ (v : Node). v.item.due) node in
    let more = due_along_more n c.args.slots c.args.now c.args.limit m at c.if-here-slots.false c.loop-count-test.true
    (omega arith) in
    let same : due_along n c.args.slots c.args.now (c.args.limit - (m + 1)) c.read-node.result.next
    ≡ due_along n c.args.slots c.args.now (c.args.limit - (m + 1)) (next_of n at) =
    ap (due_along n c.args.slots c.args.now (c.args.limit - (m + 1))) next in
    record {
      count = omega (arith, c.loop-count.invariant.count);
      cost = omega (arith, c.loop-count.invariant.cost);
    }
