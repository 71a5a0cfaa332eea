use Rattle.std.proofs.Common.{◌≡◌, ◌≤◌, Some, None, slice_get, refl, sym, arith}
use Rattle.timers.specs.Links.Items.{list_at, due_count}
use Rattle.timers.proofs.SlotsLemmas.DueLemmas.{count_above, count_late, count_short}
use Rattle.timers.proofs.slots.table.due_in_class.Goals as goal

pub returns-then-item-time : goal.returns-then-item-time
returns-then-item-time g c =
    let xs = list_at c.args.links.now.lists c.args.class in
    let at : slice_get xs c.args.k ≡ Some c.in-Some.item.now = sym c.in-Some.ensures.item in
    let le : c.args.k ≤ due_count c.args.time xs = omega (arith, c.due_front-count.ensures.count, c.if-count-k.false) in
    (c.in-Some.item.now, at, refl, count_above c.args.time xs c.args.k c.in-Some.item.now at c.if-item-time.true le)

pub returns-else-item-time : goal.returns-else-item-time
returns-else-item-time g c =
    let xs = list_at c.args.links.now.lists c.args.class in
    let at : slice_get xs c.args.k ≡ Some c.in-Some.item.now = sym c.in-Some.ensures.item in
    let le = count_late c.args.time xs c.args.k c.in-Some.item.now at c.if-item-time.false in
    (omega (arith, c.due_front-count.ensures.count), omega (arith, c.due_front-count.ensures.count))

pub returns-in-None : goal.returns-in-None
returns-in-None g c =
    let xs = list_at c.args.links.now.lists c.args.class in
    let at : slice_get xs c.args.k ≡ None = sym c.in-None.ensures.item in
    let le = count_short c.args.time xs c.args.k at in
    (omega (arith, c.due_front-count.ensures.count), omega (arith, c.due_front-count.ensures.count))
