use Rattle.timers.proofs.PendingLemmas.TableLemmas.{new-kept, new-contents}
use Rattle.timers.proofs.pending.queues.Queues.new.Goals as goal

pub invariant_of-result : goal.invariant_of-result
invariant_of-result g c = new-kept c.in_ok-packets.packets.items c.in_ok-links.links (c.in_ok-packets.ensures)
    (c.in_ok-links.ensures.lists) (c.in_ok-links.ensures.slots) c.spare.ensures.whole

pub returns : goal.returns
returns g c = new-contents c.in_ok-packets.packets.items c.in_ok-links.links.lists (c.in_ok-links.ensures.lists)
