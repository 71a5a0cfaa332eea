use Rattle.std.proofs.Common.{ap, ◌∙◌, length}
use Rattle.std.specs.Prelude.{is_some, nat_lt}
use Rattle.timers.specs.Pending.Table.{queue_at}
use Rattle.timers.proofs.PendingLemmas.TableLemmas.{has-is}
use Rattle.timers.proofs.pending.queues.Queues.has.Goals as goal

pub returns : goal.returns
returns g c =
    let s = c.self.inside in
    c.is_some.ensures ∙ ap is_some c.nth.ensures
    ∙ has-is s.packets.items s.links c.args.queue c.args.count c.self.invariant c.requires.queue
    ∙ ap (λ v. nat_lt c.args.count (length (queue_at v c.args.queue))) c.self.view_is
