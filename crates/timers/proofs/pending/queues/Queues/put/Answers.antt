use Rattle.std.proofs.Common.{ap, sym, subst, ◌∙◌, ◌<◌, ◌++◌, ◌∷◌, [], length}
use Rattle.std.specs.Prelude.{slice_set}
use Rattle.timers.specs.Pending.Table.{queue_at}
use Rattle.timers.proofs.PendingLemmas.TableLemmas.{spare-is, put-kept, put-contents}
use Rattle.timers.proofs.pending.queues.Queues.put.Goals as goal

pub add-slot-requires-clause-spare : goal.add-slot-requires-clause-spare
add-slot-requires-clause-spare g c =
    let s = c.self.inside in
    spare-is s.packets.items s.links c.args.queue c.self.invariant c.requires.queue
    (subst (λ v. length (queue_at v c.args.queue) < 64) (sym c.self.view_is) c.requires.room)

pub invariant_of-self : goal.invariant_of-self
invariant_of-self g c =
    let s = c.self.inside in
    put-kept s.packets.items s.links c.add-slot.new.links c.args.queue c.add-slot.result c.args.packet
    c.self.invariant c.requires.queue
    (subst (λ v. length (queue_at v c.args.queue) < 64) (sym c.self.view_is) c.requires.room) c.add-slot.ensures

pub returns : goal.returns
returns g c =
    let s = c.self.inside in
    put-contents s.packets.items s.links c.add-slot.new.links c.args.queue c.add-slot.result c.args.packet
    c.self.invariant c.requires.queue c.add-slot.ensures
    ∙ ap (λ v. slice_set v c.args.queue (queue_at v c.args.queue ++ c.args.packet ∷ [])) c.self.view_is
