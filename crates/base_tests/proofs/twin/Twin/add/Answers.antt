use Rattle.base_tests.proofs.TwinLemmas.{twin_kept, twin_pushed, begun_keeps, begun_has}
use Rattle.timers.specs.Slots.Waits.{begun}
use Rattle.base_tests.proofs.twin.Twin.add.Goals as goal

pub invariant_of-self : goal.invariant_of-self
invariant_of-self c =
    let w = c.self.invariant.waits in
    let slot = c.add-slot.result in
    twin_kept c.add-slot.new.self w (begun slot c.args.key w) c.self.inside.plain.items c.push.new.self.items
    (c.add-slot.ensures.waits w c.self.invariant.stands) (begun_keeps slot c.args.key w) c.self.invariant.live
    c.in_err-push.ensures.items

pub invariant_of-self-2 : goal.invariant_of-self-2
invariant_of-self-2 c =
    let w = c.self.invariant.waits in
    let slot = c.add-slot.result in
    twin_pushed c.add-slot.new.self w (begun slot c.args.key w) c.self.inside.plain.items c.push.new.self.items _
    (c.add-slot.ensures.waits w c.self.invariant.stands) (begun_keeps slot c.args.key w) c.self.invariant.live
    (begun_has slot c.args.key w) c.in_ok-push.ensures.items
