use Rattle.std.proofs.Common.{◌<◌, length, refl, sym, subst}
use Rattle.timers.specs.Slots.Waits.{put_into, moved_last}
use Rattle.base_tests.proofs.TwinLemmas.{AllLive, live_of, live_at, live_removed, moved_keeps, twin_pushed}
use Rattle.base_tests.proofs.twin.Twin.urge.Goals as goal

pub urge-requires : goal.urge-requires
urge-requires c =
    let k = c.self.invariant in
    let plain = c.self.inside.plain.items in
    let lt : c.args.i < length plain = subst (λ n. c.args.i < n) (sym c.self.view_is) c.requires in
    live_of c.live_is_waiting.ensures c.self.inside.timers k.waits c.remove-entry.result.slot k.stands
    (live_at k.waits plain c.args.i c.remove-entry.result k.live lt c.remove-entry.ensures.value)

pub invariant_of-self-2 : goal.invariant_of-self-2
invariant_of-self-2 c =
    let k = c.self.invariant in
    let plain = c.self.inside.plain.items in
    let slot = c.remove-entry.result.slot in
    let change = (put_into 0 c.self.inside.timers.time) in
    let next = moved_last change slot k.waits in
    let lt : c.args.i < length plain = subst (λ n. c.args.i < n) (sym c.self.view_is) c.requires in
    let has = live_at k.waits plain c.args.i c.remove-entry.result k.live lt c.remove-entry.ensures.value in
    let keeps = moved_keeps change (λ e. refl) slot k.waits in
    twin_pushed c.urge.new.self k.waits next c.remove-entry.new.self.items c.push.new.self.items _
    (c.urge.ensures.waits k.waits k.stands) keeps
    (subst (AllLive k.waits) (sym c.remove-entry.ensures.items) (live_removed k.waits plain c.args.i k.live))
    (keeps slot has) c.in_ok-push.ensures.items
