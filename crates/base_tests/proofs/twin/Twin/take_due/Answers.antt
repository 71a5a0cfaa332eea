use Rattle.std.proofs.Common.{slice_get, refl, sym, subst}
use Rattle.timers.specs.Slots.Waits.{with_emitted, due_at}
use Rattle.base_tests.proofs.TwinLemmas.{AllLive, live_at, live_removed, emitted_keeps, twin_kept, twin_pushed}
use Rattle.base_tests.proofs.twin.Twin.take_due.Goals as goal

pub invariant_of-self-in-Some : goal.invariant_of-self-in-Some
invariant_of-self-in-Some c =
    let k = c.self.invariant in
    let plain = c.self.inside.plain.items in
    let time = c.take_due-key.new.self.time in
    let first = slice_get (due_at time k.waits) 0 in
    let keeps = emitted_keeps time first k.waits in
    let has = live_at k.waits plain c.in-Some.i c.remove-entry.result k.live c.in-Some.ensures
    c.remove-entry.ensures.value in
    twin_pushed c.take_due-key.new.self k.waits (with_emitted time first k.waits) c.remove-entry.new.self.items
    c.push.new.self.items _ (c.take_due-key.ensures.waits k.waits k.stands) keeps
    (subst (AllLive k.waits) (sym c.remove-entry.ensures.items) (live_removed k.waits plain c.in-Some.i k.live))
    (keeps c.remove-entry.result.slot has) c.in_ok-push-in-Some.ensures.items

pub invariant_of-self-in-None : goal.invariant_of-self-in-None
invariant_of-self-in-None c =
    let k = c.self.invariant in
    let plain = c.self.inside.plain.items in
    let time = c.take_due-key.new.self.time in
    let first = slice_get (due_at time k.waits) 0 in
    twin_kept c.take_due-key.new.self k.waits (with_emitted time first k.waits) plain plain
    (c.take_due-key.ensures.waits k.waits k.stands) (emitted_keeps time first k.waits) k.live refl
