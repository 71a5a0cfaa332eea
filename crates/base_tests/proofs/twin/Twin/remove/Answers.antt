use Rattle.std.specs.Prelude.{All}
use Rattle.std.proofs.Common.{rules, ◌≢◌, ◌<◌, length, sym, subst}
use Rattle.base_tests.proofs.TwinLemmas.{AllLive, live_of, live_at, live_removed, twin_without}
use Rattle.base_tests.proofs.twin.Twin.remove.Goals as goal

pub remove-key-requires : goal.remove-key-requires
remove-key-requires c =
    let k = c.self.invariant in
    let plain = c.self.inside.plain.items in
    let lt : c.args.i < length plain = subst (λ n. c.args.i < n) (sym c.self.view_is) c.requires in
    live_of c.live_is_waiting.ensures c.self.inside.timers k.waits c.remove-entry.result.slot k.stands
    (live_at k.waits plain c.args.i c.remove-entry.result k.live lt c.remove-entry.ensures.value)

pub invariant_of-self-else-not-are_apart : goal.invariant_of-self-else-not-are_apart
invariant_of-self-else-not-are_apart c =
    let k = c.self.invariant in
    let apart : All (λ p. p.slot ≢ c.remove-entry.result.slot) c.remove-entry.new.self.items =
    search (rules, c.if-not-are_apart.ensures) in
    twin_without c.remove-key.new.self k.waits c.remove-entry.result.slot c.remove-entry.new.self.items
    (c.remove-key.ensures.waits k.waits k.stands)
    (subst (AllLive k.waits) (sym c.remove-entry.ensures.items)
    (live_removed k.waits c.self.inside.plain.items c.args.i k.live))
    apart
