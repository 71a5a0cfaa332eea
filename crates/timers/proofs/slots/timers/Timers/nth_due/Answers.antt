use Rattle.std.proofs.Common.{ℕ, max, option_map, slice_get, sym, ap, subst, ◌∙◌}
use Rattle.timers.specs.Slots.Waits.{Entry, Waiting, StandFor, due_at}
use Rattle.timers.specs.Slots.Table.{fronts}
use Rattle.timers.proofs.SlotsLemmas.DueLemmas.{due_seen, option_key}
use Rattle.timers.proofs.slots.timers.Timers.nth_due.Goals as goal

pub returns : goal.returns
returns c waits st =
    let s = c.self.inside in
    let time = c.max.result in
    let now = subst (λ (v : Waiting). StandFor v waits) (sym c.self.view_is) st in
    c.find_due.ensures ∙ option_key s.cells.items (slice_get (fronts time s.links.lists) c.args.k)
    ∙ ap (option_map (λ (e : Entry). e.key))
    (sym (due_seen s.cells.items s.links.lists waits time c.args.k c.self.invariant.tied.seven now.classes
    now.timed.rising))
    ∙ ap (λ (t : ℕ). option_map (λ (e : Entry). e.key) (slice_get (due_at t waits) c.args.k))
    (c.max.ensures ∙ ap (λ (v : Waiting). max v.time c.args.now) c.self.view_is)
