use Rattle.std.proofs.Common.{sym, subst, ap, ◌∙◌, refl, arith, ℕ, List, ◌≡◌, Some}
use Rattle.timers.specs.Slots.Waits as plain
use Rattle.timers.specs.declared.keys.cells.Cell.{Cell}
use Rattle.timers.specs.Keys.Keyed.{Keyed, IsAt, IsGap, StandsFor, Steps, slot_at}
use Rattle.timers.specs.Keys.Waits.{emitted, moved_last}
use Rattle.timers.proofs.KeysLemmas.EntryLemmas.{move-step, still-step, live-of}
use Rattle.timers.proofs.KeysLemmas.KeptLemmas.{kept-moved, slot-there, read-at}
use Rattle.timers.proofs.keys.timers.KeyTimers.emit.Goals as goal

found : (c : goal.After-sent) → slot_at c.self.inside.cells.items c.args.key ≡ Some c.index.result.now.slot
found c =
    let cells = c.self.inside.cells.items in
    let at = subst (λ (v : List Cell). IsAt v c.args.key c.in-Ok.place) c.as_slice.ensures.value c.in-Ok.ensures in
    let is = read-at cells c.in-Ok.place c.index.result.now at.within c.index.ensures in
    slot-there cells c.args.key c.in-Ok.place c.self.invariant.rising at
    ∙ ap (λ (x : Cell). Some x.slot) (sym is)

step : (c : goal.After-sent) → Steps
    (record { timing = c.self.inside.timers; cells = c.self.inside.cells.items; time = c.self.inside.time })
    (record { timing = c.sent.new.self; cells = c.self.inside.cells.items; time = c.self.inside.time })
    (moved_last (emitted c.self.inside.time) c.args.key)
step c =
    let s = c.self.inside in
    let early = c.self.invariant.early in
    let time : c.sent.new.self.time ≡ s.time = let t = c.sent.ensures.time in omega arith in
    let moves = subst (λ (t : ℕ). plain.Steps s.timers c.sent.new.self
    (plain.moved_last (plain.emitted t) c.index.result.now.slot)) time c.sent.ensures.waits in
    move-step s.timers c.sent.new.self s.cells.items c.args.key c.index.result.now.slot s.time s.time
    (plain.emitted c.self.inside.time) (emitted c.self.inside.time) (λ e. refl) (λ e. refl) (found c) moves

pub sent-requires-clause-slot : goal.sent-requires-clause-slot
sent-requires-clause-slot c =
    let s = c.self.inside in
    let cells = s.cells.items in
    let inv = c.self.invariant in
    let at = subst (λ (v : List Cell). IsAt v c.args.key c.in-Ok.place) c.as_slice.ensures.value c.in-Ok.ensures in
    let is = read-at cells c.in-Ok.place c.index.result.now at.within c.index.ensures in
    live-of s.timers cells s.time c.index.result.now.slot c.args.key inv.waits c.live_is_waiting.ensures inv.stands
    (slot-there cells c.args.key c.in-Ok.place inv.rising at ∙ ap (λ (x : Cell). Some x.slot) (sym is))

pub invariant_of-self : goal.invariant_of-self
invariant_of-self c =
    let s = c.self.inside in
    let early = c.self.invariant.early in
    let time = c.sent.ensures.time in
    kept-moved s.timers c.sent.new.self s.cells.items _ s.time (moved_last (emitted c.self.inside.time) c.args.key)
    c.self.invariant
    (omega arith) c.sent.ensures.spare (step c)

pub returns-in-Ok-clause-waits : goal.returns-in-Ok-clause-waits
returns-in-Ok-clause-waits c waits st =
    let s = c.self.inside in
    subst (λ (k : Keyed). StandsFor
    (record { timing = c.sent.new.self; cells = s.cells.items; time = s.time })
    (moved_last (emitted k.time) c.args.key waits))
    c.self.view_is (step c waits (subst (λ (k : Keyed). StandsFor k waits) (sym c.self.view_is) st))

pub returns-in-Err-clause-waits : goal.returns-in-Err-clause-waits
returns-in-Err-clause-waits c waits st =
    let s = c.self.inside in
    let gap = subst (λ (v : List Cell). IsGap v c.args.key c.in-Err.field-0)
    c.as_slice.ensures.value c.in-Err.ensures in
    subst (λ (k : Keyed). StandsFor k (moved_last (emitted k.time) c.args.key waits)) c.self.view_is
    (still-step s.timers s.cells.items c.args.key s.time s.time (emitted c.self.inside.time) gap.absent waits
    (subst (λ (k : Keyed). StandsFor k waits) (sym c.self.view_is) st))
