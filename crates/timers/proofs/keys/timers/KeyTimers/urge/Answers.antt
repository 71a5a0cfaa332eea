use Rattle.std.proofs.Common.{sym, subst, ap, ◌∙◌, refl, arith, List, ◌≡◌, Some}
use Rattle.timers.specs.Slots.Waits as plain
use Rattle.timers.specs.declared.keys.cells.Cell.{Cell}
use Rattle.timers.specs.Keys.Keyed.{Keyed, IsAt, IsGap, StandsFor, Steps, slot_at}
use Rattle.timers.specs.Keys.Waits.{put_into, moved_last}
use Rattle.timers.proofs.KeysLemmas.EntryLemmas.{move-step, still-step, live-of}
use Rattle.timers.proofs.KeysLemmas.KeptLemmas.{kept-moved, slot-there, read-at}
use Rattle.timers.proofs.keys.timers.KeyTimers.urge.Goals as goal

found : (c : goal.After-urge) → slot_at c.self.inside.cells.items c.args.key ≡ Some c.index.result.now.slot
found c =
    let cells = c.self.inside.cells.items in
    let at = subst (λ (v : List Cell). IsAt v c.args.key c.in-Ok.place) c.as_slice.ensures.value c.in-Ok.ensures in
    let is = read-at cells c.in-Ok.place c.index.result.now at.within c.index.ensures in
    slot-there cells c.args.key c.in-Ok.place c.self.invariant.rising at
    ∙ ap (λ (x : Cell). Some x.slot) (sym is)

step : (c : goal.After-urge) → Steps
    (record { timing = c.self.inside.timers; cells = c.self.inside.cells.items; time = c.self.inside.time })
    (record { timing = c.urge.new.self; cells = c.self.inside.cells.items; time = c.self.inside.time })
    (moved_last (put_into 0 0) c.args.key)
step c =
    let s = c.self.inside in
    let moves = c.urge.ensures.waits in
    move-step s.timers c.urge.new.self s.cells.items c.args.key c.index.result.now.slot s.time s.time
    (plain.put_into 0 c.self.inside.timers.time) (put_into 0 0) (λ e. refl) (λ e. refl) (found c) moves

pub urge-requires : goal.urge-requires
urge-requires c =
    let s = c.self.inside in
    let cells = s.cells.items in
    let inv = c.self.invariant in
    let at = subst (λ (v : List Cell). IsAt v c.args.key c.in-Ok.place) c.as_slice.ensures.value c.in-Ok.ensures in
    let is = read-at cells c.in-Ok.place c.index.result.now at.within c.index.ensures in
    live-of s.timers cells s.time c.index.result.now.slot c.args.key inv.waits c.live_is_waiting.ensures inv.stands
    (slot-there cells c.args.key c.in-Ok.place inv.rising at ∙ ap (λ (x : Cell). Some x.slot) (sym is))

pub invariant_of-self : goal.invariant_of-self
invariant_of-self c =
    let s = c.self.inside in
    let early = c.self.invariant.early in
    let time = c.urge.ensures.time in
    kept-moved s.timers c.urge.new.self s.cells.items _ s.time (moved_last (put_into 0 0) c.args.key) c.self.invariant
    (omega arith) c.urge.ensures.spare (step c)

pub returns-in-Ok-clause-waits : goal.returns-in-Ok-clause-waits
returns-in-Ok-clause-waits c waits st =
    let s = c.self.inside in
    subst (λ (k : Keyed). StandsFor
    (record { timing = c.urge.new.self; cells = s.cells.items; time = s.time })
    (moved_last (put_into 0 0) c.args.key waits))
    c.self.view_is (step c waits (subst (λ (k : Keyed). StandsFor k waits) (sym c.self.view_is) st))

pub returns-in-Err-clause-waits : goal.returns-in-Err-clause-waits
returns-in-Err-clause-waits c waits st =
    let s = c.self.inside in
    let gap = subst (λ (v : List Cell). IsGap v c.args.key c.in-Err.field-0)
    c.as_slice.ensures.value c.in-Err.ensures in
    subst (λ (k : Keyed). StandsFor k (moved_last (put_into 0 0) c.args.key waits)) c.self.view_is
    (still-step s.timers s.cells.items c.args.key s.time s.time (put_into 0 0) gap.absent waits
    (subst (λ (k : Keyed). StandsFor k waits) (sym c.self.view_is) st))
