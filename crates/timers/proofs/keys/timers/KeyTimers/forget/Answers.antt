use Rattle.std.proofs.Common.{sym, subst, ap, ◌∙◌, cond, None, List}
use Rattle.timers.specs.declared.slots.timers.Key.{Key}
use Rattle.timers.specs.declared.keys.cells.Cell.{Cell}
use Rattle.timers.specs.Keys.Keyed.{Keyed, IsAt, IsGap, Rises, StandsFor, slot_at}
use Rattle.timers.specs.Keys.Waits.{same_key, without}
use Rattle.timers.proofs.KeysLemmas.CellLemmas.{slot_at-remove, Rises-once}
use Rattle.timers.proofs.KeysLemmas.EntryLemmas.{rest-step}
use Rattle.timers.proofs.keys.timers.KeyTimers.forget.Goals as goal

pub returns-in-Ok-clause-cells : goal.returns-in-Ok-clause-cells
returns-in-Ok-clause-cells c other =
    let place = c.in-Ok.place in
    let cells = c.args.self.now.cells in
    let at = subst (λ (k : Keyed). IsAt k.cells c.args.key place) c.self.view_is
    (subst (λ (v : List Cell). IsAt v c.args.key place) c.as_slice.ensures.value c.in-Ok.ensures) in
    let rises = subst (λ (k : Keyed). Rises k.cells) c.self.view_is c.self.invariant.rising in
    ap (λ (v : List Cell). slot_at v other) c.take_out.ensures.cells
    ∙ slot_at-remove cells place other (Rises-once cells rises) at.within
    ∙ ap (λ (k : Key). cond (same_key k other) None (slot_at cells other)) at.key_is

pub returns-in-Err-clause-waits : goal.returns-in-Err-clause-waits
returns-in-Err-clause-waits c waits st =
    let s = c.self.inside in
    let gap = subst (λ (v : List Cell). IsGap v c.args.key c.in-Err.field-0)
    c.as_slice.ensures.value c.in-Err.ensures in
    subst (λ (k : Keyed). StandsFor k (without c.args.key waits)) c.self.view_is
    (rest-step s.timers s.cells.items c.args.key s.time s.time gap.absent waits
    (subst (λ (k : Keyed). StandsFor k waits) (sym c.self.view_is) st))
