use Rattle.std.specs.List.{remove}
use Rattle.std.proofs.Common.{ap, ◌∙◌, sym, subst, List, ◌<◌, length, arith}
use Rattle.timers.specs.Slots.Waits.{IsLive}
use Rattle.timers.specs.Slots.Waits as plain
use Rattle.timers.specs.declared.keys.cells.Cell.{Cell}
use Rattle.timers.specs.Keys.Keyed.{Keyed, Rises, StandsFor, cell_at, slot_at}
use Rattle.timers.specs.Keys.Waits.{without}
use Rattle.timers.proofs.KeysLemmas.CellLemmas.{slot_at-found, slot_at-remove, Rises-once}
use Rattle.timers.proofs.KeysLemmas.EntryLemmas.{take-step, live-of}
use Rattle.timers.proofs.KeysLemmas.KeptLemmas.{kept-take, read-at}
use Rattle.timers.proofs.keys.timers.KeyTimers.take_out.Goals as goal

pub remove-requires : goal.remove-requires
remove-requires c =
    let s = c.self.inside in
    let inv = c.self.invariant in
    let cells = s.cells.items in
    let lt = subst (λ (k : Keyed). c.args.place < length k.cells) (sym c.self.view_is) c.requires.place in
    let is = read-at cells c.args.place c.remove-cell.result lt c.remove-cell.ensures.value in
    subst (λ (x : Cell). IsLive s.timers x.slot) (sym is)
    (live-of s.timers cells s.time (cell_at cells c.args.place).slot (cell_at cells c.args.place).key inv.waits
    c.live_is_waiting.ensures inv.stands (slot_at-found cells c.args.place (Rises-once cells inv.rising) lt))

pub invariant_of-self : goal.invariant_of-self
invariant_of-self c =
    let s = c.self.inside in
    let cells = s.cells.items in
    let lt = subst (λ (k : Keyed). c.args.place < length k.cells) (sym c.self.view_is) c.requires.place in
    let is = read-at cells c.args.place c.remove-cell.result lt c.remove-cell.ensures.value in
    let step = subst (λ (x : Cell). plain.Steps s.timers c.remove.new.self (plain.without x.slot)) is
    c.remove.ensures.waits in
    let room = c.remove-cell.ensures.capacity in
    kept-take s.timers c.remove.new.self cells c.remove-cell.new.self.items _ _ c.args.place s.time c.self.invariant lt
    c.remove-cell.ensures.items step c.remove.ensures.time c.remove.ensures.spare (omega arith)

pub returns-clause-waits : goal.returns-clause-waits
returns-clause-waits c waits st =
    let s = c.self.inside in
    let cells = s.cells.items in
    let lt = subst (λ (k : Keyed). c.args.place < length k.cells) (sym c.self.view_is) c.requires.place in
    let is = read-at cells c.args.place c.remove-cell.result lt c.remove-cell.ensures.value in
    let step = subst (λ (x : Cell). plain.Steps s.timers c.remove.new.self (plain.without x.slot)) is
    c.remove.ensures.waits in
    subst (λ (k : Keyed). StandsFor
    (record { timing = c.remove.new.self; cells = c.remove-cell.new.self.items; time = s.time })
    (without (cell_at k.cells c.args.place).key waits)) c.self.view_is
    (subst (λ (v : List Cell). StandsFor (record { timing = c.remove.new.self; cells = v; time = s.time })
    (without (cell_at cells c.args.place).key waits)) (sym c.remove-cell.ensures.items)
    (take-step s.timers c.remove.new.self cells c.args.place s.time c.self.invariant.rising lt step waits
    (subst (λ (k : Keyed). StandsFor k waits) (sym c.self.view_is) st)))

pub returns-clause-found : goal.returns-clause-found
returns-clause-found c other =
    let s = c.self.inside in
    let cells = c.args.self.now.cells in
    let rises = subst (λ (k : Keyed). Rises k.cells) c.self.view_is c.self.invariant.rising in
    let same = ap (λ (k : Keyed). remove k.cells c.args.place) c.self.view_is in
    ap (λ (v : List Cell). slot_at v other) (c.remove-cell.ensures.items ∙ same)
    ∙ slot_at-remove cells c.args.place other (Rises-once cells rises) c.requires.place
