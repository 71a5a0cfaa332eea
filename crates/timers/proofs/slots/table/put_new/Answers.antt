use Rattle.std.proofs.Common.{List, sym, subst}
use Rattle.timers.specs.declared.links.links.Item.{Item}
use Rattle.timers.specs.declared.slots.table.Cell.{Cell}
use Rattle.timers.specs.Slots.Table.{IsTied, with_new}
use Rattle.timers.proofs.SlotsLemmas.TableLemmas.{new_tied}
use Rattle.timers.proofs.slots.table.put_new.Goals as goal

pub returns-clause-tied : goal.returns-clause-tied
returns-clause-tied g c =
    let cell : Cell = record { key = c.args.key; at = c.add-at.result } in
    subst (λ (v : List (List Item)). IsTied v c.set_cell.new.cells.items) (sym c.add-at.ensures.put)
    (subst (λ (v : List Cell). IsTied (with_new c.args.links.now.lists c.args.slot c.add-at.result) v)
    (sym c.set_cell.ensures)
    (new_tied c.args.links.now.lists c.args.cells.now.items cell c.args.slot c.requires.tied c.requires.slot
    c.requires.free))
