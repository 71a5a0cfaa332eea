use Rattle.std.proofs.Common.{◌≡◌, ℕ, List, sym, ap, subst, ◌∙◌, arith}
use Rattle.timers.specs.declared.links.links.Item.{Item}
use Rattle.timers.specs.Slots.Table.{cell_at, IsTied}
use Rattle.timers.proofs.SlotsLemmas.TableLemmas.{tied_at, left_tied}
use Rattle.timers.proofs.slots.table.take_out.Goals as goal

pub place_of-requires : goal.place_of-requires
place_of-requires g c =
    let o = c.requires.owned in
    let t = tied_at c.args.links.now.lists c.args.cells.now.items o.before o.item o.after c.requires.tied o.stands in
    let lt = t.owned in
    let has = o.has in
    omega arith

pub remove-requires : goal.remove-requires
remove-requires g c =
    let o = c.requires.owned in
    let t = tied_at c.args.links.now.lists c.args.cells.now.items o.before o.item o.after c.requires.tied o.stands in
    record {
      before = o.before;
      item = o.item;
      after = o.after;
      has = sym t.at ∙ ap (λ (j : ℕ). (cell_at c.args.cells.now.items j).at) o.has ∙ sym c.place_of.ensures;
      stands = o.stands;
    }

pub returns-clause-lists : goal.returns-clause-lists
returns-clause-lists g c before item after has stands =
    let t = tied_at c.args.links.now.lists c.args.cells.now.items before item after c.requires.tied stands in
    let slot : item.slot ≡ c.place_of.result =
    sym t.at ∙ ap (λ (j : ℕ). (cell_at c.args.cells.now.items j).at) has ∙ sym c.place_of.ensures in
    (c.remove.ensures.taken before item after slot stands).1

pub returns-clause-tied : goal.returns-clause-tied
returns-clause-tied g c =
    let o = c.requires.owned in
    let t = tied_at c.args.links.now.lists c.args.cells.now.items o.before o.item o.after c.requires.tied o.stands in
    let slot : o.item.slot ≡ c.place_of.result =
    sym t.at ∙ ap (λ (j : ℕ). (cell_at c.args.cells.now.items j).at) o.has ∙ sym c.place_of.ensures in
    let out = c.remove.ensures.taken o.before o.item o.after slot o.stands in
    subst (λ (v : List (List Item)). IsTied v c.args.cells.now.items) (sym out.1)
    (left_tied c.args.links.now.lists c.args.cells.now.items o.before o.item o.after c.requires.tied o.stands)
