use Rattle.std.proofs.Common.{◌≡◌, length, ℕ, List, [], ◌∷◌, ◌++◌, sym, ap, ap₂, subst, ◌∙◌, arith, set, length-set}
use Rattle.timers.specs.declared.links.links.Item.{Item}
use Rattle.timers.specs.Links.Items.{IsLive, list_at}
use Rattle.timers.specs.declared.slots.table.Cell.{Cell}
use Rattle.timers.specs.Slots.Table.{cell_at, with_at, IsTied, left_of, shifted, class_after}
use Rattle.timers.specs.Slots.Waits.{due_in}
use Rattle.timers.proofs.SlotsLemmas.TableLemmas.{tied_at, shifted_tied}
use Rattle.timers.proofs.slots.table.shift.Goals as goal

pub place_of-requires : goal.place_of-requires
place_of-requires g c =
    let o = c.requires.owned in
    let t = tied_at c.args.links.now.lists c.args.cells.now.items o.before o.item o.after c.requires.tied o.stands in
    let lt = t.owned in
    let has = o.has in
    omega arith

pub remove-item-requires : goal.remove-item-requires
remove-item-requires g c =
    let o = c.requires.owned in
    let t = tied_at c.args.links.now.lists c.args.cells.now.items o.before o.item o.after c.requires.tied o.stands in
    record {
      before = o.before;
      item = o.item;
      after = o.after;
      has = sym t.at ∙ ap (λ (j : ℕ). (cell_at c.args.cells.now.items j).at) o.has ∙ sym c.place_of.ensures;
      stands = o.stands;
    }

pub next_class-class-requires : goal.next_class-class-requires
next_class-class-requires g c =
    let o = c.requires.owned in
    let t = tied_at c.args.links.now.lists c.args.cells.now.items o.before o.item o.after c.requires.tied o.stands in
    let slot : o.item.slot ≡ c.place_of.result =
    sym t.at ∙ ap (λ (j : ℕ). (cell_at c.args.cells.now.items j).at) o.has ∙ sym c.place_of.ensures in
    let out = c.remove-item.ensures.taken o.before o.item o.after slot o.stands in
    let same : c.remove-item.result.list ≡ o.item.list = ap (λ (v : Item). v.list) out.0 in
    let within = o.stands.within in
    let seven = c.requires.tied.seven in
    omega arith

pub add-at-requires-clause-list : goal.add-at-requires-clause-list
add-at-requires-clause-list g c =
    let o = c.requires.owned in
    let t = tied_at c.args.links.now.lists c.args.cells.now.items o.before o.item o.after c.requires.tied o.stands in
    let slot : o.item.slot ≡ c.place_of.result =
    sym t.at ∙ ap (λ (j : ℕ). (cell_at c.args.cells.now.items j).at) o.has ∙ sym c.place_of.ensures in
    let out = c.remove-item.ensures.taken o.before o.item o.after slot o.stands in
    let len : length c.remove-item.new.self.lists ≡ length c.args.links.now.lists =
    ap length out.1 ∙ length-set c.args.links.now.lists o.item.list (o.before ++ o.after) in
    let seven = c.requires.tied.seven in
    let six = c.next_class-class.ensures.within in
    omega arith

pub set_place-requires : goal.set_place-requires
set_place-requires g c =
    let o = c.requires.owned in
    let t = tied_at c.args.links.now.lists c.args.cells.now.items o.before o.item o.after c.requires.tied o.stands in
    let lt = t.owned in
    let has = o.has in
    omega arith

pub returns-clause-lists : goal.returns-clause-lists
returns-clause-lists g c before item after has stands =
    let t = tied_at c.args.links.now.lists c.args.cells.now.items before item after c.requires.tied stands in
    let slot : item.slot ≡ c.place_of.result =
    sym t.at ∙ ap (λ (j : ℕ). (cell_at c.args.cells.now.items j).at) has ∙ sym c.place_of.ensures in
    let out = c.remove-item.ensures.taken before item after slot stands in
    let class : c.next_class-class.result ≡ class_after c.args.urged item.list =
    c.next_class-class.ensures.value ∙ ap (λ (v : Item). class_after c.args.urged v.list) out.0 in
    let due : c.due_of.result ≡ due_in (class_after c.args.urged item.list) c.args.time =
    c.due_of.ensures ∙ ap (λ (k : ℕ). due_in k c.args.time) class in
    let push : List (List Item) → ℕ → ℕ → ℕ → List (List Item) =
    λ v k d key. set v k (list_at v k ++ record { slot = c.add-at.result; list = k; key = key; due = d } ∷ []) in
    c.add-at.ensures.put
    ∙ ap (λ (v : List (List Item)). push v c.next_class-class.result c.due_of.result c.args.slot) out.1
    ∙ ap₂ (λ (k d : ℕ). push (left_of c.args.links.now.lists before item after) k d c.args.slot) class due
    ∙ ap (push (left_of c.args.links.now.lists before item after) (class_after c.args.urged item.list)
    (due_in (class_after c.args.urged item.list) c.args.time)) (sym has)

pub returns-clause-tied : goal.returns-clause-tied
returns-clause-tied g c =
    let o = c.requires.owned in
    let t = tied_at c.args.links.now.lists c.args.cells.now.items o.before o.item o.after c.requires.tied o.stands in
    let slot : o.item.slot ≡ c.place_of.result =
    sym t.at ∙ ap (λ (j : ℕ). (cell_at c.args.cells.now.items j).at) o.has ∙ sym c.place_of.ensures in
    let out = c.remove-item.ensures.taken o.before o.item o.after slot o.stands in
    let class : c.next_class-class.result ≡ class_after c.args.urged o.item.list =
    c.next_class-class.ensures.value ∙ ap (λ (v : Item). class_after c.args.urged v.list) out.0 in
    let six = c.next_class-class.ensures.within in
    let gone : IsLive (left_of c.args.links.now.lists o.before o.item o.after) o.item.slot → ⊥ =
    subst (λ (v : List (List Item)). IsLive v o.item.slot → ⊥) out.1
    (subst (λ (s : ℕ). IsLive c.remove-item.new.self.lists s → ⊥) (sym slot) c.remove-item.ensures.gone) in
    let new = returns-clause-lists g c o.before o.item o.after o.has o.stands in
    let due = due_in (class_after c.args.urged o.item.list) c.args.time in
    let tied = shifted_tied c.args.links.now.lists c.args.cells.now.items o.before o.item o.after
    (class_after c.args.urged o.item.list) due c.add-at.result c.requires.tied o.stands gone (omega arith) in
    subst (λ (v : List (List Item)). IsTied v c.set_place.new.cells.items) (sym new)
    (subst (λ (v : List Cell). IsTied (shifted c.args.links.now.lists o.before o.item o.after
    (class_after c.args.urged o.item.list) due c.add-at.result) v)
    (sym (c.set_place.ensures ∙ ap (λ (s : ℕ). with_at c.args.cells.now.items s c.add-at.result) (sym o.has))) tied)
