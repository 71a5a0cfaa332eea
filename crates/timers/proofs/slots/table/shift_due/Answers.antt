use Rattle.std.proofs.Common.{◌≡◌, ℕ, List, [], ◌∷◌, ◌++◌, false, Some, option_map, drop, sym, ap, subst, ◌∙◌, arith}
use Rattle.std.proofs.Common.{set}
use Rattle.timers.specs.declared.links.links.Item.{Item}
use Rattle.timers.specs.Links.Items.{Stands, IsLive, list_at}
use Rattle.timers.specs.declared.slots.table.Cell.{Cell}
use Rattle.timers.specs.Slots.Table.{cell_at, with_at, IsTied, left_of, shifted, class_after}
use Rattle.timers.specs.Slots.Waits.{due_in}
use Rattle.timers.proofs.SlotsLemmas.TableLemmas.{tied_at, shifted_tied}
use Rattle.timers.proofs.slots.table.shift_due.Goals as goal

pub overflow_cast-slot : goal.overflow_cast-slot
overflow_cast-slot g c =
    let item = c.in-Some.item in
    let t = tied_at c.args.links.now.lists c.args.cells.now.items [] item
    (drop 1 (list_at c.args.links.now.lists item.list))
    c.requires.tied c.in-Some.ensures.stands in
    let small = c.requires.tied.small in
    let lt = t.owned in
    omega arith

pub next_class-class-requires : goal.next_class-class-requires
next_class-class-requires g c =
    let seven = c.requires.tied.seven in
    let lt = c.in-Some.ensures.stands.within in
    omega arith

pub set_place-requires : goal.set_place-requires
set_place-requires g c =
    let item = c.in-Some.item in
    (tied_at c.args.links.now.lists c.args.cells.now.items [] item (drop 1 (list_at c.args.links.now.lists item.list))
    c.requires.tied c.in-Some.ensures.stands).owned

pub key_of-key-requires : goal.key_of-key-requires
key_of-key-requires g c =
    let item = c.in-Some.item in
    (tied_at c.args.links.now.lists c.args.cells.now.items [] item (drop 1 (list_at c.args.links.now.lists item.list))
    c.requires.tied c.in-Some.ensures.stands).owned

pub returns-in-Some-clause-key : goal.returns-in-Some-clause-key
returns-in-Some-clause-key g c =
    ap Some c.key_of-key.ensures
    ∙ ap (option_map (λ (i : Item). (cell_at c.args.cells.now.items i.key).key)) c.in-Some.ensures.first

pub returns-in-Some-clause-moved : goal.returns-in-Some-clause-moved
returns-in-Some-clause-moved g c item first =
    let lists = c.args.links.now.lists in
    let same : c.in-Some.item ≡ item = cc (c.in-Some.ensures.first, first) in
    let l = c.in-Some.item.list in
    let rest = drop 1 (list_at lists l) in
    let class : c.next_class-class.result ≡ class_after false l = c.next_class-class.ensures.value in
    let push : List (List Item) → ℕ → ℕ → List (List Item) =
    λ v k d. set v k (list_at v k ++ record {
      slot = c.add-at.result;
      list = k;
      key = c.in-Some.item.key;
      due =
          d;
    } ∷ []) in
    let new : c.add-at.new.self.lists ≡ shifted lists [] c.in-Some.item rest (class_after false l)
    (due_in (class_after false l) c.args.time) c.add-at.result =
    c.add-at.ensures.put
    ∙ ap (λ (v : List (List Item)). push v c.next_class-class.result c.due_of.result) c.in-Some.ensures.taken
    ∙ ap (push (left_of lists [] c.in-Some.item rest) c.next_class-class.result) c.due_of.ensures
    ∙ ap (λ (k : ℕ). push (left_of lists [] c.in-Some.item rest) k (due_in k c.args.time)) class in (
      c.add-at.result,
      subst (λ (i : Item). Stands lists [] i (drop 1 (list_at lists i.list))) same c.in-Some.ensures.stands,
      new ∙ ap (λ (i : Item). shifted lists [] i (drop 1 (list_at lists i.list)) (class_after false i.list)
          (due_in (class_after false i.list) c.args.time) c.add-at.result) same,
      c.set_place.ensures ∙ ap (λ (i : Item). with_at c.args.cells.now.items i.key c.add-at.result) same,
    )

pub returns-in-Some-clause-tied : goal.returns-in-Some-clause-tied
returns-in-Some-clause-tied g c =
    let lists = c.args.links.now.lists in
    let item = c.in-Some.item in
    let l = item.list in
    let rest = drop 1 (list_at lists l) in
    let six = c.next_class-class.ensures.within in
    let gone : IsLive (left_of lists [] item rest) item.slot → ⊥ =
    subst (λ (v : List (List Item)). IsLive v item.slot → ⊥) c.in-Some.ensures.taken c.in-Some.ensures.gone in
    let push : List (List Item) → ℕ → ℕ → List (List Item) =
    λ v k d. set v k (list_at v k ++ record { slot = c.add-at.result; list = k; key = item.key; due = d } ∷ []) in
    let new = c.add-at.ensures.put
    ∙ ap (λ (v : List (List Item)). push v c.next_class-class.result c.due_of.result) c.in-Some.ensures.taken in
    let tied = shifted_tied lists c.args.cells.now.items [] item rest c.next_class-class.result c.due_of.result
    c.add-at.result
    c.requires.tied c.in-Some.ensures.stands gone (omega arith) in
    subst (λ (v : List (List Item)). IsTied v c.set_place.new.cells.items) (sym new)
    (subst (λ (v : List Cell). IsTied (shifted lists [] item rest c.next_class-class.result c.due_of.result
    c.add-at.result) v)
    (sym c.set_place.ensures) tied)
