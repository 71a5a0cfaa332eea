use Rattle.std.proofs.Common.{◌≡◌, ◌<◌, drop, length, ap, ◌∙◌, arith}
use Rattle.timers.specs.declared.links.links.Item.{Item}
use Rattle.timers.specs.Links.Items.{list_at}
use Rattle.timers.proofs.LinksLemmas.OldLemmas.{found, not_found, old_length, old_whole}
use Rattle.timers.proofs.LinksLemmas.WalkLemmas.{due_empty, due_not, due_here}
use Rattle.timers.proofs.links.links.Links.due_list.Goals as goal
use Rattle.timers.proofs.links.links.Links.due_list.Goals.{then-at-slots+else-item_of-now, else-at-slots}

pub returns-then-item_of-now-clause-within : goal.returns-then-item_of-now-clause-within
returns-then-item_of-now-clause-within g c =
    let len = old_length c.self.inside c.args.self.now (record { sound = c.self.invariant; is = c.self.view_is }) in
    omega arith

pub returns-then-item_of-now-clause-first : goal.returns-then-item_of-now-clause-first
returns-then-item_of-now-clause-first g c =
    let old = c.args.self.now in
    let list = c.loop-list.list in
    let len = old_length c.self.inside old (record { sound = c.self.invariant; is = c.self.view_is }) in
    let lt : list < length old.lists = omega arith in
    let f = found c.self.inside old list c.first_of_list-at.result
    (record { sound = c.self.invariant; is = c.self.view_is }) lt c.first_of_list-at.ensures c.if-at-slots.true in
    let same : c.item_of.result.now.due ≡ f.item.due = ap (λ (v : Item). v.due) (c.item_of.ensures.item ∙ f.node) in
    c.loop-list.invariant.first
    ∙ due_here c.args.now old.lists list f.item (drop 1 (list_at old.lists list)) lt f.split (omega arith)

pub returns-then-item_of-now-clause-whole : goal.returns-then-item_of-now-clause-whole
returns-then-item_of-now-clause-whole g c =
    old_whole c.self.inside c.args.self.now (record { sound = c.self.invariant; is = c.self.view_is })

pub loop-list-preserved : goal.loop-list-preserved
loop-list-preserved g c =
    let old = c.args.self.now in
    let list = c.loop-list.list in
    let len = old_length c.self.inside old (record { sound = c.self.invariant; is = c.self.view_is }) in
    let lt : list < length old.lists = omega arith in
    elim c.if-at-slots.branch [
      | then-at-slots+else-item_of-now w ↦
          let f = found c.self.inside old list c.first_of_list-at.result
          (record { sound = c.self.invariant; is = c.self.view_is }) lt c.first_of_list-at.ensures w.if-at-slots.true in
          let same : w.item_of.result.now.due ≡ f.item.due = ap (λ (v : Item). v.due)
          (w.item_of.ensures.item ∙ f.node) in
          let late : c.args.now < f.item.due = omega arith in
          record {
            first = c.loop-list.invariant.first
                ∙ due_not c.args.now old.lists list f.item (drop 1 (list_at old.lists list)) lt f.split late;
            cost = omega (arith, c.loop-list.invariant.cost, w.item_of.ensures.cost, w.steps-is);
          }
      | else-at-slots w ↦ record {
        first = c.loop-list.invariant.first
            ∙ due_empty c.args.now old.lists list lt
            (not_found c.self.inside old list c.first_of_list-at.result
            (record { sound = c.self.invariant; is = c.self.view_is }) lt c.first_of_list-at.ensures
            w.if-at-slots.false);
        cost = omega (arith, c.loop-list.invariant.cost, w.steps-is);
      }
    ]

pub returns-clause-whole : goal.returns-clause-whole
returns-clause-whole g c =
    old_whole c.self.inside c.args.self.now (record { sound = c.self.invariant; is = c.self.view_is })
