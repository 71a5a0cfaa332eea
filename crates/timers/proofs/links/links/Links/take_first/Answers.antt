use Rattle.std.proofs.Common.{◌≡◌, ℕ, [], Some, drop, set, sym, ap, subst, ◌∙◌}
use Rattle.timers.specs.declared.links.links.Item.{Item}
use Rattle.timers.specs.declared.links.links.Links.TheInside.{Inside}
use Rattle.timers.specs.Links.Items.{Contents, IsLive, Stands, TakesOut, TakesFirst, list_at, first_of}
use Rattle.timers.proofs.LinksLemmas.OldLemmas.{Found, found, not_found, old_whole}
use Rattle.timers.proofs.links.links.Links.take_first.Goals as goal

-- what was taken out as the first
record Took (old new : Contents) (list : ℕ) (item : Item) : Type 0 where
  first : Some item ≡ first_of (list_at old.lists list)
  in_list : item.list ≡ list
  stands : Stands old.lists [] item (drop 1 (list_at old.lists list))
  taken : TakesFirst old.lists new.lists list
  gone : IsLive new.lists item.slot → ⊥

took : (s : Inside) (old new : Contents) (list at : ℕ) (item : Item) → Found s old list at →
    TakesOut old.lists new.lists at item → (IsLive new.lists at → ⊥) → Took old new list item
took s old new list at item f out gone =
    let rest = drop 1 (list_at old.lists list) in
    let o = out [] f.item rest f.slot f.stands in
    record {
      first = ap Some o.0 ∙ sym (ap first_of f.split);
      in_list = ap (λ (v : Item). v.list) o.0 ∙ f.in_list;
      stands = subst (λ (v : Item). Stands old.lists [] v rest) (sym o.0) f.stands;
      taken = o.1 ∙ ap (λ (l : ℕ). set old.lists l rest) f.in_list;
      gone = subst (λ (v : ℕ). IsLive new.lists v → ⊥) (sym (ap (λ (v : Item). v.slot) o.0 ∙ f.slot)) gone;
    }

pub returns-then-at-self-clause-first : goal.returns-then-at-self-clause-first
returns-then-at-self-clause-first g c =
    sym (ap first_of (not_found c.self.inside c.args.self.now c.args.list c.first_of_list-at.result
    (record { sound = c.self.invariant; is = c.self.view_is }) c.requires c.first_of_list-at.ensures c.if-at-self.true))

pub returns-then-at-self-clause-whole : goal.returns-then-at-self-clause-whole
returns-then-at-self-clause-whole g c =
    old_whole c.self.inside c.args.self.now (record { sound = c.self.invariant; is = c.self.view_is })

pub remove-requires : goal.remove-requires
remove-requires g c =
    let f = found c.self.inside c.args.self.now c.args.list c.first_of_list-at.result
    (record { sound = c.self.invariant; is = c.self.view_is }) c.requires c.first_of_list-at.ensures
    c.if-at-self.false in
    record {
      before = [];
      item = f.item;
      after = drop 1 (list_at c.args.self.now.lists c.args.list);
      has = f.slot;
      stands = f.stands;
    }

pub returns-clause-first : goal.returns-clause-first
returns-clause-first g c =
    let f = found c.self.inside c.args.self.now c.args.list c.first_of_list-at.result
    (record { sound = c.self.invariant; is = c.self.view_is }) c.requires c.first_of_list-at.ensures
    c.if-at-self.false in
    (took c.self.inside c.args.self.now c.remove.new.self c.args.list c.first_of_list-at.result c.remove.result f
    c.remove.ensures.taken c.remove.ensures.gone).first

pub returns-clause-list : goal.returns-clause-list
returns-clause-list g c =
    let f = found c.self.inside c.args.self.now c.args.list c.first_of_list-at.result
    (record { sound = c.self.invariant; is = c.self.view_is }) c.requires c.first_of_list-at.ensures
    c.if-at-self.false in
    (took c.self.inside c.args.self.now c.remove.new.self c.args.list c.first_of_list-at.result c.remove.result f
    c.remove.ensures.taken c.remove.ensures.gone).in_list

pub returns-clause-stands : goal.returns-clause-stands
returns-clause-stands g c =
    let f = found c.self.inside c.args.self.now c.args.list c.first_of_list-at.result
    (record { sound = c.self.invariant; is = c.self.view_is }) c.requires c.first_of_list-at.ensures
    c.if-at-self.false in
    (took c.self.inside c.args.self.now c.remove.new.self c.args.list c.first_of_list-at.result c.remove.result f
    c.remove.ensures.taken c.remove.ensures.gone).stands

pub returns-clause-taken : goal.returns-clause-taken
returns-clause-taken g c =
    let f = found c.self.inside c.args.self.now c.args.list c.first_of_list-at.result
    (record { sound = c.self.invariant; is = c.self.view_is }) c.requires c.first_of_list-at.ensures
    c.if-at-self.false in
    (took c.self.inside c.args.self.now c.remove.new.self c.args.list c.first_of_list-at.result c.remove.result f
    c.remove.ensures.taken c.remove.ensures.gone).taken

pub returns-clause-gone : goal.returns-clause-gone
returns-clause-gone g c =
    let f = found c.self.inside c.args.self.now c.args.list c.first_of_list-at.result
    (record { sound = c.self.invariant; is = c.self.view_is }) c.requires c.first_of_list-at.ensures
    c.if-at-self.false in
    (took c.self.inside c.args.self.now c.remove.new.self c.args.list c.first_of_list-at.result c.remove.result f
    c.remove.ensures.taken c.remove.ensures.gone).gone
