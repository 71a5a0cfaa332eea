use Rattle.std.proofs.Common.{◌≡◌, ℕ, ◌+◌, ◌-◌, ◌<◌, arith, sym, ap, subst, List, length}
use Rattle.timers.specs.declared.links.links.Item.{Item}
use Rattle.timers.specs.declared.links.links.Links.TheInside.{Inside}
use Rattle.timers.specs.declared.links.nodes.Node.{Node}
use Rattle.timers.specs.Links.Items.{Contents, IsLive, PutsLast}
use Rattle.timers.specs.Links.Nodes.{next_of, IsSound}
use Rattle.timers.proofs.LinksLemmas.OldLemmas.{AreSeen}
use Rattle.timers.proofs.LinksLemmas.ShownLemmas.{seen, IsAdded, added, in_lists, free_is_slot}
use Rattle.timers.proofs.LinksLemmas.WholeLemmas.{whole_of}
use Rattle.timers.proofs.links.links.Links.add.Goals as goal

-- what the slots say of the call
now_added : (s : Inside) (old : Contents) (list key due at : ℕ) → AreSeen s old → 0 < old.spare →
    list < length old.lists →
    at ≡ next_of s.nodes.items (s.slots + s.lists) →
    IsAdded s.nodes.items s.slots s.lists s.spare (record { slot = at; list = list; key = key; due = due })
now_added s old list key due at are some lt first =
    let item : Item = record { slot = at; list = list; key = key; due = due } in
    added s.nodes.items s.slots s.lists s.spare item are.sound (subst (λ (c : Contents). 0 < c.spare) (sym are.is) some)
    (in_lists s.nodes.items s.slots s.lists list (subst (λ (c : Contents). list < length c.lists) (sym are.is) lt))
    first

pub overflow_cast-slot : goal.overflow_cast-slot
overflow_cast-slot g c =
    let some : 0 < c.self.inside.spare = subst (λ (v : Contents). 0 < v.spare) (sym c.self.view_is) c.requires.spare in
    let lt = free_is_slot c.self.inside.nodes.items c.self.inside.slots c.self.inside.lists c.self.inside.spare
    c.self.invariant some in
    let at = c.first_of_list-at.ensures in
    let fits = c.self.ranges in
    omega arith

pub shift-requires : goal.shift-requires
shift-requires g c = (now_added c.self.inside c.args.self.now c.args.list c.args.key c.args.due
    c.first_of_list-at.result
    (record { sound = c.self.invariant; is = c.self.view_is }) c.requires.spare c.requires.list
    c.first_of_list-at.ensures).can

pub invariant_of-self : goal.invariant_of-self
invariant_of-self g c =
    subst (λ (m : List Node). IsSound m c.self.inside.slots c.self.inside.lists (c.self.inside.spare - 1))
    (sym c.shift.ensures.nodes)
    (now_added c.self.inside c.args.self.now c.args.list c.args.key c.args.due c.first_of_list-at.result
    (record { sound = c.self.invariant; is = c.self.view_is }) c.requires.spare c.requires.list
    c.first_of_list-at.ensures).sound

pub returns-clause-is_free : goal.returns-clause-is_free
returns-clause-is_free g c =
    subst (λ (v : Contents). IsLive v.lists c.first_of_list-at.result → ⊥) c.self.view_is
    (now_added c.self.inside c.args.self.now c.args.list c.args.key c.args.due c.first_of_list-at.result
    (record { sound = c.self.invariant; is = c.self.view_is }) c.requires.spare c.requires.list
    c.first_of_list-at.ensures).is_free

pub returns-clause-put : goal.returns-clause-put
returns-clause-put g c =
    let s = c.self.inside in
    let item : Item =
    record { slot = c.first_of_list-at.result; list = c.args.list; key = c.args.key; due = c.args.due } in
    subst (λ (v : Contents). PutsLast v.lists (seen c.shift.new.nodes.items s.slots s.lists) item) c.self.view_is
    (subst (λ (k : List Node). PutsLast (seen s.nodes.items s.slots s.lists) (seen k s.slots s.lists) item)
    (sym c.shift.ensures.nodes)
    (now_added s c.args.self.now c.args.list c.args.key c.args.due c.first_of_list-at.result
    (record { sound = c.self.invariant; is = c.self.view_is }) c.requires.spare c.requires.list
    c.first_of_list-at.ensures).put)

pub returns-clause-spare : goal.returns-clause-spare
returns-clause-spare g c =
    let some : 0 < c.self.inside.spare = subst (λ (v : Contents). 0 < v.spare) (sym c.self.view_is) c.requires.spare in
    let same : c.self.inside.spare ≡ c.args.self.now.spare = ap (λ (v : Contents). v.spare) c.self.view_is in
    omega arith

pub returns-clause-whole : goal.returns-clause-whole
returns-clause-whole g c =
    let s = c.self.inside in
    whole_of c.shift.new.nodes.items s.slots s.lists (s.spare - 1)
    (subst (λ (m : List Node). IsSound m s.slots s.lists (s.spare - 1)) (sym c.shift.ensures.nodes)
    (now_added s c.args.self.now c.args.list c.args.key c.args.due c.first_of_list-at.result
    (record { sound = c.self.invariant; is = c.self.view_is }) c.requires.spare c.requires.list
    c.first_of_list-at.ensures).sound)
