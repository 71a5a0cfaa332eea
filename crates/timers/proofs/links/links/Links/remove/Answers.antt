use Rattle.std.proofs.Common.{◌≡◌, ℕ, ◌+◌, ◌++◌, arith, refl, sym, ap, subst, ◌∙◌, List, set}
use Rattle.timers.specs.declared.links.links.Links.TheInside.{Inside}
use Rattle.timers.specs.declared.links.nodes.Node.{Node}
use Rattle.timers.specs.Links.Items.{Contents, IsLive, Stands}
use Rattle.timers.specs.Links.Nodes.{IsSound}
use Rattle.timers.proofs.LinksLemmas.OldLemmas.{AreSeen}
use Rattle.timers.proofs.LinksLemmas.ShownLemmas.{seen, IsRemoved, removed, removed_at}
use Rattle.timers.proofs.LinksLemmas.WholeLemmas.{whole_of}
use Rattle.timers.proofs.links.links.Links.remove.Goals as goal

-- what the slots say of the call
now_removed : (s : Inside) (old : Contents) (slot : ℕ) → AreSeen s old → IsLive old.lists slot →
    IsRemoved s.nodes.items s.slots s.lists s.spare slot (record { slot = slot; list = s.lists; key = 0; due = 0 })
now_removed s old slot are live =
    removed s.nodes.items s.slots s.lists s.spare (record { slot = slot; list = s.lists; key = 0; due = 0 }) are.sound
    refl
    (subst (λ (v : Contents). IsLive v.lists slot) (sym are.is) live)

pub overflow_add-self : goal.overflow_add-self
overflow_add-self g c =
    let room = (now_removed c.self.inside c.args.self.now c.args.slot
    (record { sound = c.self.invariant; is = c.self.view_is }) c.requires).room in
    omega arith

pub shift-requires : goal.shift-requires
shift-requires g c = (now_removed c.self.inside c.args.self.now c.args.slot
    (record { sound = c.self.invariant; is = c.self.view_is }) c.requires).can

pub invariant_of-self : goal.invariant_of-self
invariant_of-self g c =
    subst (λ (m : List Node). IsSound m c.self.inside.slots c.self.inside.lists (c.self.inside.spare + 1))
    (sym c.shift.ensures.nodes)
    (now_removed c.self.inside c.args.self.now c.args.slot (record { sound = c.self.invariant; is = c.self.view_is })
    c.requires).sound

pub returns-clause-taken : goal.returns-clause-taken
returns-clause-taken g c before item after has stands =
    let s = c.self.inside in
    let st : Stands (seen s.nodes.items s.slots s.lists) before item after =
    subst (λ (v : Contents). Stands v.lists before item after) (sym c.self.view_is) stands in
    let at = removed_at s.nodes.items s.slots s.lists s.spare
    (record { slot = c.args.slot; list = s.lists; key = 0; due = 0 }) c.self.invariant refl before item after has st
    in (
      c.shift.ensures.item ∙ at.1,
      ap (λ (m : List Node). seen m s.slots s.lists) c.shift.ensures.nodes ∙ at.2
          ∙ ap (λ (v : Contents). set v.lists item.list (before ++ after)) c.self.view_is,
    )

pub returns-clause-spare : goal.returns-clause-spare
returns-clause-spare g c =
    let same : c.self.inside.spare ≡ c.args.self.now.spare = ap (λ (v : Contents). v.spare) c.self.view_is in
    omega arith

pub returns-clause-gone : goal.returns-clause-gone
returns-clause-gone g c =
    subst (λ (m : List Node). IsLive (seen m c.self.inside.slots c.self.inside.lists) c.args.slot → ⊥)
    (sym c.shift.ensures.nodes)
    (now_removed c.self.inside c.args.self.now c.args.slot (record { sound = c.self.invariant; is = c.self.view_is })
    c.requires).gone

pub returns-clause-whole : goal.returns-clause-whole
returns-clause-whole g c =
    let s = c.self.inside in
    whole_of c.shift.new.nodes.items s.slots s.lists (s.spare + 1)
    (subst (λ (m : List Node). IsSound m s.slots s.lists (s.spare + 1)) (sym c.shift.ensures.nodes)
    (now_removed s c.args.self.now c.args.slot (record { sound = c.self.invariant; is = c.self.view_is })
    c.requires).sound)
