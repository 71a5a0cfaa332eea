use Rattle.std.proofs.Common.{◌∙◌, inl, inr, Some, sym, ap, arith}
use Rattle.timers.proofs.LinksLemmas.OldLemmas.{IsNth, old_nth}
use Rattle.timers.proofs.links.links.Links.nth.Goals as goal

pub returns-then-at-slots-clause-item : goal.returns-then-at-slots-clause-item
returns-then-at-slots-clause-item g c =
    let there : IsNth c.self.inside c.args.self.now c.args.list c.args.k c.step_on-at.result =
    old_nth c.self.inside c.args.self.now c.args.list c.args.k c.first_of_list-first.result c.step_on-at.result
    (record { sound = c.self.invariant; is = c.self.view_is }) c.requires c.first_of_list-first.ensures
    c.step_on-at.ensures.place in
    elim there [ inl h ↦ let lt = h.0 in absurd (omega arith) | inr h ↦ sym h.1 ]

pub returns-clause-item : goal.returns-clause-item
returns-clause-item g c =
    let there : IsNth c.self.inside c.args.self.now c.args.list c.args.k c.step_on-at.result =
    old_nth c.self.inside c.args.self.now c.args.list c.args.k c.first_of_list-first.result c.step_on-at.result
    (record { sound = c.self.invariant; is = c.self.view_is }) c.requires c.first_of_list-first.ensures
    c.step_on-at.ensures.place in
    elim there [ inl h ↦ ap Some c.item_of.ensures.item ∙ sym h.1 | inr h ↦ let le = h.0 in absurd (omega arith) ]
