use Rattle.std.proofs.Common.{◌≡◌, sym, ap, subst, ◌∙◌, true}
use Rattle.timers.specs.Pending.Waiting.{may_wait, with_packet}
use Rattle.timers.proofs.PendingLemmas.NameLemmas.{place-under, place-room, put-view, put-invariant}
use Rattle.timers.proofs.pending.named.NamedQueues.put.Goals as goal

pub open_place-at-requires-clause-under : goal.open_place-at-requires-clause-under
open_place-at-requires-clause-under g c =
    let s = c.self.inside in
    place-under s.addresses.items s.order.items s.queues _ _ c.args.address c.self.invariant
    (subst (λ v. may_wait v c.args.address ≡ true) (sym c.self.view_is) c.requires)

pub number_of-requires-clause-at : goal.number_of-requires-clause-at
number_of-requires-clause-at g c =
    let s = c.self.inside in
    let under = place-under s.addresses.items s.order.items s.queues _ _ c.args.address c.self.invariant
    (subst (λ v. may_wait v c.args.address ≡ true) (sym c.self.view_is) c.requires) in
    rw (c.open_place-at.ensures.place, c.self.invariant.all) under

pub put-requires-clause-room : goal.put-requires-clause-room
put-requires-clause-room g c =
    let s = c.self.inside in
    rw (c.number_of.ensures.number, c.open_place-at.ensures.place)
    (place-room s.addresses.items s.order.items s.queues _ _ c.args.address c.self.invariant
    (subst (λ v. may_wait v c.args.address ≡ true) (sym c.self.view_is) c.requires))

pub invariant_of-self : goal.invariant_of-self
invariant_of-self g c =
    let s = c.self.inside in
    rw (c.put.ensures, c.number_of.ensures.number, c.open_place-at.ensures.place, c.open_place-at.ensures.items)
    (put-invariant s.addresses.items s.order.items s.queues _ _ _ c.args.address c.args.packet c.self.invariant
    (subst (λ v. may_wait v c.args.address ≡ true) (sym c.self.view_is) c.requires) c.open_place-at.ensures.room)

pub returns : goal.returns
returns g c =
    let s = c.self.inside in
    rw (c.put.ensures, c.number_of.ensures.number, c.open_place-at.ensures.place, c.open_place-at.ensures.items)
    (put-view s.addresses.items s.order.items s.queues _ _ c.args.address c.args.packet c.self.invariant
    (subst (λ v. may_wait v c.args.address ≡ true) (sym c.self.view_is) c.requires)
    ∙ ap (λ v. with_packet v c.args.address c.args.packet) c.self.view_is)
