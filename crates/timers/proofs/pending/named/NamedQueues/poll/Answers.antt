use Rattle.std.proofs.Common.{◌<◌, ◌≤◌, sym, ap, ◌∙◌, length, rules, vec_capacity}
use Rattle.timers.specs.Pending.Waiting.{without_first, packets_for, first_in}
use Rattle.timers.specs.Pending.Names.{place_in}
use Rattle.timers.proofs.PendingLemmas.NameLemmas.{poll-view, poll-invariant, poll-none, packets-at, packets-none}
use Rattle.timers.proofs.pending.named.NamedQueues.poll.Goals as goal

pub returns-then-at-len-clause-first : goal.returns-then-at-len-clause-first
returns-then-at-len-clause-first g c =
    let s = c.self.inside in
    let ge : length s.addresses.items ≤ place_in s.addresses.items c.args.address.now = search rules in
    sym (ap first_in (packets-none s.addresses.items s.order.items s.queues c.args.address.now ge))
    ∙ ap (λ v. first_in (packets_for v c.args.address.now)) c.self.view_is

pub returns-then-at-len-clause-taken : goal.returns-then-at-len-clause-taken
returns-then-at-len-clause-taken g c =
    let s = c.self.inside in
    let ge : length s.addresses.items ≤ place_in s.addresses.items c.args.address.now = search rules in
    sym c.self.view_is ∙ sym (poll-none s.addresses.items s.order.items s.queues c.args.address.now ge)
    ∙ ap (λ v. without_first v c.args.address.now) c.self.view_is

pub invariant_of-self : goal.invariant_of-self
invariant_of-self g c =
    let s = c.self.inside in
    let lt : place_in s.addresses.items c.args.address.now < length s.addresses.items = search rules in
    let room : 256 ≤ vec_capacity c.close_place.new.addresses = search rules in
    let places : 256 ≤ vec_capacity c.close_place.new.order = search rules in
    rw (
      c.close_place.ensures.addresses,
      c.close_place.ensures.order,
      c.has_more-more.ensures,
      c.take-taken.ensures.first,
      c.take-taken.ensures.taken,
      c.number_of.ensures.number,
      c.place_of-at.ensures,
    )
    (poll-invariant s.addresses.items s.order.items s.queues _ _ _ _ c.args.address.now c.self.invariant lt room places)

pub returns-clause-first : goal.returns-clause-first
returns-clause-first g c =
    let s = c.self.inside in
    let lt : place_in s.addresses.items c.args.address.now < length s.addresses.items = search rules in
    rw (c.take-taken.ensures.first, c.number_of.ensures.number, c.place_of-at.ensures)
    (sym (ap first_in (packets-at s.addresses.items s.order.items s.queues _ _ c.args.address.now c.self.invariant lt))
    ∙ ap (λ v. first_in (packets_for v c.args.address.now)) c.self.view_is)

pub returns-clause-taken : goal.returns-clause-taken
returns-clause-taken g c =
    let s = c.self.inside in
    let lt : place_in s.addresses.items c.args.address.now < length s.addresses.items = search rules in
    rw (
      c.close_place.ensures.addresses,
      c.close_place.ensures.order,
      c.has_more-more.ensures,
      c.take-taken.ensures.first,
      c.take-taken.ensures.taken,
      c.number_of.ensures.number,
      c.place_of-at.ensures,
    )
    (poll-view s.addresses.items s.order.items s.queues _ _ c.args.address.now c.self.invariant lt
    ∙ ap (λ v. without_first v c.args.address.now) c.self.view_is)
