use Rattle.std.proofs.Common.{◌≡◌, ◌<◌, ◌≤◌, sym, ap, subst, ◌∙◌, length, rules, Some, None, IfSome, IfNone}
use Rattle.timers.specs.Pending.Waiting.{packets_for, first_in}
use Rattle.timers.specs.Pending.Names.{place_in}
use Rattle.timers.proofs.PendingLemmas.NameLemmas.{packets-at, packets-none}
use Rattle.timers.proofs.pending.named.NamedQueues.first.Goals as goal

pub returns-then-at-len-clause-none : goal.returns-then-at-len-clause-none
returns-then-at-len-clause-none g c =
    let s = c.self.inside in
    let ge : length s.addresses.items ≤ place_in s.addresses.items c.args.address.now = search rules in
    sym (ap (λ v. first_in (packets_for v c.args.address.now)) c.self.view_is)
    ∙ ap first_in (packets-none s.addresses.items s.order.items s.queues c.args.address.now ge)

pub returns-clause-some : goal.returns-clause-some
returns-clause-some g c =
    let s = c.self.inside in
    let lt : place_in s.addresses.items c.args.address.now < length s.addresses.items = search rules in
    subst (λ v. IfSome c.first.result (λ r. first_in (packets_for v c.args.address.now) ≡ Some (r.0.now, r.1)))
    c.self.view_is
    (rw (
      packets-at s.addresses.items s.order.items s.queues _ _ c.args.address.now c.self.invariant lt,
      ← c.place_of-at.ensures,
      ← c.number_of.ensures.number,
    ) c.first.ensures.some)

pub returns-clause-none : goal.returns-clause-none
returns-clause-none g c =
    let s = c.self.inside in
    let lt : place_in s.addresses.items c.args.address.now < length s.addresses.items = search rules in
    subst (λ v. IfNone c.first.result (first_in (packets_for v c.args.address.now) ≡ None)) c.self.view_is
    (rw (
      packets-at s.addresses.items s.order.items s.queues _ _ c.args.address.now c.self.invariant lt,
      ← c.place_of-at.ensures,
      ← c.number_of.ensures.number,
    ) c.first.ensures.none)
