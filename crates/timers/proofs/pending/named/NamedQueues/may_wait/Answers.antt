use Rattle.std.proofs.Common.{◌<◌, ◌≤◌, ap, ◌∙◌, length, rules}
use Rattle.timers.specs.Pending.Waiting.{may_wait}
use Rattle.timers.specs.Pending.Names.{place_in}
use Rattle.timers.proofs.PendingLemmas.NameLemmas.{may-new, may-old}
use Rattle.timers.proofs.pending.named.NamedQueues.may_wait.Goals as goal

pub returns-then-at-len : goal.returns-then-at-len
returns-then-at-len g c =
    let s = c.self.inside in
    let ge : length s.addresses.items ≤ place_in s.addresses.items c.args.address.now = search rules in
    rw (c.place_of-at.ensures)
    (may-new s.addresses.items s.order.items s.queues _ _ c.args.address.now c.self.invariant ge
    ∙ ap (λ v. may_wait v c.args.address.now) c.self.view_is)

pub returns : goal.returns
returns g c =
    let s = c.self.inside in
    let lt : place_in s.addresses.items c.args.address.now < length s.addresses.items = search rules in
    rw (c.is_full.ensures, c.number_of.ensures.number, c.place_of-at.ensures)
    (may-old s.addresses.items s.order.items s.queues _ _ c.args.address.now c.self.invariant lt
    ∙ ap (λ v. may_wait v c.args.address.now) c.self.view_is)
