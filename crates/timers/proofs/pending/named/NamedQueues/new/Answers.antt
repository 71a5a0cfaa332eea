use Rattle.std.proofs.Common.{◌≡◌, ◌≤◌, [], vec_capacity, rules}
use Rattle.timers.proofs.PendingLemmas.NameLemmas.{new-named}
use Rattle.timers.proofs.pending.named.NamedQueues.new.Goals as goal

pub invariant_of-result : goal.invariant_of-result
invariant_of-result g c =
    let names = c.in_ok-with_capacity.field-0 in
    let order = c.in_ok-all_numbers.field-0 in
    let room : 256 ≤ vec_capacity names = search rules in
    let none : names.items ≡ [] = search rules in
    rw none (new-named order.items c.in_ok-new.field-0 (vec_capacity names) (vec_capacity order)
    c.in_ok-all_numbers.ensures.numbers c.in_ok-new.ensures room c.in_ok-all_numbers.ensures.room)
