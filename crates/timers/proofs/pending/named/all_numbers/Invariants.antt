use Rattle.std.proofs.Common.{◌≡◌, ◌≤◌, vec_capacity}
use Rattle.timers.specs.Pending.Names.{numbers}
use Rattle.timers.proofs.pending.named.all_numbers.Given as goal

abbrev pub invariant-loop-number : goal.invariant-loop-number
invariant-loop-number l = record { numbers : l.order.items ≡ numbers l.number; room : 256 ≤ vec_capacity l.order }
