use Rattle.std.proofs.Common.{◌≡◌, ◌+◌, drop}
use Rattle.timers.specs.Pending.Names.{place_in}
use Rattle.timers.proofs.pending.named.place_of.Given as goal

abbrev pub invariant-loop-k : goal.invariant-loop-k
invariant-loop-k l = l.k + place_in (drop l.k l.addresses.items) l.address ≡ place_in l.addresses.items l.address
