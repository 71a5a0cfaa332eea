use Rattle.std.proofs.Common.{◌≡◌, ◌≢◌, ◌<◌, ◌≤◌, length, vec_capacity}
use Rattle.std.specs.Prelude.{All, AllPairs}
use Rattle.rm_base.specs.Limits.{most_keys}
use Rattle.timers.proofs.slots.table.free_slots.Given as goal

abbrev pub invariant-loop-slot : goal.invariant-loop-slot
invariant-loop-slot l = record {
  count : length l.free.items ≡ l.slot;
  low : All (λ slot. slot < l.slot) l.free.items;
  distinct : AllPairs ◌≢◌ l.free.items;
  room : most_keys ≤ vec_capacity l.free;
}
