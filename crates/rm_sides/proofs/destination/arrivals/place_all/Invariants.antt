use Rattle.std.proofs.Common.{◌≡◌, ◌≤◌, take}
use Rattle.std.specs.Prelude.{vec_capacity, vec_len}
use Rattle.rm_sides.specs.Destination.Kept.{IsSorting}
use Rattle.rm_sides.proofs.destination.arrivals.place_all.Given as goal

abbrev pub invariant-loop-at : goal.invariant-loop-at
invariant-loop-at l = record {
  sorting : IsSorting (take l.at l.came) l.places.items;
  len : vec_len l.places ≡ l.at;
  capacity : vec_capacity l.fn.places ≤ vec_capacity l.places;
}
