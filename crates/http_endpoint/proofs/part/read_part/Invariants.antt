use Rattle.std.proofs.Common.{◌≡◌, ◌≤◌, ◌+◌, ◌-◌, length, max}
use Rattle.rm_base.specs.Outside.{Lasts}
use Rattle.http_endpoint.specs.Ahead.{ahead, StillAhead}
use Rattle.http_endpoint.specs.Limits.{part_bytes}
use Rattle.http_endpoint.proofs.part.read_part.Given as goal

abbrev pub invariant-loop-input : goal.invariant-loop-input
invariant-loop-input g l =
    let told = g.S.Source.told in
    record {
      still : StillAhead (ahead (told l.initial.from).left l.initial.input) (ahead (told l.from).left l.input);
      used : (told l.from).taken + length l.initial.input ≤ (told l.initial.from).taken + length l.input;
      within : length l.input ≤ max (length l.initial.input) (part_bytes + 1);
      keeps : (told l.from).held ≡ (told l.initial.from).held;
      lasts : Lasts (told l.initial.from) (told l.from);
    }

abbrev pub decreases-loop-input : goal.decreases-loop-input
decreases-loop-input g l = part_bytes + 1 - length l.input
