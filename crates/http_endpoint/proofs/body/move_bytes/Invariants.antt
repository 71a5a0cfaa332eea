use Rattle.std.proofs.Common.{◌≡◌, ℕ, ◌≤◌, ◌+◌, ◌-◌, List, length, min, max, Some}
use Rattle.rm_base.specs.Limits.{envelope_bytes}
use Rattle.rm_base.specs.Outside.{Lasts}
use Rattle.http_endpoint.specs.Ahead.{ahead}
use Rattle.http_endpoint.specs.Body.{Moved}
use Rattle.http_endpoint.proofs.body.move_bytes.Given as goal

abbrev pub invariant-loop-left : goal.invariant-loop-left
invariant-loop-left g l =
    let told = g.S.Source.told in
    record {
      bound : l.left ≤ l.size;
      within : length l.body ≤ envelope_bytes;
      grown : length l.body + l.left ≡ length l.initial.body + l.size;
      moved : (all : List ℕ) → ahead (told l.initial.from).left l.initial.input ≡ Some all
          → Moved (l.size - l.left) all l.initial.body l.body (ahead (told l.from).left l.input);
      used : (told l.from).taken + length l.initial.input ≤ (told l.initial.from).taken
          + (length l.input + (l.size - l.left));
      stops : (told l.from).taken + length l.initial.input
          ≤ (told l.initial.from).taken
          + max (length l.initial.input) (min l.size (envelope_bytes + 1 - length l.initial.body));
      keeps : (told l.from).held ≡ (told l.initial.from).held;
      lasts : Lasts (told l.initial.from) (told l.from);
    }

abbrev pub decreases-loop-left : goal.decreases-loop-left
decreases-loop-left g l = l.left
