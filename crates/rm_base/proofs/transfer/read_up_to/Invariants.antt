use Rattle.std.proofs.Common.{◌≡◌, ◌<◌, ◌≤◌, ◌+◌, ◌-◌, length}
use Rattle.std.specs.Io.KnownBytes.{Consumes}
use Rattle.rm_base.specs.Count.{RoseBy, raised_by}
use Rattle.rm_base.specs.Outside.{Lasts}
use Rattle.rm_base.proofs.transfer.read_up_to.Given as goal

abbrev pub invariant-loop-piece : goal.invariant-loop-piece
invariant-loop-piece g l =
    let told = g.S.Source.told in
    record {
      within : length l.bytes ≤ l.limit + 1;
      left : Consumes (told l.initial.input).left (told l.input).left l.bytes;
      taken : (told l.input).taken ≤ (told l.initial.input).taken + length l.bytes;
      none : length l.bytes ≡ 0 → (told l.input).taken ≡ (told l.initial.input).taken;
      some : 0 < length l.bytes → (told l.input).taken ≡ raised_by (told l.initial.input).taken (length l.bytes);
      rose : RoseBy (told l.initial.input).taken (told l.input).taken (length l.bytes);
      keeps : (told l.input).held ≡ (told l.initial.input).held;
      lasts : Lasts (told l.initial.input) (told l.input);
    }

abbrev pub decreases-loop-piece : goal.decreases-loop-piece
decreases-loop-piece g l = l.limit + 1 - length l.bytes
