use Rattle.std.proofs.Common.{◌≡◌, ◌≤◌, ◌-◌, length, take}
use Rattle.std.specs.Io.KnownBytes.{Appends}
use Rattle.rm_base.specs.Outside.{Lasts}
use Rattle.rm_base.proofs.transfer.write_all.Given as goal

abbrev pub invariant-loop-written : goal.invariant-loop-written
invariant-loop-written g l =
    let told = g.K.Sink.told in
    record {
      within : l.written ≤ length l.bytes;
      held : Appends (told l.initial.out).held (told l.out).held (take l.written l.bytes);
      keeps : (told l.out).left ≡ (told l.initial.out).left;
      keeps_taken : (told l.out).taken ≡ (told l.initial.out).taken;
      lasts : Lasts (told l.initial.out) (told l.out);
    }

abbrev pub decreases-loop-written : goal.decreases-loop-written
decreases-loop-written g l = length l.bytes - l.written
