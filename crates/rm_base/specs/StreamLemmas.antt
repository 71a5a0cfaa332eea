-- Lemmas on what streams tell, which the crates above use.
use Rattle.std.proofs.Common.{arith, ◌∙◌}
use Rattle.rm_base.specs.Outside.{Stream, Lasts}

-- what two calls keep that follow one another, both of them keep
pub Lasts-more : (old mid new : Stream) → Lasts old mid → Lasts mid new → Lasts old new
Lasts-more old mid new before step = record {
  never_falls = omega (arith, before.never_falls, step.never_falls);
  sound = λ is_sound. let first = before.sound is_sound in
      let after = step.sound first.0 in (after.0, after.1 ∙ first.1);
}
