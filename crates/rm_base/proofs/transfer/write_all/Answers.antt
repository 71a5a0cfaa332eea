use Rattle.std.proofs.Common.{arith, ◌∙◌}
use Rattle.rm_base.specs.StreamLemmas.{Lasts-more}
use Rattle.rm_base.proofs.KnownBytes.{Appends-take}
use Rattle.rm_base.proofs.transfer.write_all.Goals as goal

pub loop-written-preserved : goal.loop-written-preserved
loop-written-preserved g c =
    let told = g.K.Sink.told in
    let moved = rw c.split_at.ensures.back at c.in_ok-count.ensures.moved in
    record {
      within = omega (arith, c.in_ok-count.ensures.bound, c.split_at.ensures.back_len);
      held = Appends-take (told c.args.out.now).held (told c.loop-written.out).held (told c.write.new.self).held
          c.args.bytes.now c.loop-written.written c.in_ok-count.count c.loop-written.invariant.held moved;
      keeps = c.write.ensures.keeps ∙ c.loop-written.invariant.keeps;
      keeps_taken = c.write.ensures.keeps_taken ∙ c.loop-written.invariant.keeps_taken;
      lasts = Lasts-more _ _ _ c.loop-written.invariant.lasts c.write.ensures.lasts;
    }
