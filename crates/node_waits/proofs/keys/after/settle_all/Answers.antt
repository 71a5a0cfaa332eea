use Rattle.std.proofs.Common.{◌∙◌, refl, sym}
use Rattle.node_waits.proofs.KeysLemmas.AfterLemmas.{looked-more, cells-more}
use Rattle.node_waits.proofs.keys.after.settle_all.Goals as goal

pub loop-part-preserved : goal.loop-part-preserved
loop-part-preserved c =
    let inv = c.loop-part.invariant in
    let r = c.args.tables.now.records in
    record {
      looked = λ waits st. looked-more r c.args.timers.now c.loop-part.timers c.settle.new.timers waits
          c.args.touched.now
          c.loop-part.part-index _ _ c.loop-part-test.true refl (inv.looked waits st) c.settle.ensures.waits;
      cells = sym (cells-more r c.loop-part.timers.cells c.settle.new.timers.cells
          c.args.touched.now c.loop-part.part-index
          _ _ c.loop-part-test.true refl c.settle.ensures.cells) ∙ inv.cells;
      time = c.settle.ensures.time ∙ inv.time;
    }
