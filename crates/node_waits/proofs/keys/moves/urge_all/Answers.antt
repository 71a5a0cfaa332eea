use Rattle.std.proofs.Common.{◌∙◌, refl}
use Rattle.node_waits.proofs.KeysLemmas.MoveLemmas.{urged-more}
use Rattle.node_waits.proofs.keys.moves.urge_all.Goals as goal

pub loop-key-preserved : goal.loop-key-preserved
loop-key-preserved c =
    let inv = c.loop-key.invariant in
    record {
      moved = λ waits st. urged-more c.args.timers.now c.loop-key.timers c.urge.new.self
          waits c.args.keys.now c.loop-key.key-index
          _ _ c.loop-key-test.true refl (inv.moved waits st) c.urge.ensures.waits;
      cells = c.urge.ensures.cells ∙ inv.cells;
      time = c.urge.ensures.time ∙ inv.time;
    }
