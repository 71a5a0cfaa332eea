use Rattle.std.proofs.Common.{◌∙◌, refl}
use Rattle.node_waits.proofs.KeysLemmas.MoveLemmas.{sent-more}
use Rattle.node_waits.proofs.keys.moves.emit_all.Goals as goal

pub loop-key-preserved : goal.loop-key-preserved
loop-key-preserved c =
    let inv = c.loop-key.invariant in
    record {
      moved = λ waits st. sent-more c.args.timers.now.time _ c.args.timers.now c.loop-key.timers c.emit.new.self
          waits c.args.keys.now c.loop-key.key-index
          _ _ c.loop-key-test.true refl (inv.moved waits st) c.emit.ensures.waits inv.time;
      cells = c.emit.ensures.cells ∙ inv.cells;
      time = c.emit.ensures.time ∙ inv.time;
    }
