use Rattle.std.proofs.Common.{refl, arith}
use Rattle.node_store.proofs.WindowLemmas.{windows-all, windows-more, windows-none}
use Rattle.node_store.proofs.windows.all_keep_windows.Goals as goal

pub loop-before-init : goal.loop-before-init
loop-before-init c = windows-none c.args.tables.now.records

pub loop-before-preserved : goal.loop-before-preserved
loop-before-preserved c =
    windows-more c.args.tables.now.records c.loop-before.before c.loop-before.invariant
    (c.keeps_window.ensures.0 c.if-not-keeps_window.false)

pub returns : goal.returns
returns c = (
  λ e. windows-all c.args.tables.now.records c.loop-before.before c.loop-before.invariant
      (omega (arith, c.len-before-end.ensures.count, c.loop-before-test.false)),
  λ kept. refl,
)
