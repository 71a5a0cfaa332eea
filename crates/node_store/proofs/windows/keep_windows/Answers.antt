use Rattle.std.proofs.Common.{arith}
use Rattle.node_store.proofs.windows.keep_windows.Goals as goal

pub returns : goal.returns
returns c = (
  λ e. record {
    sequences = omega (arith, c.len.ensures.count, c.if-len-gt-MOST_SEQUENCES.false);
    windows = omega (arith, c.unacked.ensures, c.if-unacked-gt-MOST_UNACKED.false);
    each = c.all_keep_windows.ensures.0 e;
  },
  λ kept. c.all_keep_windows.ensures.1 kept.each,
)
