use Rattle.std.proofs.Common.{arith}
use Rattle.node_tables.proofs.RowLemmas.UpToLemmas.{greatest-up_to}
use Rattle.node_tables.proofs.row.row.are_up_to.Goals as goal

pub returns : goal.returns
returns c =
    let ranges = c.args.numbers.now.ranges in
    rw c.greatest.ensures.value (greatest-up_to c.args.n 1 ranges (omega arith) c.ranges-ranges.ensures.canonical)
