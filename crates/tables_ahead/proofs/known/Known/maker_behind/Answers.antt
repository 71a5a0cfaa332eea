use Rattle.std.proofs.Common.{◌+◌, ◌<◌, ◌++◌, arith, length, sym}
use Rattle.record_batch.specs.Sequences.Makers.{makers}
use Rattle.tables_ahead.proofs.FoundLemmas.{maker-past}
use Rattle.tables_ahead.proofs.known.Known.maker_behind.Goals as goal
use Rattle.tables_ahead.specs.Known.{all_records}

pub returns-then-seq-len : goal.returns-then-seq-len
returns-then-seq-len c =
    let r = all_records c.args.self.now in
    let lt : length (makers r) < c.args.seq + 1 = omega (arith, c.len.ensures.count, c.if-seq-len.true) in
    sym (maker-past r (c.args.seq + 1) lt)
