use Rattle.std.proofs.Common.{◌<◌, ◌^◌, arith}
use Rattle.tables_ahead.proofs.SoughtLemmas.{sought-at}
use Rattle.tables_ahead.proofs.sought.Sought.issued.Goals as goal

pub returns : goal.returns
returns c =
    let small : c.args.drawn < 2 ^ 64 = omega (arith, c.ranges.drawn) in
    sought-at c.args.tables.now.records c.args.ident.now c.args.drawn c.find_incoming.result small c.requires
    c.find_incoming.ensures
