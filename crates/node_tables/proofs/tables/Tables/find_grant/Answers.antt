use Rattle.std.proofs.Common.{length, ap, arith}
use Rattle.node_tables.proofs.CountLemmas.{rows-few}
use Rattle.node_tables.proofs.TellLemmas.{rows-origins}
use Rattle.node_tables.proofs.tables.Tables.find_grant.Goals as goal

pub find_granted-requires : goal.find_granted-requires
find_granted-requires c =
    let h = c.self.invariant.holds in
    omega (arith, ap length c.as_slice-2.ensures.value, rows-origins _ h, rows-few _ h)
