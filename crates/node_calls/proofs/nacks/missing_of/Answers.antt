use Rattle.std.proofs.Common.{sym}
use Rattle.node_calls.proofs.MissingLemmas.{missing-told, side-there}
use Rattle.node_calls.proofs.nacks.missing_of.Goals as goal

pub returns : goal.returns
returns c =
    let r = c.args.tables.now.records in
    let is = (c.an_incoming_sequence_is_as_recorded.ensures r c.args.seq _ (sym c.in-Some.ensures)).numbers in
    missing-told r c.args.seq _ c.received.result.now.ranges c.missing.result c.received.ensures.ranges
    c.received.ensures.same is c.missing.ensures

pub unreachable-requires : goal.unreachable-requires
unreachable-requires c = side-there c.args.tables.now.records c.args.seq c.requires c.in-None.ensures
