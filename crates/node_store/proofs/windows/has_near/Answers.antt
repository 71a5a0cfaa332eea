use Rattle.node_store.proofs.WindowLemmas.{near_decides}
use Rattle.node_store.proofs.windows.has_near.Goals as goal

pub returns-in-Some : goal.returns-in-Some
returns-in-Some c =
    near_decides c.an_incoming_sequence_is_as_recorded.ensures c.args.tables.now.records c.args.seq
    c.in-Some.incoming.now.facts c.in-Some.ensures c.are_near.result c.are_near.ensures
