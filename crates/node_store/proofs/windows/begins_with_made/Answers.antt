use Rattle.node_store.proofs.WindowLemmas.{begins_decides}
use Rattle.node_store.proofs.windows.begins_with_made.Goals as goal

pub returns : goal.returns
returns c = begins_decides c.args.tables.now.records c.number.result c.len-count.ensures.sound c.number.ensures.value
