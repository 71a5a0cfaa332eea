use Rattle.std.proofs.Common.{◌∙◌}
use Rattle.node_tables.proofs.PastLemmas.{passed-nothing}
use Rattle.node_tables.proofs.snapshot.passed_of.Goals as goal

pub returns-in-None : goal.returns-in-None
returns-in-None c =
    c.new-in-None.ensures
    ∙ passed-nothing c.args.rows.now c.args.seq c.in-Some.row.now c.in-Some.ensures c.in-None.ensures
