use Rattle.std.proofs.Common.{refl}
use Rattle.node_calls.proofs.StoredLemmas.{stored-nothing}
use Rattle.node_calls.proofs.calls.poll.Goals as goal

pub returns-clause-stored : goal.returns-clause-stored
returns-clause-stored c =
    stored-nothing c.args.tables.now.records c.args.place c.poll.result _ refl c.poll.ensures
