use Rattle.node_calls.proofs.StoredLemmas.{stored-nothing}
use Rattle.node_calls.proofs.EndLemmas.{nack-delta}
use Rattle.node_calls.proofs.calls.nack_missing.Goals as goal

pub returns-clause-stored : goal.returns-clause-stored
returns-clause-stored c =
    let r = c.args.tables.now.records in
    stored-nothing r c.args.place c.nack_missing.result _ (nack-delta r c.args.seq c.args.now) c.nack_missing.ensures
