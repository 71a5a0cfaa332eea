use Rattle.node_calls.proofs.StoredLemmas.{stored-nothing}
use Rattle.node_calls.proofs.EndLemmas.{ask-delta}
use Rattle.node_calls.proofs.calls.ask_ack.Goals as goal

pub returns-clause-stored : goal.returns-clause-stored
returns-clause-stored c =
    let r = c.args.tables.now.records in
    stored-nothing r c.args.place c.ask_ack.result _ (ask-delta r c.args.seq) c.ask_ack.ensures
