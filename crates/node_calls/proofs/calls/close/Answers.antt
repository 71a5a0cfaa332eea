use Rattle.node_calls.proofs.StoredLemmas.{stored}
use Rattle.node_calls.proofs.calls.close.Goals as goal

pub returns-clause-stored : goal.returns-clause-stored
returns-clause-stored c =
    let own = c.serving.ensures.next in
    stored c.args.tables.now.records c.args.place c.close.result _ (own.next.close_ c.args.seq c.args.now)
    (c.close.ensures.is own.terms own.own) c.close.ensures.room c.close.ensures.typed
