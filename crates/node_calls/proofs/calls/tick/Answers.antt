use Rattle.node_calls.proofs.StoredLemmas.{stored}
use Rattle.node_calls.proofs.calls.tick.Goals as goal

pub returns-clause-stored : goal.returns-clause-stored
returns-clause-stored c =
    let own = c.serving.ensures.next in
    stored c.args.tables.now.records c.args.place c.tick.result _ (own.next.tick_ c.args.now c.args.keys.items)
    (c.tick.ensures.is own.terms own.own) c.tick.ensures.room c.tick.ensures.typed
