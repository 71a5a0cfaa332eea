use Rattle.node_calls.proofs.StoredLemmas.{stored}
use Rattle.node_calls.proofs.calls.consume.Goals as goal

pub returns-clause-stored : goal.returns-clause-stored
returns-clause-stored c =
    let own = c.serving.ensures.next in
    stored c.args.tables.now.records c.args.place c.consume.result _ (own.next.consume_ c.args.seq c.args.upto)
    (c.consume.ensures.is own.terms own.own) c.consume.ensures.room c.consume.ensures.typed
