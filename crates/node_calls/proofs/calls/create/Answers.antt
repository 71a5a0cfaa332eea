use Rattle.node_laws.specs.Answers.Answers.{wish_seen}
use Rattle.node_calls.proofs.StoredLemmas.{stored}
use Rattle.node_calls.proofs.calls.create.Goals as goal

pub returns-clause-stored : goal.returns-clause-stored
returns-clause-stored c =
    let own = c.serving.ensures.next in
    stored c.args.tables.now.records c.args.place c.ask.result _
    (own.next.create_ (wish_seen c.args.wish))
    (c.ask.ensures.is own.terms own.own) c.ask.ensures.room c.ask.ensures.typed
