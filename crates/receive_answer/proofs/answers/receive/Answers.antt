use Rattle.std.proofs.Common.{◌≡◌, map, sym, subst, ap, ◌∙◌}
use Rattle.std.specs.Prelude.{IfOk}
use Rattle.record_batch.specs.Fact.{fact_of}
use Rattle.tables_ahead.specs.Known.{KnownRecords}
use Rattle.rm_protocol.specs.Calls.{Answer}
use Rattle.node_laws.specs.Answers.Answers.{MayBeStored, seen}
use Rattle.node_laws.specs.Answers.Serving.{Serves}
use Rattle.receive_answer.specs.Untold.{told}
use Rattle.receive_answer.proofs.ReceiveLemmas.{told-is}
use Rattle.receive_answer.proofs.answers.receive.Goals as goal

pub answer-requires-clause-serves : goal.answer-requires-clause-serves
answer-requires-clause-serves c =
    subst (λ (k : KnownRecords). Serves k.records c.args.place) (sym c.seeking-ahead.ensures) c.requires.serves

pub answer-requires-clause-numbers : goal.answer-requires-clause-numbers
answer-requires-clause-numbers c = c.requires.numbers

pub answer-requires-clause-nothing : goal.answer-requires-clause-nothing
answer-requires-clause-nothing c = ap (λ (k : KnownRecords). k.delta) c.seeking-ahead.ensures

pub returns-clause-is : goal.returns-clause-is
returns-clause-is c =
    λ terms own.
    subst (λ (answer : Answer). IfOk c.answer.result (λ a. seen a ≡ answer))
    (ap (λ (k : KnownRecords). told terms k.records c.args.place c.args.now c.args.granted c.args.message)
    c.seeking-ahead.ensures
    ∙ told-is terms c.args.tables.now.records c.args.place c.args.now c.args.granted c.args.message)
    (c.answer.ensures.is terms own)

pub returns-clause-stored : goal.returns-clause-stored
returns-clause-stored c =
    subst (λ (k : KnownRecords).
    IfOk c.answer.result (λ a. MayBeStored k.records c.args.place (map fact_of a.batch.items)))
    c.seeking-ahead.ensures c.answer.ensures.stored
