use Rattle.std.proofs.Common.{◌≡◌, true, List, refl, sym, subst}
use Rattle.std.specs.Prelude.{IfOk}
use Rattle.record_batch.specs.Fact.{Fact}
use Rattle.record_batch.specs.Sequences.Fits.{all_fit}
use Rattle.rm_protocol.specs.Calls.{Answer}
use Rattle.node_laws.specs.Answers.Answers.{seen}
use Rattle.receive_answer.proofs.FitLemmas.{nothing-stored}
use Rattle.receive_answer.proofs.ReceiveLemmas.{none-early, told-early}
use Rattle.receive_answer.proofs.answers.answer.Goals as goal

pub judged-requires : goal.judged-requires
judged-requires c =
    subst (λ (d : List Fact). all_fit c.args.ahead.records d ≡ true) (sym c.requires.nothing) refl

pub taken-requires-clause-serves : goal.taken-requires-clause-serves
taken-requires-clause-serves c = c.requires.serves

pub taken-requires-clause-numbers : goal.taken-requires-clause-numbers
taken-requires-clause-numbers c = c.requires.numbers

pub taken-requires-clause-nothing : goal.taken-requires-clause-nothing
taken-requires-clause-nothing c = c.requires.nothing

pub taken-requires-clause-early : goal.taken-requires-clause-early
taken-requires-clause-early c =
    none-early c.args.ahead.records c.args.ahead.delta c.args.now c.args.message.now c.requires.nothing
    c.in-None.ensures

pub returns-in-Some-clause-is : goal.returns-in-Some-clause-is
returns-in-Some-clause-is c =
    λ terms own.
    subst (λ (answer : Answer). IfOk c.judged.result (λ a. seen a ≡ answer))
    (told-early terms c.args.ahead.records c.args.ahead.delta c.args.place c.args.now c.args.granted
    c.args.message.now c.in-Some.kind own c.requires.nothing c.in-Some.ensures)
    c.judged.ensures.is

pub returns-in-Some-clause-stored : goal.returns-in-Some-clause-stored
returns-in-Some-clause-stored c =
    nothing-stored c.args.ahead.records c.args.place c.judged.result c.judged.ensures.nothing

pub returns-in-None-clause-is : goal.returns-in-None-clause-is
returns-in-None-clause-is c = c.taken.ensures.is

pub returns-in-None-clause-stored : goal.returns-in-None-clause-stored
returns-in-None-clause-stored c = c.taken.ensures.stored
