use Rattle.node_calls.proofs.KeyLemmas.{create-again, drawn-again}
use Rattle.node_calls.proofs.keys.create_again.Goals as goal
use Rattle.tables_ahead.specs.Known.{all_records}

pub create_request-requires-clause-ticket : goal.create_request-requires-clause-ticket
create_request-requires-clause-ticket c =
    let made = rw c.in-Some-Asked.field-0-is at c.in-Some-Asked.ensures in
    drawn-again c.args.ahead.now.records c.args.ahead.now.delta c.args.seq _ c.requires.ends c.requires.serving.fit
    c.requires.serving.drawn made

pub create_request-requires-clause-counter : goal.create_request-requires-clause-counter
create_request-requires-clause-counter c = c.offer_again-own.ensures.small

pub returns-in_ok-request-in-Some-Asked : goal.returns-in_ok-request-in-Some-Asked
returns-in_ok-request-in-Some-Asked c =
    let r = all_records c.args.ahead.now in
    let made = c.in-Some-Asked in
    let there = rw made.field-0-is at made.ensures in
    create-again r c.args.seq made.ticket made.to.now c.in_ok-to-in-Some-Asked.to made.via made.lapse
    c.offer_again-own.result c.in_ok-request-in-Some-Asked.request there c.in_ok-to-in-Some-Asked.ensures
    (c.offer_again-own.ensures.is made.via) (c.in_ok-request-in-Some-Asked.ensures r c.home.ensures.home)
