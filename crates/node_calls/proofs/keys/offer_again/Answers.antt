use Rattle.std.proofs.Common.{◌+◌, ◌++◌}
use Rattle.node_calls.proofs.KeyLemmas.{drawn-again, offered-is, offered-small}
use Rattle.node_calls.proofs.keys.offer_again.Goals as goal

pub returns-in-Some-Offered-clause-is : goal.returns-in-Some-Offered-clause-is
returns-in-Some-Offered-clause-is c via =
    offered-is (c.args.ahead.now.records ++ c.args.ahead.now.delta) via c.args.ticket _ _ _ _ _ _
    (rw c.in-Some-Offered.field-0-is at c.in-Some-Offered.ensures) c.offer_with_ticket.ensures

pub returns-in-Some-Offered-clause-small : goal.returns-in-Some-Offered-clause-small
returns-in-Some-Offered-clause-small c =
    let made = rw c.in-Some-Offered.field-0-is at c.in-Some-Offered.ensures in
    offered-small _ c.args.ticket _ _ c.offer_with_ticket.ensures
    (drawn-again c.args.ahead.now.records c.args.ahead.now.delta (c.args.seq + 1) _ c.requires.ends
    c.requires.serving.fit c.requires.serving.drawn made)
