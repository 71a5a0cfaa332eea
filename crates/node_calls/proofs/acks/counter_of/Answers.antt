use Rattle.std.proofs.Common.{sym, arith}
use Rattle.node_calls.proofs.DrawnLemmas.{drawn-small}
use Rattle.node_calls.proofs.acks.counter_of.Goals as goal

pub returns-in-Some-Granted-clause-small : goal.returns-in-Some-Granted-clause-small
returns-in-Some-Granted-clause-small c =
    let few = drawn-small c.args.ahead.now.records c.args.ahead.now.delta c.args.seq _ c.len-count.ensures.sound
    c.requires.fit (sym (rw c.in-Some-Granted.field-0-is at c.in-Some-Granted.ensures)) in
    omega (arith, few, c.requires.drawn)

pub returns-in-Some-Offered-clause-small : goal.returns-in-Some-Offered-clause-small
returns-in-Some-Offered-clause-small c =
    let few = drawn-small c.args.ahead.now.records c.args.ahead.now.delta c.args.seq _ c.len-count.ensures.sound
    c.requires.fit (sym (rw c.in-Some-Offered.field-0-is at c.in-Some-Offered.ensures)) in
    omega (arith, few, c.requires.drawn)
