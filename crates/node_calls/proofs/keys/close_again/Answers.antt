use Rattle.std.proofs.Common.{refl, arith, ap}
use Rattle.rm_sides.specs.declared.source.phase.OutPhase.TheVariants as out
use Rattle.tables_ahead.specs.Known.{all_records}
use Rattle.node_calls.specs.Records.{is_finishing}
use Rattle.node_calls.proofs.KeyLemmas.{no-peer, number-begun}
use Rattle.node_calls.proofs.keys.close_again.Goals as goal

pub last_ticket-requires-clause-finishing : goal.last_ticket-requires-clause-finishing
last_ticket-requires-clause-finishing c = ap is_finishing c.requires.phase

pub close_request-requires-clause-numbered : goal.close_request-requires-clause-numbered
close_request-requires-clause-numbered c =
    number-begun c.args.ahead.now.records c.args.ahead.now.delta c.requires.serving.begins c.requires.serving.fit

pub close_request-requires-clause-small : goal.close_request-requires-clause-small
close_request-requires-clause-small c =
    let few = c.requires.serving.drawn in omega (arith, few, c.in-Some.ensures.drawn)

pub close_request-requires-clause-last : goal.close_request-requires-clause-last
close_request-requires-clause-last c = c.in-Some.ensures.last

pub returns-in-None : goal.returns-in-None
returns-in-None c = no-peer (all_records c.args.ahead.now) c.args.seq out.Closing refl c.in-None.ensures.none
