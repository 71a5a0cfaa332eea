use Rattle.std.proofs.Common.{◌∙◌, ◌++◌}
use Rattle.std.specs.Option.{option_to_list}
use Rattle.record_batch.specs.Fact.{fact_of}
use Rattle.node_tables.proofs.AheadLemmas.{starts-parted}
use Rattle.node_tables.proofs.ahead.begin.Goals as goal

pub returns-clause-next : goal.returns-clause-next
returns-clause-next c later e =
    c.begin_one-2.ensures.next later
    (c.begin_one.ensures.next (option_to_list c.second_start.result ++ later)
    (starts-parted (fact_of c.args.given.now) _ _ _ later c.first_start.ensures c.second_start.ensures e))

pub returns-clause-spares : goal.returns-clause-spares
returns-clause-spares c later e =
    let rest = option_to_list c.second_start.result ++ later in
    let parted = starts-parted (fact_of c.args.given.now) _ _ _ later c.first_start.ensures c.second_start.ensures e in
    c.begin_one-2.ensures.spares later (c.begin_one.ensures.next rest parted) ∙ c.begin_one.ensures.spares rest parted
