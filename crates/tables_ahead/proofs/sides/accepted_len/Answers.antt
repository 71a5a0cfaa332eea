use Rattle.std.proofs.Common.{sym, ap, ◌∙◌}
use Rattle.rm_sides.specs.Source.Outgoing.{Sending, accepted_count}
use Rattle.tables_ahead.proofs.SideLemmas.{not-sending}
use Rattle.tables_ahead.proofs.sides.accepted_len.Goals as goal

pub returns-in-Some-clause-count : goal.returns-in-Some-clause-count
returns-in-Some-clause-count c =
    let law = c.an_outgoing_sequence_is_as_recorded.ensures in
    c.accepted_len.ensures.count
    ∙ ap (λ (t : Sending). accepted_count t) (law c.args.tables.now.records c.args.seq _ (sym c.in-Some.ensures))

pub returns-in-None-clause-count : goal.returns-in-None-clause-count
returns-in-None-clause-count c =
    sym (not-sending c.args.tables.now.records c.args.seq c.requires (sym c.in-None.ensures)).count
