use Rattle.std.proofs.Common.{sym, ap, ◌∙◌}
use Rattle.rm_sides.specs.Source.Outgoing.{Sending}
use Rattle.tables_ahead.proofs.SideLemmas.{not-sending}
use Rattle.tables_ahead.proofs.sides.phase.Goals as goal

pub returns-in-Some : goal.returns-in-Some
returns-in-Some c =
    let law = c.an_outgoing_sequence_is_as_recorded.ensures in
    c.phase.ensures ∙ ap (λ (t : Sending). t.phase) (law c.args.tables.now.records c.args.seq _ (sym c.in-Some.ensures))

pub returns-in-None : goal.returns-in-None
returns-in-None c =
    sym (not-sending c.args.tables.now.records c.args.seq c.requires (sym c.in-None.ensures)).phase_
