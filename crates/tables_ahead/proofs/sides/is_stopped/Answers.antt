use Rattle.std.proofs.Common.{sym, ap, ◌∙◌}
use Rattle.std.specs.Prelude.{not}
use Rattle.rm_sides.specs.Destination.Messages.{is_empty}
use Rattle.tables_ahead.proofs.SideLemmas.{stopped-shut, not-receiving}
use Rattle.tables_ahead.proofs.sides.is_stopped.Goals as goal

pub returns-in-Some : goal.returns-in-Some
returns-in-Some c =
    ap not c.fits.ensures ∙ stopped-shut c.args.tables.now.records c.args.seq _ (sym c.in-Some.ensures)

pub returns : goal.returns
returns c =
    let none = (not-receiving c.args.tables.now.records c.args.seq c.requires (sym c.in-None.ensures)).closes_ in
    sym (ap (λ cs. not (is_empty cs)) none)
