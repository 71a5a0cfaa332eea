use Rattle.std.proofs.Common.{sym, ap, ◌∙◌}
use Rattle.std.specs.Prelude.{not}
use Rattle.rm_sides.specs.Destination.Messages.{any_true}
use Rattle.tables_ahead.proofs.SideLemmas.{ended-shut, not-receiving}
use Rattle.tables_ahead.proofs.sides.has_end.Goals as goal

pub returns-in-Some : goal.returns-in-Some
returns-in-Some c =
    ap not c.fits.ensures ∙ ended-shut c.args.tables.now.records c.args.seq _ (sym c.in-Some.ensures)

pub returns : goal.returns
returns c =
    let none = (not-receiving c.args.tables.now.records c.args.seq c.requires (sym c.in-None.ensures)).closes_ in
    sym (ap any_true none)
