use Rattle.std.proofs.Common.{[], sym, ap, ◌∙◌}
use Rattle.rm_sides.specs.Ranges.Changes.{united}
use Rattle.tables_ahead.proofs.SideLemmas.{not-sending}
use Rattle.tables_ahead.proofs.sides.acked.Goals as goal

pub returns-in-None : goal.returns-in-None
returns-in-None c =
    let none = (not-sending c.args.tables.now.records c.args.seq c.requires (sym c.in-None.ensures)).acked_ in
    c.new.ensures ∙ sym (ap (united []) none)
