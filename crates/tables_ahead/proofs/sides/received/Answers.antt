use Rattle.std.proofs.Common.{[], sym, ap, ◌∙◌}
use Rattle.rm_sides.specs.Destination.Messages.{ranges_onto}
use Rattle.rm_sides.specs.Destination.Messages.{numbers_of}
use Rattle.tables_ahead.proofs.SideLemmas.{not-receiving}
use Rattle.tables_ahead.proofs.sides.received.Goals as goal

pub returns-in-None : goal.returns-in-None
returns-in-None c =
    let none = (not-receiving c.args.tables.now.records c.args.seq c.requires (sym c.in-None.ensures)).items_ in
    c.new.ensures ∙ sym (ap (λ ms. ranges_onto [] (numbers_of ms)) none)
