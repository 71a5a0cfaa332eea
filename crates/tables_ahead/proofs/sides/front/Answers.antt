use Rattle.std.proofs.Common.{[], length, sym, ap, ◌∙◌}
use Rattle.rm_sides.specs.Destination.Messages.{sorted_onto, without_gap}
use Rattle.tables_ahead.proofs.FrontLemmas.{one-front}
use Rattle.tables_ahead.proofs.SideLemmas.{not-receiving}
use Rattle.tables_ahead.proofs.sides.front.Goals as goal

pub returns-in-Some : goal.returns-in-Some
returns-in-Some c =
    let law = c.an_incoming_sequence_is_as_recorded.ensures in
    let is = law c.args.tables.now.records c.args.seq _ (sym c.in-Some.ensures) in
    one-front _ _ _ c.ranges-known.ensures.canonical c.received-numbers.ensures.same c.front.ensures.front
    c.front_is_reached.ensures ∙ is.front_

pub returns-in-None : goal.returns-in-None
returns-in-None c =
    let none = (not-receiving c.args.tables.now.records c.args.seq c.requires (sym c.in-None.ensures)).items_ in
    sym (ap (λ ms. length (without_gap 0 (sorted_onto [] ms))) none)
