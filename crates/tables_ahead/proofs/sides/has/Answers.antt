use Rattle.std.proofs.Common.{sym, ap, ◌∙◌}
use Rattle.rm_base.specs.NumberSet.{has_number}
use Rattle.rm_sides.specs.Destination.Messages.{numbers_of}
use Rattle.tables_ahead.proofs.SideLemmas.{not-receiving}
use Rattle.tables_ahead.proofs.sides.has.Goals as goal

pub returns-in-Some : goal.returns-in-Some
returns-in-Some c =
    let law = c.an_incoming_sequence_is_as_recorded.ensures in
    let is = law c.args.tables.now.records c.args.seq _ (sym c.in-Some.ensures) in
    c.has.ensures ∙ c.received.ensures.same c.args.number ∙ ap (λ ns. has_number ns c.args.number) is.numbers

pub returns-in-None : goal.returns-in-None
returns-in-None c =
    let none = (not-receiving c.args.tables.now.records c.args.seq c.requires (sym c.in-None.ensures)).items_ in
    sym (ap (λ ms. has_number (numbers_of ms) c.args.number) none)
