use Rattle.std.proofs.Common.{◌≡◌, ◌==◌, List, [], ◌∷◌, length, refl, arith, sym, ap, ◌∙◌}
use Rattle.std.proofs.lemmas.Bool.{ne_eqb}
use Rattle.rm_sides.specs.declared.ranges.range.Range.{Range}
use Rattle.rm_sides.specs.Ranges.Changes.{covers_all, united}
use Rattle.rm_sides.specs.Source.Outgoing.{Sending}
use Rattle.tables_ahead.proofs.SideLemmas.{not-sending}
use Rattle.tables_ahead.proofs.sides.covers.Goals as goal

empty : (ranges : List Range) → (length ranges == 0) ≡ covers_all [] ranges
empty [] = refl
empty (range ∷ ranges) = ne_eqb (length (range ∷ ranges)) 0 (λ e. absurd (omega (arith, e)))

pub returns-in-Some : goal.returns-in-Some
returns-in-Some c =
    let law = c.an_outgoing_sequence_is_as_recorded.ensures in
    c.has_all.ensures
    ∙ ap (λ rs. covers_all rs c.args.ranges.now) (c.ranges-known.ensures.ranges ∙ c.acked.ensures.numbers
    ∙ ap (λ (t : Sending). t.acked) (law c.args.tables.now.records c.args.seq _ (sym c.in-Some.ensures)))

pub returns-in-None : goal.returns-in-None
returns-in-None c =
    let none = (not-sending c.args.tables.now.records c.args.seq c.requires (sym c.in-None.ensures)).acked_ in
    c.is_empty.ensures ∙ empty c.args.ranges.now ∙ sym (ap (λ rs. covers_all (united [] rs) c.args.ranges.now) none)
