use Rattle.std.proofs.Common.{ap, ◌∙◌}
use Rattle.rm_base.specs.NumberSet.{greatest_of}
use Rattle.rm_sides.specs.Destination.Incoming.{Sequence, is_loose, items}
use Rattle.rm_sides.specs.Destination.Kept.{gone_by}
use Rattle.rm_sides.specs.Destination.Messages.{by_number, numbers_of, items_of}
use Rattle.rm_sides.proofs.DestinationLemmas.KeptLemmas.{greatest-same}
use Rattle.rm_sides.proofs.destination.incoming.Incoming.last_number.Goals as goal

pub returns-then-told-eq0 : goal.returns-then-told-eq0
returns-then-told-eq0 c =
    let inside = c.self.inside in
    let gone = gone_by (is_loose inside.behaviour) inside.gone inside.purged.ranges in
    rw c.if-told-eq0.true
    (greatest-same (items_of gone inside.arrivals.messages) inside.numbers.ranges
    c.greatest.result c.self.invariant.all.same c.greatest.ensures.greatest
    ∙ ap (λ (s : Sequence). greatest_of (numbers_of (by_number (items s.facts)))) c.self.view_is)
