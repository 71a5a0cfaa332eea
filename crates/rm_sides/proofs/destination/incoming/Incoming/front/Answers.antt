use Rattle.std.proofs.Common.{ap, ◌∙◌}
use Rattle.rm_sides.specs.Destination.Incoming.{Sequence, is_loose, items}
use Rattle.rm_sides.specs.Destination.Kept.{gone_by}
use Rattle.rm_sides.specs.Destination.Messages.{front_of, items_of}
use Rattle.rm_sides.proofs.DestinationLemmas.KeptLemmas.{front-same}
use Rattle.rm_sides.proofs.destination.incoming.Incoming.front.Goals as goal

pub returns : goal.returns
returns c =
    let inside = c.self.inside in
    let kept = c.self.invariant.all in
    let gone = gone_by (is_loose inside.behaviour) inside.gone inside.purged.ranges in
    front-same (items_of gone inside.arrivals.messages) inside.numbers.ranges c.front.result kept.rising kept.same
    c.front.ensures.front
    ∙ ap (λ (s : Sequence). front_of (items s.facts)) c.self.view_is
