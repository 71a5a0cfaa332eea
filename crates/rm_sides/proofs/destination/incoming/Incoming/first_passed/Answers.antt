use Rattle.std.proofs.Common.{◌≡◌, ◌<◌, ◌≤◌, ◌∙◌, ℕ, false, ap, arith}
use Rattle.rm_base.specs.Message.{max_number}
use Rattle.rm_sides.specs.Ranges.Ranges.{in_ranges}
use Rattle.rm_sides.specs.Destination.Incoming.{Sequence, inbox, is_loose, items}
use Rattle.rm_sides.specs.Destination.Kept.{gone_by}
use Rattle.rm_sides.specs.Destination.LooseLemmas.{within-from}
use Rattle.rm_sides.specs.Destination.Messages.{front_of, items_of}
use Rattle.rm_sides.proofs.DestinationLemmas.ForgetLemmas.{inbox-few}
use Rattle.rm_sides.proofs.DestinationLemmas.KeptLemmas.{front-same}
use Rattle.rm_sides.proofs.destination.incoming.Incoming.first_passed.Goals as goal

pub insert_range-requires-clause-within : goal.insert_range-requires-clause-within
insert_range-requires-clause-within c =
    let f = c.args.self.now.facts in
    let inside = c.self.inside in
    let gone = gone_by (is_loose inside.behaviour) inside.gone inside.purged.ranges in
    let kept = c.self.invariant.all in
    let front : c.front-front.result ≡ front_of (items f) =
    front-same (items_of gone inside.arrivals.messages) inside.numbers.ranges c.front-front.result kept.rising kept.same
    c.front-front.ensures.front
    ∙ ap (λ (s : Sequence). front_of (items s.facts)) c.self.view_is in
    let cursor : inside.cursor ≡ f.cursor = ap (λ (s : Sequence). s.facts.cursor) c.self.view_is in
    let le : inside.cursor ≤ c.front-front.result =
    omega (arith, front, cursor, inbox-few f c.requires.ordered, c.requires.reached) in
    let pos : 0 < inside.cursor = omega (arith, cursor, c.requires.some) in
    (within-from 1 inside.cursor inside.numbers.ranges c.ranges-numbers.ensures.canonical
    (c.front-front.ensures.front.inside inside.cursor pos le)).1
