use Rattle.std.proofs.Common.{◌≡◌, ◌-◌, ◌∙◌, true, sym, ap, arith}
use Rattle.std.specs.Prelude.{slice_get}
use Rattle.rm_sides.specs.Ranges.Ranges.{count_of}
use Rattle.rm_sides.specs.Destination.Incoming.{Sequence, is_loose}
use Rattle.rm_sides.specs.Destination.ItemLemmas.{item_at-earliest, item_at-later}
use Rattle.rm_sides.specs.Destination.Messages.{contents_of, item_at}
use Rattle.rm_sides.proofs.DestinationLemmas.InboxLemmas.{inbox-loose}
use Rattle.rm_sides.proofs.DestinationLemmas.KeptLemmas.{gone-loose}
use Rattle.rm_sides.proofs.destination.incoming.Incoming.arrival.Goals as goal

pub returns-then-i-gone : goal.returns-then-i-gone
returns-then-i-gone c =
    let f = c.args.self.now.facts in
    let inside = c.self.inside in
    let loose : is_loose inside.behaviour ≡ true =
    ap (λ (s : Sequence). is_loose s.facts.behaviour) c.self.view_is ∙ c.requires.loose in
    let count : c.count-gone.result ≡ count_of f.purged =
    c.count-gone.ensures
    ∙ ap count_of (sym (gone-loose (is_loose inside.behaviour) inside.gone inside.purged.ranges loose))
    ∙ ap (λ (s : Sequence). count_of s.facts.purged) c.self.view_is in
    sym (ap (λ box. item_at box c.args.i) (inbox-loose f c.requires.loose)
    ∙ item_at-earliest f.purged f.received c.args.i (omega (arith, count)))

pub returns : goal.returns
returns c =
    let f = c.args.self.now.facts in
    let inside = c.self.inside in
    let loose : is_loose inside.behaviour ≡ true =
    ap (λ (s : Sequence). is_loose s.facts.behaviour) c.self.view_is ∙ c.requires.loose in
    let count : c.count-gone.result ≡ count_of f.purged =
    c.count-gone.ensures
    ∙ ap count_of (sym (gone-loose (is_loose inside.behaviour) inside.gone inside.purged.ranges loose))
    ∙ ap (λ (s : Sequence). count_of s.facts.purged) c.self.view_is in
    c.came_at.ensures
    ∙ ap (λ (s : Sequence). slice_get (contents_of s.facts.received) (c.args.i - c.count-gone.result - 1))
    c.self.view_is
    ∙ ap (λ n. slice_get (contents_of f.received) (c.args.i - n - 1)) count
    ∙ sym (ap (λ box. item_at box c.args.i) (inbox-loose f c.requires.loose)
    ∙ item_at-later f.purged f.received c.args.i (omega (arith, count)))
