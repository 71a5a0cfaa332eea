use Rattle.std.proofs.Common.{◌≡◌, ◌∙◌, true, sym, ap, arith}
use Rattle.rm_sides.specs.Ranges.Ranges.{count_of}
use Rattle.rm_sides.specs.Destination.Incoming.{Sequence, is_loose}
use Rattle.rm_sides.specs.Destination.ItemLemmas.{item_at-earliest}
use Rattle.rm_sides.specs.Destination.Messages.{item_at}
use Rattle.rm_sides.proofs.DestinationLemmas.InboxLemmas.{inbox-loose}
use Rattle.rm_sides.proofs.DestinationLemmas.KeptLemmas.{gone-loose}
use Rattle.rm_sides.proofs.destination.incoming.Incoming.loose_gone.Goals as goal

pub returns-clause-count : goal.returns-clause-count
returns-clause-count c =
    let inside = c.self.inside in
    let loose : is_loose inside.behaviour ≡ true =
    ap (λ (s : Sequence). is_loose s.facts.behaviour) c.self.view_is ∙ c.requires.loose in
    c.count.ensures
    ∙ ap count_of (sym (gone-loose (is_loose inside.behaviour) inside.gone inside.purged.ranges loose))
    ∙ ap (λ (s : Sequence). count_of s.facts.purged) c.self.view_is

pub returns-clause-none : goal.returns-clause-none
returns-clause-none c = λ i to.
    let f = c.args.self.now.facts in
    let inside = c.self.inside in
    let loose : is_loose inside.behaviour ≡ true =
    ap (λ (s : Sequence). is_loose s.facts.behaviour) c.self.view_is ∙ c.requires.loose in
    let count : c.count.result ≡ count_of f.purged =
    c.count.ensures
    ∙ ap count_of (sym (gone-loose (is_loose inside.behaviour) inside.gone inside.purged.ranges loose))
    ∙ ap (λ (s : Sequence). count_of s.facts.purged) c.self.view_is in
    ap (λ box. item_at box i) (inbox-loose f c.requires.loose)
    ∙ item_at-earliest f.purged f.received i (omega (arith, to, count))
