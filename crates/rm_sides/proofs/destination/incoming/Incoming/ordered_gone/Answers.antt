use Rattle.std.proofs.Common.{◌≡◌, ◌∙◌, None, false, inl, inr, length, sym, ap}
use Rattle.rm_sides.specs.Ranges.Ranges.{count_of}
use Rattle.rm_base.specs.NumberSetLemmas.{lt-or-le}
use Rattle.rm_sides.specs.Destination.Incoming.{Sequence, inbox, is_loose, items}
use Rattle.rm_sides.specs.Destination.ItemLemmas.{count_of-run_to, item_at-gone}
use Rattle.rm_sides.specs.Destination.Messages.{by_number, contents_of, item_at, items_of}
use Rattle.rm_sides.proofs.DestinationLemmas.InboxLemmas.{item_at-inbox, item_at-past}
use Rattle.rm_sides.proofs.DestinationLemmas.KeptLemmas.{gone-ordered}
use Rattle.rm_sides.proofs.destination.incoming.Incoming.ordered_gone.Goals as goal

pub returns-clause-count : goal.returns-clause-count
returns-clause-count c =
    let inside = c.self.inside in
    let ordered : is_loose inside.behaviour ≡ false =
    ap (λ (s : Sequence). is_loose s.facts.behaviour) c.self.view_is ∙ c.requires.ordered in
    sym (count_of-run_to inside.gone)
    ∙ ap count_of (sym (gone-ordered (is_loose inside.behaviour) inside.gone inside.purged.ranges ordered))
    ∙ ap (λ (s : Sequence). count_of s.facts.purged) c.self.view_is

pub returns-clause-none : goal.returns-clause-none
returns-clause-none c = λ i to.
    let f = c.args.self.now.facts in
    let inside = c.self.inside in
    let ordered : is_loose inside.behaviour ≡ false =
    ap (λ (s : Sequence). is_loose s.facts.behaviour) c.self.view_is ∙ c.requires.ordered in
    let all : item_at (contents_of (by_number (items f))) i ≡ None =
    sym (ap (λ (s : Sequence). item_at (contents_of (by_number (items s.facts))) i) c.self.view_is)
    ∙ ap (λ gone. item_at (contents_of (by_number (items_of gone inside.arrivals.messages))) i)
    (gone-ordered (is_loose inside.behaviour) inside.gone inside.purged.ranges ordered)
    ∙ item_at-gone inside.gone inside.arrivals.messages i (c.self.invariant.behind ordered).rising to in
    elim (lt-or-le (length (inbox f)) i) [
      | inl past ↦ item_at-past (inbox f) i past
      | inr within ↦ sym (item_at-inbox f i c.requires.ordered within) ∙ all
    ]
