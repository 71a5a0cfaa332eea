use Rattle.std.proofs.Common.{◌≡◌, false, sym, ap, arith, ◌∙◌}
use Rattle.rm_sides.specs.Destination.Incoming.{Sequence, is_loose, items}
use Rattle.rm_sides.specs.Destination.ItemLemmas.{item_at-gone, item_at-there}
use Rattle.rm_sides.specs.Destination.Messages.{by_number, contents_of, item_at, items_of}
use Rattle.rm_sides.proofs.DestinationLemmas.KeptLemmas.{gone-ordered}
use Rattle.rm_sides.proofs.destination.incoming.Incoming.item.Goals as goal

pub returns-then-i-self : goal.returns-then-i-self
returns-then-i-self c =
    let inside = c.self.inside in
    let ordered : is_loose inside.behaviour ≡ false =
    ap (λ (s : Sequence). is_loose s.facts.behaviour) c.self.view_is ∙ c.requires in
    sym (item_at-gone inside.gone inside.arrivals.messages c.args.i (c.self.invariant.behind ordered).rising
    (omega arith))
    ∙ ap (λ gone. item_at (contents_of (by_number (items_of gone inside.arrivals.messages))) c.args.i)
    (sym (gone-ordered (is_loose inside.behaviour) inside.gone inside.purged.ranges ordered))
    ∙ ap (λ (s : Sequence). item_at (contents_of (by_number (items s.facts))) c.args.i) c.self.view_is

pub returns : goal.returns
returns c =
    let inside = c.self.inside in
    let ordered : is_loose inside.behaviour ≡ false =
    ap (λ (s : Sequence). is_loose s.facts.behaviour) c.self.view_is ∙ c.requires in
    c.nth.ensures
    ∙ sym (item_at-there inside.gone inside.arrivals.messages c.args.i (c.self.invariant.behind ordered).rising
    (omega arith))
    ∙ ap (λ gone. item_at (contents_of (by_number (items_of gone inside.arrivals.messages))) c.args.i)
    (sym (gone-ordered (is_loose inside.behaviour) inside.gone inside.purged.ranges ordered))
    ∙ ap (λ (s : Sequence). item_at (contents_of (by_number (items s.facts))) c.args.i) c.self.view_is
