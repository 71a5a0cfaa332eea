use Rattle.std.proofs.Common.{◌≡◌, ℕ, ◌+◌, false, length, sym, ap, arith, ◌∙◌}
use Rattle.rm_sides.specs.Destination.Incoming.{Sequence, is_loose, items}
use Rattle.rm_sides.specs.Destination.ItemLemmas.{length-items}
use Rattle.rm_sides.specs.Destination.Messages.{by_number, items_of}
use Rattle.rm_sides.proofs.DestinationLemmas.KeptLemmas.{gone-ordered}
use Rattle.rm_sides.proofs.destination.incoming.Incoming.len.Goals as goal

pub overflow_add-result : goal.overflow_add-result
overflow_add-result c =
    let ordered : is_loose c.self.inside.behaviour ≡ false =
    ap (λ (s : Sequence). is_loose s.facts.behaviour) c.self.view_is ∙ c.requires in
    omega (arith, (c.self.invariant.behind ordered).few, c.len.ensures.few)

pub returns : goal.returns
returns c =
    let inside = c.self.inside in
    let ordered : is_loose inside.behaviour ≡ false =
    ap (λ (s : Sequence). is_loose s.facts.behaviour) c.self.view_is ∙ c.requires in
    ap (λ (n : ℕ). inside.gone + n) c.len.ensures.count
    ∙ sym (length-items inside.gone inside.arrivals.messages (c.self.invariant.behind ordered).rising)
    ∙ ap (λ gone. length (by_number (items_of gone inside.arrivals.messages)))
    (sym (gone-ordered (is_loose inside.behaviour) inside.gone inside.purged.ranges ordered))
    ∙ ap (λ (s : Sequence). length (by_number (items s.facts))) c.self.view_is
