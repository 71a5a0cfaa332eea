use Rattle.std.proofs.Common.{◌≡◌, ◌∙◌, true, length, sym, ap}
use Rattle.rm_sides.specs.Destination.Incoming.{Sequence, is_loose}
use Rattle.rm_sides.proofs.DestinationLemmas.InboxLemmas.{discarded-loose}
use Rattle.rm_sides.proofs.destination.incoming.Incoming.discarded_len.Goals as goal

pub returns-then-is_loose-clause-count : goal.returns-then-is_loose-clause-count
returns-then-is_loose-clause-count c =
    let f = c.args.self.now.facts in
    let loose : is_loose f.behaviour ≡ true =
    ap (λ (s : Sequence). is_loose s.facts.behaviour) (sym c.self.view_is) ∙ sym c.is_loose.ensures
    ∙ c.if-is_loose.true in
    sym (ap length (discarded-loose f loose))
