use Rattle.std.proofs.Common.{◌≡◌, ◌≤◌, ◌∙◌, false, inl, inr, length, sym, ap, arith}
use Rattle.rm_sides.specs.Destination.Incoming.{Sequence, inbox, is_loose}
use Rattle.rm_sides.proofs.DestinationLemmas.InboxLemmas.{item_at-inbox, item_at-past}
use Rattle.rm_sides.proofs.destination.incoming.Incoming.inbox_item.Goals as goal

pub returns-then-i-inbox_len : goal.returns-then-i-inbox_len
returns-then-i-inbox_len c =
    sym (item_at-past (inbox c.args.self.now.facts) c.args.i (omega (arith, c.inbox_len.ensures)))

pub returns-in-EntireSequence : goal.returns-in-EntireSequence
returns-in-EntireSequence c =
    let f = c.args.self.now.facts in
    let ordered : is_loose c.self.inside.behaviour ≡ false = elim c.in-EntireSequence.is [
      | inl e ↦ ap is_loose e
      | inr e ↦ ap is_loose e
    ] in
    c.item.ensures
    ∙ item_at-inbox f c.args.i
    (sym (ap (λ (s : Sequence). is_loose s.facts.behaviour) c.self.view_is) ∙ ordered)
    (let to : c.args.i ≤ length (inbox f) = omega (arith, c.if-i-inbox_len.false, c.inbox_len.ensures) in to)
