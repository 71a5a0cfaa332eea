use Rattle.std.proofs.Common.{◌≡◌, ◌∙◌, false, inl, inr, length, ap, arith}
use Rattle.std.proofs.lemmas.Bool.{cases_Bool}
use Rattle.rm_sides.specs.Destination.Incoming.{is_loose}
use Rattle.rm_sides.proofs.DestinationLemmas.InboxLemmas.{discarded-loose, item_at-discarded}
use Rattle.rm_sides.proofs.destination.incoming.Incoming.discarded_item.Goals as goal

pub overflow_add-inbox_len : goal.overflow_add-inbox_len
overflow_add-inbox_len c = omega (arith, c.inbox_len.ensures, c.discarded_len.ensures.few)

pub item-requires : goal.item-requires
item-requires c =
    let f = c.args.self.now.facts in
    elim (cases_Bool (is_loose f.behaviour)) [
      | inl loose ↦ absurd (omega (arith, ap length (discarded-loose f loose), c.discarded_len.ensures.count))
      | inr ordered ↦ ordered
    ]

pub returns : goal.returns
returns c =
    let f = c.args.self.now.facts in
    c.item.ensures
    ∙ rw c.inbox_len.ensures
    (item_at-discarded f c.args.i (omega arith) (omega (arith, c.discarded_len.ensures.count)))
