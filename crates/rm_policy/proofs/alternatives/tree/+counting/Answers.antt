use Rattle.std.proofs.Common.{◌≡◌, ◌+◌, ◌∙◌, ap, sym, arith}
use Rattle.std.proofs.Math.ListN.{drop_of_length-le}
use Rattle.soap_document.specs.Profile.View.{parts_view}
use Rattle.rm_policy.specs.Alternatives.Reading.{count_among, counted}
use Rattle.rm_policy.proofs.alternatives.tree.+counting.Goals as goal

pub count_among-returns : goal.count_among-returns
count_among-returns t c =
    let all : counted (c.loop-item.count + 0) ≡ counted (count_among (parts_view c.args.items.now)) =
    ap (λ l. counted (c.loop-item.count + count_among (parts_view l)))
    (sym (drop_of_length-le c.args.items.now c.loop-item-test.false)) ∙ c.loop-item.invariant.0 in
    omega (arith, all, c.loop-item.invariant.1)
