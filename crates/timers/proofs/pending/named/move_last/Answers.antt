use Rattle.std.proofs.Common.{ap, ◌∙◌, ◌++◌, ◌∷◌, []}
use Rattle.std.specs.Prelude.{remove}
use Rattle.std.proofs.lemmas.List.{get_or_default}
use Rattle.timers.proofs.pending.named.move_last.Goals as goal

pub returns-clause-items : goal.returns-clause-items
returns-clause-items c =
    let order = c.args.order.now.items in
    c.in-Ok.ensures.items ∙ ap (λ z. z ++ c.remove-number.result ∷ []) c.remove-number.ensures.items
    ∙ ap (λ z. remove order c.args.at ++ z ∷ [])
    (c.remove-number.ensures.value ∙ get_or_default order c.args.at c.remove-number.result 0 c.requires)
