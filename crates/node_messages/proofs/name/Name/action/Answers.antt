use Rattle.std.proofs.Common.{List, ℕ, sym, subst}
use Rattle.rm_base.specs.Text.{IsText}
use Rattle.node_messages.proofs.TextLemmas.{action_text}
use Rattle.node_messages.proofs.name.Name.action.Goals as goal

pub returns-clause-is_text : goal.returns-clause-is_text
returns-clause-is_text c = subst (λ (t : List ℕ). IsText 2048 t) (sym c.bytes.ensures) (action_text c.args.self)
