use Rattle.std.proofs.Common.{◌≡◌, ◌∙◌, sym, None, Some}
use Rattle.rm_command.proofs.WordLemmas.{Asks-not_soak}
use Rattle.rm_command.proofs.command.soak_of.Goals as goal

pub returns-in_err-number : goal.returns-in_err-number
returns-in_err-number c =
    rw c.from_residual.ensures (Asks-not_soak c.args.name.now c.args.number.now (λ n small name text.
    let found : None ≡ Some n = sym c.in_err-number.was ∙ c.number_in.ensures.only n small text in cc (found)))

pub returns-else-is_soak : goal.returns-else-is_soak
returns-else-is_soak c =
    Asks-not_soak c.args.name.now c.args.number.now (λ n small name text.
    let yes = c.is_soak.ensures.1 name in cc (yes, c.if-is_soak.false))
