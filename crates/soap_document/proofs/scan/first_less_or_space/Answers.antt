use Rattle.std.proofs.Common.{sym, ◌∙◌, arith}
use Rattle.soap_document.proofs.scan.first_less_or_space.Goals as goal

pub returns-then-is_less_or_space : goal.returns-then-is_less_or_space
returns-then-is_less_or_space c = (
  record { low = omega arith; high = c.loop-i-test.true; before = λ k low less e. c.loop-i.invariant k less e },
  sym c.is_less_or_space.ensures ∙ c.if-is_less_or_space.true,
)
