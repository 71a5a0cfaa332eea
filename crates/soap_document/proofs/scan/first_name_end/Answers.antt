use Rattle.std.proofs.Common.{◌≡◌, true, get_or, sym, ◌∙◌, arith}
use borrow.Author.Count.{below_more}
use Rattle.soap_document.specs.Machine.{is_name_end}
use Rattle.soap_document.proofs.scan.first_name_end.Goals as goal

pub returns-then-is_name_end : goal.returns-then-is_name_end
returns-then-is_name_end c = (
  record { low = omega arith; high = c.loop-i-test.true; before = λ k low less e. c.loop-i.invariant k less e },
  sym c.is_name_end.ensures ∙ c.if-is_name_end.true,
)

pub loop-i-preserved : goal.loop-i-preserved
loop-i-preserved c =
    below_more (λ k. is_name_end (get_or c.args.bytes.now k 0) ≡ true → ⊥) c.loop-i.i c.loop-i.invariant (λ e. cc)
