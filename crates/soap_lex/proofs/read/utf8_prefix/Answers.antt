use Rattle.std.proofs.Common.{arith, inl, inr}
use Rattle.std.proofs.lemmas.Bool.{cases_lt}
use Rattle.soap_lex.proofs.read.utf8_prefix.Goals as goal

pub returns-in-Err-clause-longest : goal.returns-in-Err-clause-longest
returns-in-Err-clause-longest c = λ n within utf8.
    elim (cases_lt c.valid_up_to.result n) [
      | inl past ↦ absurd (c.in-Err.ensures.cases.1.longest n (omega arith) utf8)
      | inr so ↦ so
    ]
