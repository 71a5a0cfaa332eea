use Rattle.std.proofs.Common.{drop}
use Rattle.soap_lex.proofs.NumberLemmas.{NumberSo}
use Rattle.soap_lex.proofs.references.number.Given as goal

abbrev pub invariant-loop-digit : goal.invariant-loop-digit
invariant-loop-digit l = NumberSo l.base l.number l.digits (drop l.digit-index l.digits)
