use Rattle.soap_lex.proofs.EscapeLemmas.{Escaped}
use Rattle.soap_lex.proofs.write.push_escaped.Given as goal

abbrev pub invariant-loop-i : goal.invariant-loop-i
invariant-loop-i l = Escaped l.quoted l.initial.out.items l.bytes l.out.items l.start l.i
