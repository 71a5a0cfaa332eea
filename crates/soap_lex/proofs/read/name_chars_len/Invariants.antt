use Rattle.soap_lex.proofs.NameLemmas.{NameSo}
use Rattle.soap_lex.proofs.read.name_chars_len.Given as goal

abbrev pub invariant-loop-c : goal.invariant-loop-c
invariant-loop-c l = NameSo l.text l.characters.rest.now l.end
