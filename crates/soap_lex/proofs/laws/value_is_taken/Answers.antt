use Rattle.soap_lex.proofs.ValueRead.{inner_takes}
use Rattle.soap_lex.proofs.ValueWhole.{no_ampersand}
use Rattle.soap_lex.proofs.laws.value_is_taken.Goals as goal

pub returns : goal.returns
returns c = λ quote inner meaning before quotes is. inner_takes quote is before (no_ampersand quote quotes)
