use Rattle.soap_lex.proofs.TextFound.{reads_found}
use Rattle.soap_lex.proofs.TextRead.{reads_only}
use Rattle.soap_lex.proofs.laws.text_is_read.Goals as goal

pub returns-clause-only : goal.returns-clause-only
returns-clause-only c = reads_only

pub returns-clause-found : goal.returns-clause-found
returns-clause-found c = λ bytes before all rest e.
    let found = reads_found before bytes all rest e in
    (found.front, found.meaning, record { there = found.there; is = found.is; ends = found.stop }, found.sum)
