use Rattle.soap_lex.proofs.ValueRead.{reads_only, reads_found}
use Rattle.soap_lex.proofs.ValueWhole.{no_ampersand}
use Rattle.soap_lex.proofs.laws.value_is_read.Goals as goal

pub returns-clause-only : goal.returns-clause-only
returns-clause-only c = λ quote inner rest meaning before quotes is.
    reads_only quote inner rest meaning before (no_ampersand quote quotes) is

pub returns-clause-found : goal.returns-clause-found
returns-clause-found c = λ quote bytes before all rest e.
    let found = reads_found quote before bytes all rest e in
    (found.inner, found.meaning, found.there, found.is, found.sum)
