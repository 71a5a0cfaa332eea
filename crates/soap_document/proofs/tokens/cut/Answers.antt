use Rattle.std.proofs.Common.{sym}
use Rattle.memchr.specs.Find.{is_byte}
use Rattle.soap_lex.specs.First.{all_fail}
use Rattle.soap_document.specs.Cuts.{cut_none}
use Rattle.soap_document.proofs.Answer.{cut_answer}
use Rattle.soap_document.proofs.tokens.cut.Goals as goal

pub returns-in-Some : goal.returns-in-Some
returns-in-Some c = cut_answer c.args.byte c.args.bytes.now c.in-Some.place (rw c.in-Some.is at c.first_byte.ensures)

pub returns-in-None : goal.returns-in-None
returns-in-None c = sym (cut_none c.args.byte c.args.bytes.now (all_fail (is_byte c.args.byte) c.args.bytes.now (rw
    c.in-None.is at c.first_byte.ensures)))
