use Rattle.std.proofs.Common.{rules}
use Rattle.soap_document.proofs.scan.Scan.at_commenting.Goals as goal

pub returns-then-is_comment : goal.returns-then-is_comment
returns-then-is_comment c = λ top below outside. search (rules, c.calm.ensures top below outside)

pub returns-else-is_comment : goal.returns-else-is_comment
returns-else-is_comment c = λ top below outside. search (rules, c.refuse.ensures top below)
