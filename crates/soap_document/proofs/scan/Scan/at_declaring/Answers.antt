use Rattle.std.proofs.Common.{rules}
use Rattle.soap_document.proofs.scan.Scan.at_declaring.Goals as goal

pub returns-then-is_declaration : goal.returns-then-is_declaration
returns-then-is_declaration c = λ top below outside. search (rules, c.calm.ensures top below outside)

pub returns-else-is_declaration : goal.returns-else-is_declaration
returns-else-is_declaration c = λ top below outside. search (rules, c.refuse.ensures top below)
