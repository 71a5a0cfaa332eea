use Rattle.std.proofs.Common.{rules}
use Rattle.soap_document.proofs.scan.Scan.at_outside.Goals as goal

pub returns-else-is_white : goal.returns-else-is_white
returns-else-is_white c = λ top below. search (rules, c.refuse.ensures top below)
