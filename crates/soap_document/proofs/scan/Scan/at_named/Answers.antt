use Rattle.std.proofs.Common.{rules}
use Rattle.soap_document.proofs.scan.Scan.at_named.Goals as goal

pub returns-else-byte-eq61 : goal.returns-else-byte-eq61
returns-else-byte-eq61 c = λ top below. search (rules, c.refuse.ensures top below)
