use Rattle.std.proofs.Common.{rules}
use Rattle.soap_document.proofs.scan.Scan.at_attribute.Goals as goal

pub returns-then-not-is_qname : goal.returns-then-not-is_qname
returns-then-not-is_qname c = λ top below. search (rules, c.refuse.ensures top below)
