use Rattle.std.proofs.Common.{rules}
use Rattle.soap_document.proofs.scan.Scan.at_beginning.Goals as goal

pub returns-then-not-is_mark : goal.returns-then-not-is_mark
returns-then-not-is_mark c = λ top below outside. search (rules, c.refuse.ensures top below)

pub returns-then-byte-ne60 : goal.returns-then-byte-ne60
returns-then-byte-ne60 c = λ top below outside. search (rules, c.calm.ensures top below outside)
