use Rattle.std.proofs.Common.{rules}
use Rattle.soap_document.proofs.FoundDocument.{document_found}
use Rattle.soap_document.proofs.OnlyDocument.{document_only}
use Rattle.soap_document.proofs.laws.document_is_read.Goals as goal

pub returns : goal.returns
returns c bytes root = (document_only (search rules), document_found (search rules) bytes root)
