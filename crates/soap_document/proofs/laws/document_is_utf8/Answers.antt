use Rattle.soap_document.proofs.Utf8.{document_utf8}
use Rattle.soap_document.proofs.laws.document_is_utf8.Goals as goal

pub returns : goal.returns
returns c = document_utf8
