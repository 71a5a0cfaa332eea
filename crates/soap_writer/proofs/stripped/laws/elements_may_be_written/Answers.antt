use Rattle.soap_writer.proofs.StrippedLemmas.Elements.{document_resolved}
use Rattle.soap_writer.proofs.stripped.laws.elements_may_be_written.Goals as goal

pub returns : goal.returns
returns c = document_resolved
