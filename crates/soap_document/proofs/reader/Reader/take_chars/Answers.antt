use Rattle.soap_document.proofs.reader.Reader.take_chars.Goals as goal

pub take_less-requires-clause-fresh : goal.take_less-requires-clause-fresh
take_less-requires-clause-fresh g c = λ text. (c.is_fresh.ensures text).0 c.if-is_fresh.true
