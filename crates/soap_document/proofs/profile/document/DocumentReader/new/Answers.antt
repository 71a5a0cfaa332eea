use Rattle.soap_document.proofs.profile.document.DocumentReader.new.Goals as goal

pub returns-clause-fed : goal.returns-clause-fed
returns-clause-fed c = c.new-reader.ensures.sees c.in_ok-resolver.ensures.stands
