use Rattle.soap_document.specs.Machine.{run, start}
use Rattle.soap_document.proofs.profile.document.DocumentReader.is_refused.Goals as goal

pub returns : goal.returns
returns c = λ bytes h. c.is_refused.ensures (run start bytes) h
