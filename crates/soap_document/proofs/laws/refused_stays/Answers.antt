use Rattle.soap_document.specs.Machine.{run}
use Rattle.soap_document.proofs.Refused.{stays_refused, refused_has_none}
use Rattle.soap_document.proofs.laws.refused_stays.Goals as goal

pub returns-clause-stays : goal.returns-clause-stays
returns-clause-stays c = stays_refused

pub returns-clause-none : goal.returns-clause-none
returns-clause-none c s bytes h = refused_has_none (run s bytes) (stays_refused s bytes h)
