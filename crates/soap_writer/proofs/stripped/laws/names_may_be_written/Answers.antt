use Rattle.soap_writer.proofs.StrippedLemmas.Names.{parted}
use Rattle.soap_writer.proofs.StrippedLemmas.Spaces.{element_named}
use Rattle.soap_writer.proofs.stripped.laws.names_may_be_written.Goals as goal

pub returns : goal.returns
returns c = λ scope written name outer q e. element_named scope outer written name (parted q).local e
