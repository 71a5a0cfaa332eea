use Rattle.soap_document.proofs.Inside.{run-append}
use Rattle.soap_document.proofs.laws.pieces_are_joined.Goals as goal

pub returns : goal.returns
returns c = run-append
