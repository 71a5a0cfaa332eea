use Rattle.soap_document.proofs.Between
use Rattle.soap_document.proofs.laws.content_stands_between.Goals as goal

pub returns : goal.returns
returns c = Between.content_stands_between
