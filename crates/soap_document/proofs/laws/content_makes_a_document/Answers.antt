use Rattle.std.proofs.Common.{rules}
use Rattle.soap_document.proofs.Inside.{is_document, root_inside}
use Rattle.soap_document.proofs.laws.content_makes_a_document.Goals as goal

pub returns-clause-made : goal.returns-clause-made
returns-clause-made c = is_document

pub returns-clause-found : goal.returns-clause-found
returns-clause-found c = root_inside (search rules)
