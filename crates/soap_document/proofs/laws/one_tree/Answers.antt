use Rattle.std.proofs.Common.{rules}
use Rattle.soap_document.proofs.OnlyDocument.{one_tree as at_most_one}
use Rattle.soap_document.proofs.laws.one_tree.Goals as goal

pub returns : goal.returns
returns c = at_most_one (search rules)
