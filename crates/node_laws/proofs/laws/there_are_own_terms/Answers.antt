use Rattle.node_laws.proofs.Owned.{there-are-own}
use Rattle.node_laws.proofs.laws.there_are_own_terms.Goals as goal

pub returns : goal.returns
returns c = there-are-own (record {
  read = c.document_is_read.ensures;
  made = c.content_makes_a_document.ensures.made;
  found = c.content_makes_a_document.ensures.found;
})
