use Rattle.soap_envelope.proofs.Unique.{not_version, not_none, not_twice}
use Rattle.soap_envelope.proofs.laws.one_answer.Goals as goal

pub returns : goal.returns
returns c = record {
  version = not_version c.one_tree.ensures;
  outline = not_none c.one_tree.ensures;
  refusals = not_twice c.one_tree.ensures;
}
