use Rattle.std.proofs.Common.{[], rules}
use Rattle.soap_document.specs.Profile.Namespaces.{element_name, attribute_name}
use Rattle.soap_document.proofs.profile.scope.Scope.new.Goals as goal

pub returns : goal.returns
returns c = record {
  stacks = search rules;
  elements = c.new-2.ensures (element_name []);
  attributes = c.new-3.ensures (attribute_name []);
}
