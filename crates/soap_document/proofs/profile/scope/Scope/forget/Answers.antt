use Rattle.soap_document.specs.Profile.Namespaces.{element_name, attribute_name}
use Rattle.soap_document.proofs.profile.scope.Scope.forget.Goals as goal

pub returns : goal.returns
returns c = λ before bindings elements attributes h. record {
  stacks = h;
  elements = c.forget.ensures (element_name before) (element_name bindings) elements;
  attributes = c.forget-2.ensures (attribute_name before) (attribute_name bindings) attributes;
}
