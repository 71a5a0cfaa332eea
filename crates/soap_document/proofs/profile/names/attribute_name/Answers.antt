use Rattle.std.proofs.Common.{◌≡◌, List, ℕ, Some, sym, ap, ◌∙◌}
use Rattle.soap_document.specs.Profile.Namespaces.{attribute_name, attribute_space}
use Rattle.soap_document.specs.Profile.Tree.{Expanded}
use Rattle.soap_document.proofs.ProfileLemmas.Tags.{name_is}
use Rattle.soap_document.proofs.profile.names.attribute_name.Goals as goal

pub returns-in-Some-clause-name : goal.returns-in-Some-clause-name
returns-in-Some-clause-name c = λ bindings h.
    ap (λ (x : Expanded). Some x) c.in_ok-share.ensures ∙ sym (c.in-Some.ensures (attribute_name bindings) h.attributes)

pub returns-clause-same : goal.returns-clause-same
returns-clause-same c = λ bindings h.
    let space = sym (c.in_ok-space.ensures bindings h.stacks) ∙ c.in-Some-2.is in
    let known : attribute_name bindings c.args.written.now ≡ Some c.in_ok-name.name =
    name_is (λ (prefix : List ℕ). attribute_space prefix bindings) c.args.written.now _ _ _ _ c.split.ensures space
    c.in_ok-name.ensures in record {
      stacks = h.stacks;
      elements = h.elements;
      attributes = c.in_ok-keep.ensures (attribute_name bindings) h.attributes known;
    }
