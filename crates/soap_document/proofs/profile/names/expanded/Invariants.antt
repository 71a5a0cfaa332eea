use Rattle.std.proofs.Common.{◌≡◌, ◌++◌, List, map, option_map, drop}
use Rattle.soap_document.specs.Profile.Items.{an_attribute}
use Rattle.soap_document.specs.Profile.Namespaces.{expanded}
use Rattle.soap_document.specs.Profile.Scope.{InForce}
use Rattle.soap_document.specs.Profile.Tree.{Attr}
use Rattle.rm_base.specs.declared.message.Binding.{Binding}
use Rattle.soap_document.specs.Profile.View.{items_view, decls_view}
use Rattle.soap_document.proofs.profile.names.expanded.Given as goal

-- the items so far and the attributes that are left, within the same bindings
abbrev pub invariant-loop-attribute : goal.invariant-loop-attribute
invariant-loop-attribute l =
    let all = l.fn.attributes in
    let left = drop l.attribute-index all in record {
      same : (bindings : List Binding) → InForce l.initial.scope bindings → InForce l.scope bindings;
      decls : decls_view l.items.items ≡ decls_view l.initial.items.items;
      attrs : (bindings : List Binding) → InForce l.initial.scope bindings
          → option_map (λ (attrs : List Attr). items_view l.items.items ++ map an_attribute attrs)
          (expanded bindings left)
          ≡ option_map (λ (attrs : List Attr). items_view l.initial.items.items ++ map an_attribute attrs)
          (expanded bindings all);
    }
