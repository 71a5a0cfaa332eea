use Rattle.std.proofs.Common.{◌≡◌, ◌++◌, List, map, option_map, drop}
use Rattle.soap_document.specs.Profile.Items.{a_declaration}
use Rattle.soap_document.specs.Profile.Namespaces.{declarations}
use Rattle.rm_base.specs.declared.message.Binding.{Binding}
use Rattle.soap_document.specs.Profile.View.{items_view}
use Rattle.soap_document.proofs.profile.names.declarations.Given as goal

-- the items so far and the attributes that are left
abbrev pub invariant-loop-attribute : goal.invariant-loop-attribute
invariant-loop-attribute l =
    let all = l.fn.attributes in
    let left = drop l.attribute-index all in
    option_map (λ (decls : List Binding). items_view l.items.items ++ map a_declaration decls) (declarations left)
    ≡ option_map (λ (decls : List Binding). items_view l.initial.items.items ++ map a_declaration decls)
    (declarations all)
