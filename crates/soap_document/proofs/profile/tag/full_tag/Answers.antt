use Rattle.std.proofs.Common.{◌≡◌, ◌++◌, List, true, sym, subst, ◌∙◌}
use Rattle.soap_lex.specs.Facts.{nil_from_len}
use Rattle.soap_document.specs.Profile.Namespaces.{declarations, are_distinct}
use Rattle.soap_document.specs.Profile.Scope.{InForce}
use Rattle.rm_base.specs.declared.message.Binding.{Binding}
use Rattle.soap_document.specs.Profile.View.{items_view, decls_view}
use Rattle.soap_document.specs.declared.profile.scope.Scope.{Scope}
use Rattle.soap_document.specs.declared.profile.tree.Item.{Item}
use Rattle.soap_document.proofs.ProfileLemmas.Tags.{declared_of, within_declared, tag_is, same_tag, within_tag}
use Rattle.soap_document.proofs.profile.tag.full_tag.Goals.{then-not-is_empty+in_ok-enter, else-not-is_empty}
use Rattle.soap_document.proofs.profile.tag.full_tag.Goals as goal

entered : (c : goal.After-tag_within) (bindings : List Binding) → InForce c.args.scope.now bindings
    → InForce c.if-not-is_empty.scope (decls_view c.declarations.new.items.items ++ bindings)
entered c bindings h = elim c.if-not-is_empty.branch [
  | then-not-is_empty+in_ok-enter w ↦
      subst (λ (s : Scope). InForce s (decls_view c.declarations.new.items.items ++ bindings)) (sym w.scope-is)
      (subst (λ (xs : List Item). InForce w.enter.new.self (decls_view xs ++ bindings)) w.as_slice.ensures.value
      (w.in_ok-enter.ensures bindings (record { stacks = h.stacks; elements = h.elements; attributes = h.attributes })))
  | else-not-is_empty w ↦
      let none = nil_from_len c.declarations.new.items.items c.declarations.new.items.len c.declarations.new.items.ok.0
      (sym c.is_empty.ensures ∙ w.if-not-is_empty.false) in
      subst (λ (s : Scope). InForce s (decls_view c.declarations.new.items.items ++ bindings)) (sym w.scope-is)
      (subst (λ (xs : List Item). InForce (record {
        stacks = c.args.scope.now.stacks;
        elements = c.args.scope.now.elements;
        attributes = c.args.scope.now.attributes;
        predeclared = c.args.scope.now.predeclared;
        recent = c.declarations.new.recent;
      }) (decls_view xs ++ bindings)) (sym none)
      (record { stacks = h.stacks; elements = h.elements; attributes = h.attributes }))
]

pub returns-clause-tag : goal.returns-clause-tag
returns-clause-tag c = λ bindings h.
    let name = c.args.name.now in
    let attributes = c.args.attributes.now in
    let items = c.declarations.new.items.items in
    let (decls, (is, view)) = declared_of _ c.args.items.items (items_view items) (declarations attributes) c.requires
    c.in_ok-declarations.ensures c.if-not-branch-2.false in
    let distinct : are_distinct attributes ≡ true = sym c.in_ok-are_distinct.ensures ∙ c.if-not-branch.false in
    let within = within_declared c.if-not-is_empty.scope items decls bindings view (entered c bindings h) in
    same_tag c.tag_within.result _ _ (c.tag_within.ensures.tag (decls ++ bindings) decls within view)
    (tag_is bindings name attributes decls distinct is)

pub returns-clause-within : goal.returns-clause-within
returns-clause-within c = λ bindings h.
    let items = c.declarations.new.items.items in
    let (decls, (is, view)) = declared_of _ c.args.items.items (items_view items) (declarations c.args.attributes.now)
    c.requires c.in_ok-declarations.ensures c.if-not-branch-2.false in
    let within = within_declared c.if-not-is_empty.scope items decls bindings view (entered c bindings h) in
    within_tag c.tag_within.result c.tag_within.new.scope decls bindings (c.tag_within.ensures.same (decls ++ bindings)
    within) (c.tag_within.ensures.decls decls view)
