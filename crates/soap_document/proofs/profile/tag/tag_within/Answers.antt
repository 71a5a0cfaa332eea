use Rattle.std.proofs.Common.{Some, sym, ap, ◌∙◌}
use Rattle.soap_document.specs.Profile.Items.{decls_among}
use Rattle.soap_document.specs.Profile.Namespaces.{are_distinct_names}
use Rattle.soap_document.specs.Profile.Tree.{Element}
use Rattle.soap_document.specs.Profile.View.{attrs_view}
use Rattle.soap_document.proofs.ProfileLemmas.Items.{element_is, decls-declarations}
use Rattle.soap_document.proofs.ProfileLemmas.Tags.{tag_resolved, tag_bare}
use Rattle.soap_document.proofs.profile.tag.tag_within.Goals as goal

pub returns-then-are_many_bare-clause-tag : goal.returns-then-are_many_bare-clause-tag
returns-then-are_many_bare-clause-tag c = λ bindings decls h o.
    ap (λ (e : Element). Some e) (element_is (record { name = c.in-Some.name; items = c.expanded.new.items }))
    ∙ tag_bare bindings decls c.args.attributes.now _ c.args.items.items c.expanded.new.items.items c.in-Some.name _ o
    (sym (c.in_ok-name.ensures.name bindings h) ∙ c.in-Some.is)
    (c.in_ok-expanded.ensures.attrs bindings (c.in_ok-name.ensures.same bindings h)) c.if-not-branch.false
    (c.are_many_bare.ensures c.if-are_many_bare.true) c.requires

pub returns-then-are_many_bare-clause-decls : goal.returns-then-are_many_bare-clause-decls
returns-then-are_many_bare-clause-decls c = λ decls o.
    c.in_ok-expanded.ensures.decls ∙ ap decls_among o ∙ decls-declarations decls

pub returns-then-not-branch-2-clause-tag : goal.returns-then-not-branch-2-clause-tag
returns-then-not-branch-2-clause-tag c = λ bindings decls h o.
    tag_resolved decls _ _ c.args.items.items c.expanded.new.items.items c.in-Some.name _ _ o
    (sym (c.in_ok-name.ensures.name bindings h) ∙ c.in-Some.is)
    (c.in_ok-expanded.ensures.attrs bindings (c.in_ok-name.ensures.same bindings h)) c.if-not-branch.false
    (ap (λ xs. are_distinct_names (attrs_view xs)) (sym c.as_slice.ensures.value)
    ∙ sym c.in_ok-are_distinct_names.ensures ∙ c.if-not-branch-2.true)

pub returns-clause-tag : goal.returns-clause-tag
returns-clause-tag c = λ bindings decls h o.
    ap (λ (e : Element). Some e) (element_is (record { name = c.in-Some.name; items = c.expanded.new.items }))
    ∙ tag_resolved decls _ _ c.args.items.items c.expanded.new.items.items c.in-Some.name _ _ o
    (sym (c.in_ok-name.ensures.name bindings h) ∙ c.in-Some.is)
    (c.in_ok-expanded.ensures.attrs bindings (c.in_ok-name.ensures.same bindings h)) c.if-not-branch.false
    (ap (λ xs. are_distinct_names (attrs_view xs)) (sym c.as_slice.ensures.value)
    ∙ sym c.in_ok-are_distinct_names.ensures ∙ c.if-not-branch-2.false)

pub returns-clause-decls : goal.returns-clause-decls
returns-clause-decls c = λ decls o. c.in_ok-expanded.ensures.decls ∙ ap decls_among o ∙ decls-declarations decls
