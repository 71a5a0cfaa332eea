use Rattle.std.proofs.Common.{◌≡◌, List, ◌∷◌, ◌++◌, Some, map, reverse, sym, ap, subst, ◌∙◌}
use Rattle.std.proofs.lemmas.Result.{on_ok_weaker}
use Rattle.soap_document.specs.Profile.Opened.{Nest, nest}
use Rattle.soap_document.specs.Profile.Resolving.{sound, broken, nest_view, opened_view}
use Rattle.soap_document.specs.Profile.Scope.{InForce}
use Rattle.soap_document.specs.Profile.Tree.{element}
use Rattle.soap_document.specs.Profile.View.{element_view, decls_view, attrs_view, parts_view}
use Rattle.soap_document.specs.declared.profile.resolver.Opened.{Opened}
use Rattle.soap_document.specs.declared.profile.tree.Item.{Item}
use Rattle.soap_document.proofs.ProfileLemmas.Items.{element_is}
use Rattle.soap_document.proofs.ProfileLemmas.Nests.{nest-child, closes, stays_broken, element_of, tree_of}
use Rattle.soap_document.proofs.ProfileLemmas.Resolvers.{sound_is, broken_is, below_popped, child_closed}
use Rattle.soap_document.proofs.profile.resolver.ResolverHandler.close.Goals as goal

pub returns-then-self-clause-made : goal.returns-then-self-clause-made
returns-then-self-clause-made c = λ top outer below h.
    let raw = element_of top c.args.end in
    broken c.if-self.true (nest-child outer below raw ∙ stays_broken top (nest outer below) c.args.end (broken_is
    c.args.self.now top (outer ∷ below) h c.if-self.true))

pub returns-clause-made : goal.returns-clause-made
returns-clause-made c = λ top outer below h.
    let self = c.args.self.now in
    let end = c.args.end in
    let inner = c.replace-inner.result in
    let raw = element_of top end in
    let s = sound_is self top (outer ∷ below) h c.if-self.false in
    let k = closes top (nest outer below) end (nest_view self s.bindings) s.is in
    let popped : k.outer.top ∷ k.outer.below
    ≡ opened_view c.in-Some.outer ∷ reverse (map opened_view c.pop.new.self.items) =
    sym k.below ∙ below_popped self.below.items c.pop.new.self.items c.pop.result c.in-Some.outer c.pop.ensures.items
    c.in-Some.is in
    let within : s.bindings ≡ decls_view c.as_slice.result.now ++ k.outer.scope =
    k.scope ∙ ap (λ (items : List Item). decls_view items ++ k.outer.scope) (sym (c.as_slice.ensures.value
    ∙ ap (λ (o : Opened). o.element.items.items) c.replace-inner.ensures.value)) in
    let left : InForce c.leave.new.self k.outer.scope =
    c.leave.ensures k.outer.scope (subst (InForce self.scope) within s.within) in
    let made : element_view _ ≡ tree_of (opened_view inner) =
    element_is (record { name = inner.element.name; items = c.in_ok-items.items })
    ∙ ap (λ (xs : List Item). element inner.element.name (decls_view xs) (attrs_view xs) (parts_view xs))
    c.in_ok-items.ensures in
    on_ok_weaker c.add.result (λ e. sound k.outer.scope c.if-self.false left (nest-child outer below raw
    ∙ k.closed ∙ ap (λ (n : Nest). Some n) (child_closed k.outer end self.top inner c.in-Some.outer
    c.replace-inner.new.dest _ _ (reverse (map opened_view c.pop.new.self.items)) c.replace-inner.ensures.value
    c.replace-inner.ensures.after popped made e))) c.add.ensures
