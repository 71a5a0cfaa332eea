use Rattle.std.proofs.Common.{◌≡◌, Some, None, refl, ap, ◌∙◌}
use Rattle.std.proofs.lemmas.Result.{on_ok_weaker}
use Rattle.soap_document.specs.Machine.{with_parts}
use Rattle.soap_document.specs.Tree as written
use Rattle.soap_document.specs.Profile.Namespaces.{tag_of}
use Rattle.soap_document.specs.Profile.Opened.{Nest, nest, start_tag}
use Rattle.soap_document.specs.Profile.Resolving.{sound, broken, nest_view}
use Rattle.soap_document.specs.Profile.Scope.{InForce}
use Rattle.soap_document.specs.Profile.View.{tag_view}
use Rattle.soap_document.proofs.ProfileLemmas.Nests.{nest-child, with_resolved, with_child, with_resolved_tag, begun}
use Rattle.soap_document.proofs.ProfileLemmas.Nests.{element_of}
use Rattle.soap_document.proofs.ProfileLemmas.Resolvers.{sound_is, still_broken, tagged, untagged, entered, child_added}
use Rattle.soap_document.proofs.profile.resolver.ResolverHandler.empty.Goals as goal

pub returns-then-self-clause-made : goal.returns-then-self-clause-made
returns-then-self-clause-made c = λ top below h.
    still_broken c.args.self.now top below _ c.if-self.true h

pub returns-in_default-clause-made : goal.returns-in_default-clause-made
returns-in_default-clause-made c = λ top below h.
    let self = c.args.self.now in
    let attributes = c.args.attributes.now in
    let place = c.args.place in
    let frame = begun c.args.name.now attributes place in
    let raw = element_of frame place in
    let s = sound_is self top below h c.if-self.false in
    let named = untagged (tag_of s.bindings c.args.name.now attributes) c.in_ok-element.field-0
    (c.in_ok-element.ensures.tag s.bindings s.within) c.in_default.is in
    broken refl (nest-child top below raw ∙ ap (with_resolved raw) s.is
    ∙ with_resolved_tag frame (nest_view self s.bindings) place None named)

pub returns-clause-made : goal.returns-clause-made
returns-clause-made c = λ top below h.
    let self = c.args.self.now in
    let attributes = c.args.attributes.now in
    let place = c.args.place in
    let element = c.in-Some.element in
    let frame = begun c.args.name.now attributes place in
    let raw = element_of frame place in
    let s = sound_is self top below h c.if-self.false in
    let t = tagged (tag_of s.bindings c.args.name.now attributes) c.in_ok-element.field-0 element
    (c.in_ok-element.ensures.tag s.bindings s.within) c.in-Some.is in
    let inside = entered c.in_ok-element.field-0 element c.resolved_tag.new.scope s.bindings c.in-Some.is
    (c.in_ok-element.ensures.within s.bindings s.within) in
    let left : InForce c.leave.new.self s.bindings = c.leave.ensures s.bindings (rw c.as_slice.ensures.value inside) in
    let grown : nest (with_parts top (written.child raw written.none)) below
    ≡ Some (with_child raw (nest_view self s.bindings) (start_tag (tag_view element))) =
    nest-child top below raw ∙ ap (with_resolved raw) s.is
    ∙ with_resolved_tag frame (nest_view self s.bindings) place (Some (tag_view element)) t.tag in
    on_ok_weaker c.add.result (λ e. sound s.bindings c.if-self.false left (grown
    ∙ ap (λ (n : Nest). Some n) (child_added (nest_view self s.bindings) raw _ _ _ t.tree e))) c.add.ensures
