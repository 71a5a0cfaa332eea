use Rattle.std.proofs.Common.{◌≡◌, List, [], ◌∷◌, ◌++◌, map, reverse, ap, ◌∙◌}
use Rattle.std.proofs.lemmas.Result.{on_ok_weaker}
use Rattle.soap_document.specs.Profile.Namespaces.{tag_of}
use Rattle.soap_document.specs.Profile.Opened.{within, within_all}
use Rattle.soap_document.specs.Profile.Resolving.{sound, broken, nest_view, opened_view}
use Rattle.soap_document.specs.Profile.View.{decls_view}
use Rattle.soap_document.specs.declared.profile.resolver.Opened.{Opened}
use Rattle.soap_document.proofs.ProfileLemmas.Nests.{begun}
use Rattle.soap_document.proofs.ProfileLemmas.Resolvers.{sound_is, broken_is, below_pushed, tagged, untagged, entered}
use Rattle.soap_document.proofs.profile.resolver.ResolverHandler.open.Goals as goal

pub returns-then-self-clause-made : goal.returns-then-self-clause-made
returns-then-self-clause-made c = λ top below h.
    on_ok_weaker c.skip.result (λ e. broken e (ap (within_all
    (begun c.args.name.now c.args.attributes.now c.args.start))
    (broken_is c.args.self.now top below h c.if-self.true))) c.skip.ensures.broken

pub returns-in_default-clause-made : goal.returns-in_default-clause-made
returns-in_default-clause-made c = λ top below h.
    let self = c.args.self.now in
    let attributes = c.args.attributes.now in
    let frame = begun c.args.name.now attributes c.args.start in
    let s = sound_is self top below h c.if-self.false in
    on_ok_weaker c.skip-in_default.result (λ e. broken e (ap (within_all frame) s.is
    ∙ ap (within frame (nest_view self s.bindings)) (untagged (tag_of s.bindings
    c.args.name.now attributes) c.in_ok-element.field-0 (c.in_ok-element.ensures.tag s.bindings s.within)
    c.in_default.is))) c.skip-in_default.ensures.broken

pub returns-clause-made : goal.returns-clause-made
returns-clause-made c = λ top below h.
    let self = c.args.self.now in
    let attributes = c.args.attributes.now in
    let element = c.in-Some-2.element in
    let frame = begun c.args.name.now attributes c.args.start in
    let s = sound_is self top below h c.if-self.false in
    let t = tagged (tag_of s.bindings c.args.name.now attributes) c.in_ok-element.field-0 element
    (c.in_ok-element.ensures.tag s.bindings s.within) c.in-Some-2.is in
    let inside = entered c.in_ok-element.field-0 element c.resolved_tag.new.scope s.bindings c.in-Some-2.is
    (c.in_ok-element.ensures.within s.bindings s.within) in
    let around : reverse (map opened_view c.push.new.self.items)
    ≡ opened_view self.top ∷ reverse (map opened_view self.below.items) =
    ap (λ (xs : List Opened). reverse (map opened_view xs)) (c.in_ok-push.ensures.items
    ∙ ap (λ (o : Opened). self.below.items ++ o ∷ []) c.replace-outer.ensures.value)
    ∙ below_pushed self.below.items self.top in
    sound (decls_view element.items.items ++ s.bindings) c.if-self.false inside (ap (within_all frame) s.is
    ∙ ap (within frame (nest_view self s.bindings)) t.tag
    ∙ rw (c.replace-outer.ensures.after, t.parts, around))
