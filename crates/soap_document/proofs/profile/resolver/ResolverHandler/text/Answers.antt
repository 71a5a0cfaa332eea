use Rattle.std.proofs.Common.{option_map, ap, ◌∙◌}
use Rattle.soap_document.specs.Machine.{with_parts}
use Rattle.soap_document.specs.Tree as written
use Rattle.soap_document.specs.Profile.Opened.{nest}
use Rattle.soap_document.specs.Profile.Resolving.{sound}
use Rattle.soap_document.proofs.ProfileLemmas.Nests.{nest-text, with_text}
use Rattle.soap_document.proofs.ProfileLemmas.Resolvers.{sound_is, still_broken, text_some, grows_text}
use Rattle.soap_document.proofs.profile.resolver.ResolverHandler.text.Goals as goal

pub returns-then-self-clause-made : goal.returns-then-self-clause-made
returns-then-self-clause-made c = λ top below h.
    still_broken c.args.self.now top below (written.onto c.args.text.now written.none) c.if-self.true h

pub returns-clause-made : goal.returns-clause-made
returns-clause-made c = λ top below h.
    let self = c.args.self.now in
    let bytes = c.args.text.now in
    let s = sound_is self top below h c.if-self.false in
    let grows = grows_text self.top.element.items.items c.push.new.self.items c.in_ok-text.text
    c.in_ok-push.ensures.items in
    sound s.bindings c.if-self.false s.within (
    ap (λ more. nest (with_parts top more) below) (text_some bytes c.requires)
    ∙ nest-text top below bytes ∙ ap (option_map (with_text bytes)) s.is
    ∙ rw (grows.decls, grows.attrs, grows.parts, c.in_ok-text.ensures))
