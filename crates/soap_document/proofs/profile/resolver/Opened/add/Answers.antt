use Rattle.soap_document.proofs.ProfileLemmas.Resolvers.{grows_child}
use Rattle.soap_document.proofs.profile.resolver.Opened.add.Goals as goal

pub returns : goal.returns
returns c =
    let old = c.args.self.now.element.items.items in
    let grows = grows_child old c.push.new.self.items c.args.element c.in_ok-push.ensures.items in
    rw (grows.decls, grows.attrs, grows.parts)
