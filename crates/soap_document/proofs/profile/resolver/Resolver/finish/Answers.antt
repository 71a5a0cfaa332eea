use Rattle.std.proofs.Common.{[], sym, ap, ◌∙◌}
use Rattle.soap_document.proofs.ProfileLemmas.Nests.{rooted_nest, alone_within}
use Rattle.soap_document.proofs.ProfileLemmas.Resolvers.{broken_is}
use Rattle.soap_document.proofs.profile.resolver.Resolver.finish.Goals as goal

pub returns-then-broken : goal.returns-then-broken
returns-then-broken c = λ top h.
    sym (rooted_nest top ∙ ap alone_within (broken_is c.args.self top [] h c.if-broken.true))
