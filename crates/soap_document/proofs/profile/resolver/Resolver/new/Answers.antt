use Rattle.std.proofs.Common.{[], refl}
use Rattle.soap_document.specs.Profile.Resolving.{sound}
use Rattle.soap_document.proofs.profile.resolver.Resolver.new.Goals as goal

pub returns-clause-stands : goal.returns-clause-stands
returns-clause-stands c = sound [] refl c.in_ok-new.ensures (rw (c.in_ok-untagged.ensures, c.new-2.ensures.items))
