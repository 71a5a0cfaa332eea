use Rattle.std.proofs.Common.{◌≡◌, [], rules}
use Rattle.soap_document.specs.Machine.{at_less}
use Rattle.soap_document.specs.Seen.{Sees}
use Rattle.soap_document.proofs.Seeing.{seeing, sees}
use Rattle.soap_document.proofs.reader.Reader.begin_markup.Goals as goal

pub returns-else-byte-eq63-clause-sees : goal.returns-else-byte-eq63-clause-sees
returns-else-byte-eq63-clause-sees g c =
    let stands = g.H.Handler.stands in
    seeing stands c.args.self.now (λ s. s.token ≡ [] → Sees stands _ (at_less s c.args.byte)) (λ top below h e.
    sees stands _ top below _ h (search (rules, c.refuse.ensures top below)))
