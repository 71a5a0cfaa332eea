use Rattle.soap_document.specs.Machine.{State, at_naming}
use Rattle.soap_document.proofs.Seeing.{scans_ok}
use Rattle.soap_document.proofs.reader.Reader.at_naming.Goals as goal

pub returns-clause-sees : goal.returns-clause-sees
returns-clause-sees g c =
    scans_ok g.H.Handler.stands c.args.self.now c.at_attribute.new.self (λ (s : State). at_naming s c.args.byte)
    c.at_attribute.result c.at_attribute.ensures
