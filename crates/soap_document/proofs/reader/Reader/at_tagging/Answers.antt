use Rattle.std.proofs.Common.{rules}
use Rattle.soap_document.specs.Machine.{State, at_tagging}
use Rattle.soap_document.proofs.Seeing.{scans}
use Rattle.soap_document.proofs.reader.Reader.at_tagging.Goals as goal

pub returns-else-byte-eq47-clause-sees : goal.returns-else-byte-eq47-clause-sees
returns-else-byte-eq47-clause-sees g c =
    scans g.H.Handler.stands c.args.self.now c.refuse.new.self (λ (s : State). at_tagging s c.args.byte)
    (λ top below h. search (rules, c.refuse.ensures top below))
