use Rattle.soap_document.proofs.Seeing.{takes_ok}
use Rattle.soap_document.proofs.reader.Reader.take.Goals as goal

pub returns-in-ValueInner-clause-sees : goal.returns-in-ValueInner-clause-sees
returns-in-ValueInner-clause-sees g c =
    takes_ok g.H.Handler.stands c.args.self.now c.take_value.new.self c.args.bytes.now c.take_value.result
    c.take_value.ensures.taken
