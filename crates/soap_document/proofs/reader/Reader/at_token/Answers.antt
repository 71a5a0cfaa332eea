use Rattle.std.proofs.Common.{sym, ap, ◌∙◌}
use Rattle.soap_document.specs.Machine.{after_token}
use Rattle.soap_document.proofs.Places.{after_token-at}
use Rattle.soap_document.proofs.Seeing.{counts}
use Rattle.soap_document.proofs.reader.Reader.at_token.Goals as goal

pub returns-clause-sees : goal.returns-clause-sees
returns-clause-sees g c = λ s h.
    counts g.H.Handler.stands c.end.new.self (after_token s.mode s c.args.byte) c.args.self.now.scan.at
    (ap (λ x. x.at) h.is ∙ sym (after_token-at s.mode s c.args.byte)) (c.in_ok-end.ensures.sees s h)
