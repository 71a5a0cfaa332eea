use Rattle.std.proofs.Common.{rules, ◌+◌, ◌∷◌, refl}
use Rattle.soap_document.specs.Tree.{none}
use Rattle.soap_document.specs.Machine.{Frame, opened}
use Rattle.soap_document.proofs.Seeing.{steps, sees}
use Rattle.soap_document.proofs.reader.Reader.open.Goals as goal

pub returns-clause-sees : goal.returns-clause-sees
returns-clause-sees g c =
    let stands = g.H.Handler.stands in
    let scan = c.args.self.now.scan in
    let inner : Frame = record {
      name = scan.name;
      attributes = scan.attributes.items;
      start = scan.at + 1;
      parts = none;
    } in
    steps stands c.args.self.now _ opened (λ top below h. sees stands _ inner (top ∷ below) _
    (search (rules, c.in_ok-open.ensures.holds top below h)) (search (rules, c.calm.ensures inner (top ∷ below) refl)))
