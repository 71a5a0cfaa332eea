use Rattle.std.proofs.Common.{rules, ◌+◌}
use Rattle.soap_document.specs.Tree.{element, child, none}
use Rattle.soap_document.specs.Machine.{State, slashed, after_token, with_parts}
use Rattle.soap_document.specs.Seen.{Holds}
use Rattle.soap_document.proofs.Seeing.{steps, scans, sees}
use Rattle.soap_document.proofs.reader.Reader.at_slashed.Goals as goal

pub returns-then-byte-ne62-clause-sees : goal.returns-then-byte-ne62-clause-sees
returns-then-byte-ne62-clause-sees g c =
    scans g.H.Handler.stands c.args.self.now c.refuse.new.self (λ (s : State). after_token slashed s c.args.byte)
    (λ top below h. search (rules, c.refuse.ensures top below))

pub returns-clause-sees : goal.returns-clause-sees
returns-clause-sees g c =
    let stands = g.H.Handler.stands in
    let scan = c.args.self.now.scan in
    let place = scan.at + 1 in
    steps stands c.args.self.now _ (λ (s : State). after_token slashed s c.args.byte) (λ top below h.
    let parent = with_parts top (child (element scan.name scan.attributes.items place place none) none) in
    let held : Holds stands c.empty.new.self parent below = search (rules, c.in_ok-empty.ensures.holds top below h) in
    sees stands _ parent below _ held
    (search (rules, c.calm.ensures parent below (c.is_outside.ensures.outside parent below held))))
