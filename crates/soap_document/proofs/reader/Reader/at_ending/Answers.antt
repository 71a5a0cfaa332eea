use Rattle.std.proofs.Common.{rules, List, sym, ◌∙◌}
use Rattle.soap_document.specs.Tree.{element, child, none}
use Rattle.soap_document.specs.Machine.{Frame, State, closed, with_parts}
use Rattle.soap_document.specs.Seen.{seen, Holds, Sees}
use Rattle.soap_document.proofs.Seeing.{steps, scans, sees}
use Rattle.soap_document.proofs.Steps.{some_open}
use Rattle.soap_document.proofs.reader.Reader.at_ending.Goals as goal
use Rattle.soap_document.proofs.reader.Reader.at_ending.Goals.{then-is_outside-via-then-is_outside}
use Rattle.soap_document.proofs.reader.Reader.at_ending.Goals.{then-is_outside-via-else-is_outside+then-not-is_end}

pub returns-then-is_outside-clause-sees : goal.returns-then-is_outside-clause-sees
returns-then-is_outside-clause-sees g c =
    scans g.H.Handler.stands c.args.self.now c.refuse.new.self (λ (s : State). closed s.below s) (λ top below h.
    elim c.then-is_outside.branch [
      | then-is_outside-via-then-is_outside w ↦
          search (rules, c.refuse.ensures top below, c.is_outside.ensures.outside top below h)
      | then-is_outside-via-else-is_outside+then-not-is_end w ↦
          search (
            rules,
            c.refuse.ensures top below,
            c.is_outside.ensures.outside top below h,
            w.name.ensures top
                below h,
          )
    ])

pub returns-clause-sees : goal.returns-clause-sees
returns-clause-sees g c =
    let stands = g.H.Handler.stands in
    let scan = c.args.self.now.scan in
    let close = λ (s : State). closed s.below s in
    steps stands c.args.self.now _ close (λ top below h.
    some_open (λ (b : List Frame). Holds stands c.args.self.now.stack top b → Sees stands _ (close (seen scan top b)))
    (λ outer frames held.
    let parent =
    with_parts outer (child (element top.name top.attributes top.start scan.markup top.parts) none) in
    let closes = c.in_ok-close.ensures.holds top outer frames held in
    let calms = c.calm.ensures parent frames (c.is_outside-2.ensures.outside parent frames closes) in
    sees stands _ parent frames _ closes (search (rules, calms, c.name.ensures top below h))) below
    (sym (c.is_outside.ensures.outside top below h) ∙ c.if-is_outside.false) h)
