use Rattle.std.proofs.Common.{rules, ◌≡◌, true, ◌&&◌, OnOk, refl, sym, subst, ◌∙◌}
use Rattle.soap_document.specs.Machine.{State, at_less, has_room, settle}
use Rattle.soap_document.specs.Tokens.{is_qname}
use Rattle.soap_document.specs.Seen.{seen, Sees}
use Rattle.std.proofs.lemmas.Result.{on_ok_weaker}
use Rattle.soap_document.proofs.Seeing.{seeing, scans, sees}
use Rattle.soap_document.proofs.Steps.{not_nil, less_named}
use Rattle.soap_document.proofs.reader.Reader.at_less.Goals as goal
use Rattle.soap_document.proofs.reader.Reader.at_less.Goals.{then-not-is_qname-via-then-not-is_qname}
use Rattle.soap_document.proofs.reader.Reader.at_less.Goals.{then-not-is_qname-via-else-not-is_qname+then-not-has_room}

pub returns-then-not-is_qname-clause-sees : goal.returns-then-not-is_qname-clause-sees
returns-then-not-is_qname-clause-sees g c =
    scans g.H.Handler.stands c.args.self.now c.refuse.new.self (λ (s : State). at_less s c.args.byte) (λ top below h.
    elim c.then-not-is_qname.branch [
      | then-not-is_qname-via-then-not-is_qname w ↦ search (rules, c.refuse.ensures top below)
      | then-not-is_qname-via-else-not-is_qname+then-not-has_room w ↦
          search (rules, c.refuse.ensures top below, w.has_room.ensures top below h)
    ])

pub returns-clause-sees : goal.returns-clause-sees
returns-clause-sees g c =
    let stands = g.H.Handler.stands in
    let token = c.args.self.now.scan.token in
    let some = not_nil token.items _ token.ok.0 (sym c.is_empty.ensures ∙ c.if-is_empty.false) in
    let named = λ (s : State). record s { name = s.token } in
    seeing stands c.args.self.now (λ s. OnOk c.at_tagging.result (Sees stands c.at_tagging.new.self (at_less s
    c.args.byte))) (λ top below h.
    let s = seen c.args.self.now.scan top below in
    let fits : (is_qname token.items && has_room below top.parts) ≡ true =
    search (rules, c.has_room.ensures top below h) in
    let settles = c.in_ok-settle.ensures.sees s (sees stands c.args.self.now top below s h refl) in
    let names = scans stands c.settle.new.self _ named (λ inner outer held. search rules) (settle s) settles in
    on_ok_weaker c.at_tagging.result (subst (λ (x : State). Sees stands c.at_tagging.new.self x) (less_named s
    c.args.byte some fits)) (c.at_tagging.ensures.sees (named (settle s)) names))
