use Rattle.std.proofs.Common.{rules, ◌≡◌, [], sym, ◌∙◌}
use Rattle.soap_document.specs.Tree.{none, onto}
use Rattle.soap_document.specs.Machine.{with_parts, settle}
use Rattle.soap_document.specs.Seen.{seen}
use Rattle.soap_document.proofs.Seeing.{steps, scans, sees}
use Rattle.soap_document.proofs.Steps.{settled_empty}
use Rattle.soap_lex.specs.Facts.{nil_from_len}
use Rattle.soap_document.proofs.reader.Reader.settle.Goals as goal

pub returns-then-is_empty-clause-sees : goal.returns-then-is_empty-clause-sees
returns-then-is_empty-clause-sees g c =
    let scan = c.args.self.now.scan in
    let empty : scan.text.items ≡ [] =
    nil_from_len scan.text.items _ scan.text.ok.0 (sym c.is_empty.ensures ∙ c.if-is_empty.true) in
    scans g.H.Handler.stands c.args.self.now _ settle (λ top below h.
    search (rules, c.restart.ensures scan.text.items, settled_empty (seen scan top below) empty))

pub returns-clause-sees : goal.returns-clause-sees
returns-clause-sees g c =
    let stands = g.H.Handler.stands in
    steps stands c.args.self.now _ settle (λ top below h.
    let grown = with_parts top (onto c.args.self.now.scan.text.items none) in
    sees stands _ grown below _ (search (rules, c.in_ok-text.ensures.holds top below h))
    (search (rules, c.restart.ensures c.clear.new.self.items)))
