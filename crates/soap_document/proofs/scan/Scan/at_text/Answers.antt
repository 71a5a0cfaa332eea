use Rattle.std.proofs.Common.{sym, ◌∙◌}
use Rattle.soap_document.specs.Seen.{seen}
use Rattle.soap_document.proofs.Words.{refused_text, open_text}
use Rattle.soap_document.proofs.scan.Scan.at_text.Goals as goal

pub returns-then-is_refused : goal.returns-then-is_refused
returns-then-is_refused c = λ top below.
    c.refuse.ensures top below ∙ sym (refused_text (seen c.args.self.now top below)
    (sym (c.is_refused.ensures c.args.self.now.text.items) ∙ c.if-is_refused.true))

pub returns-else-is_refused : goal.returns-else-is_refused
returns-else-is_refused c = λ top below.
    sym (open_text (seen c.args.self.now top below)
    (sym (c.is_refused.ensures c.args.self.now.text.items) ∙ c.if-is_refused.false))
