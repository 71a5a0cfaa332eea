use Rattle.std.proofs.Common.{Bool, Some, sym, ap, ◌∙◌}
use Rattle.soap_pieces.specs.Stage.{told}
use Rattle.soap_pieces.proofs.Ends.{asked_by}
use Rattle.soap_pieces.proofs.ended.is_document.Goals as goal

pub returns-in-Some : goal.returns-in-Some
returns-in-Some c = λ e. told (sym c.says_root.ensures ∙ c.in-Some.is ∙ ap (λ (b : Bool). Some b) e)

pub returns-in-None : goal.returns-in-None
returns-in-None c =
    asked_by c.args.answer.now c.args.bytes.now c.has_root.result (sym c.says_root.ensures ∙ c.in-None.is)
    c.has_root.ensures
