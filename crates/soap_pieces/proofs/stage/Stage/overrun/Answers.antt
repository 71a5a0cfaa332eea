use Rattle.std.proofs.Common.{sym, ◌∙◌}
use Rattle.soap_pieces.proofs.stage.Stage.overrun.Goals as goal

pub returns-clause-short : goal.returns-clause-short
returns-clause-short c = λ e.
    let wrong = sym c.if-is_short.false ∙ c.is_short-is_short.ensures ∙ e in absurd (cc)
