use Rattle.soap_lex.proofs.CodedLemmas.{IsChars-past}
use Rattle.soap_lex.proofs.tokens.after_chars.Goals as goal

pub loop-others-preserved : goal.loop-others-preserved
loop-others-preserved c =
    let step = IsChars-past c.loop-others.rest.now c.in-Some.others.now c.in-Some.ensures.begins in
    let before = c.loop-others.invariant in
    (λ is. before.0 (step.0 is), λ is. step.1 (before.1 is))
