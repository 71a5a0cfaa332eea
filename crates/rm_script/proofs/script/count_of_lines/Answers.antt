use Rattle.std.proofs.Common.{sym, ap, ◌∙◌, ◌+◌, length}
use Rattle.rm_script.specs.Script.{lines_of}
use Rattle.rm_script.proofs.LineLemmas.{length-lines_of}
use Rattle.rm_script.proofs.script.count_of_lines.Goals as goal

pub returns-in-Some : goal.returns-in-Some
returns-in-Some c =
    let parts = c.in-Some.ensures.cases in
    ap (λ n. n + 1) c.count_of_ends.ensures
    ∙ sym (ap (λ l. length (lines_of l)) parts.0 ∙ length-lines_of c.in-Some.front.now c.in-Some.field-0-0.now)
