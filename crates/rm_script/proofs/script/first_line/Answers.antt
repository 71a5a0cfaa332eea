use Rattle.std.proofs.Common.{sym}
use Rattle.std.proofs.lemmas.List.{take_rest}
use Rattle.rm_script.proofs.LineLemmas.{lines_of-some, lines_of-none}
use Rattle.rm_script.proofs.script.first_line.Goals as goal

pub returns-in-Some-clause-lines : goal.returns-in-Some-clause-lines
returns-in-Some-clause-lines c =
    rw take_rest (lines_of-some c.args.bytes.now c.in-Some.end c.in-Some.ensures.within (sym c.in-Some.ensures.end))

pub returns-in-None-clause-lines : goal.returns-in-None-clause-lines
returns-in-None-clause-lines c = lines_of-none c.args.bytes.now c.requires (sym c.in-None.ensures.end)
