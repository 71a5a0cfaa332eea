use Rattle.std.proofs.Common.{List, sym, subst, arith}
use Rattle.rm_script.specs.Script.{IsScript}
use Rattle.rm_script.specs.declared.event.Event.{Event}
use Rattle.rm_script.specs.Soak.Soak.{soak_lines}
use Rattle.rm_script.proofs.SoakLemmas.SoakLemmas.{soak_lines-lines, events_of, lines_have_no_lf, length-ended}
use Rattle.rm_script.proofs.soak.laws.a_soak_is_a_script.Goals as goal

pub returns-clause-script : goal.returns-clause-script
returns-clause-script c = λ n.
    let lines = soak_lines n in
    let each = (soak_lines-lines n).each in
    subst (λ read. (events : List Event) × IsScript read events)
    (sym (c.lines_read_back.ensures.all lines (lines_have_no_lf lines each))) (events_of lines each)

pub returns-clause-short : goal.returns-clause-short
returns-clause-short c = λ n.
    let lines = soak_lines-lines n in omega (arith, length-ended (soak_lines n) lines.each, lines.few)
