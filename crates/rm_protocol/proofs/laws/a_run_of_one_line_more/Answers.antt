use Rattle.rm_protocol.proofs.LineLemmas.{run-next, lines-next}
use Rattle.rm_protocol.proofs.laws.a_run_of_one_line_more.Goals as goal

pub returns-clause-run : goal.returns-clause-run
returns-clause-run c = run-next

pub returns-clause-lines : goal.returns-clause-lines
returns-clause-lines c = lines-next
