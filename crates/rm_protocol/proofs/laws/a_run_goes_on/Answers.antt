use Rattle.rm_protocol.proofs.LineLemmas.{run-append, lines-append}
use Rattle.rm_protocol.proofs.laws.a_run_goes_on.Goals as goal

pub returns-clause-run : goal.returns-clause-run
returns-clause-run c = run-append

pub returns-clause-lines : goal.returns-clause-lines
returns-clause-lines c = lines-append
