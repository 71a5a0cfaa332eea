use Rattle.rm_replay.proofs.PlayedLemmas.{run_of}
use Rattle.rm_replay.proofs.laws.a_played_script_is_a_run.Goals as goal

pub returns : goal.returns
returns c = run_of c.a_run_goes_on.ensures.run
