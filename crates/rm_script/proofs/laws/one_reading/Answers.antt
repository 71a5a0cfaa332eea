use Rattle.rm_script.proofs.ScriptLemmas.{IsScript-one}
use Rattle.rm_script.proofs.laws.one_reading.Goals as goal

pub returns : goal.returns
returns c = IsScript-one
