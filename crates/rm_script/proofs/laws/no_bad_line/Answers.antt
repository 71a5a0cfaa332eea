use Rattle.rm_script.specs.Script.{Says}
use Rattle.rm_script.specs.SaidLemmas.{IsFirstUnsaid-none}
use Rattle.rm_script.proofs.laws.no_bad_line.Goals as goal

pub returns : goal.returns
returns c = IsFirstUnsaid-none Says
