use Rattle.rm_script.specs.Script.{Says}
use Rattle.rm_script.specs.Within.{IsWithin}
use Rattle.rm_script.specs.SaidLemmas.{AreSaid-All}
use Rattle.rm_script.proofs.WithinLemmas.{Says-IsWithin}
use Rattle.rm_script.proofs.laws.values_are_within.Goals as goal

pub returns : goal.returns
returns c = AreSaid-All Says IsWithin Says-IsWithin
