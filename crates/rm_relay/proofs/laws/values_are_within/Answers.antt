use Rattle.rm_script.specs.SaidLemmas.{AreSaid-All}
use Rattle.rm_relay.specs.Script.{Says}
use Rattle.rm_relay.specs.Within.{IsWithin}
use Rattle.rm_relay.proofs.WithinLemmas.{Says-IsWithin}
use Rattle.rm_relay.proofs.laws.values_are_within.Goals as goal

pub returns : goal.returns
returns c = AreSaid-All Says IsWithin Says-IsWithin
