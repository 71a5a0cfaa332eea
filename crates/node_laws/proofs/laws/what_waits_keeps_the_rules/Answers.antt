use Rattle.node_laws.proofs.Polls.{polls-kept}
use Rattle.node_laws.proofs.laws.what_waits_keeps_the_rules.Goals as goal

pub returns : goal.returns
returns c = polls-kept
