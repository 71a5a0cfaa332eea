use Rattle.timers.proofs.PendingLemmas.LimitLemmas.{stays-within}
use Rattle.timers.proofs.pending.laws.what_waits_is_within_the_limits.Goals as goal

pub returns : goal.returns
returns g c = stays-within _
