use Rattle.rm_protocol.proofs.ExactLemmas.{exact-after, exact-mounted}
use Rattle.rm_protocol.proofs.laws.what_waits_stays_exact.Goals as goal

pub returns-clause-mounted : goal.returns-clause-mounted
returns-clause-mounted c r k = exact-mounted r k

pub returns-clause-after : goal.returns-clause-after
returns-clause-after c r delta moves time waits h fit begins exact k =
    exact-after r delta moves time waits h fit begins exact k
