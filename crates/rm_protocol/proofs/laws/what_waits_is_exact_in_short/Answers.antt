use Rattle.rm_protocol.proofs.ExactLemmas.{exact-in-short}
use Rattle.rm_protocol.proofs.laws.what_waits_is_exact_in_short.Goals as goal

pub returns : goal.returns
returns c = exact-in-short c.a_snapshot_says_the_same.ensures
