use Rattle.rm_protocol.proofs.LineLemmas.{noise-world, noise-outcome}
use Rattle.rm_protocol.proofs.laws.what_is_refused_is_noise.Goals as goal

pub returns-clause-world : goal.returns-clause-world
returns-clause-world c = noise-world

pub returns-clause-outcome : goal.returns-clause-outcome
returns-clause-outcome c = noise-outcome
