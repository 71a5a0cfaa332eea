use Rattle.rm_host.proofs.WordLemmas.{no-end}
use Rattle.rm_host.proofs.words.end_of.Goals as goal

pub returns-in-None : goal.returns-in-None
returns-in-None c = no-end c.args.words.now c.in-None.ensures
